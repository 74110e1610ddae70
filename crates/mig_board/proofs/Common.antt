-- The names that the proofs of this crate cite, passed on from one place. Declares nothing.
pub use Rattle.mig_base.proofs.Common.{All, All-contains, AllPairs, Bool, Contains, Contains-from_any, Global, List, MatchBool, MatchOption, None, Option, Some, Vec, [], ap, append-nil}
pub use Rattle.mig_base.proofs.Common.{append_assoc, arith, cond, count_by, div_ceil_times, drop, eq-eqb, eqb, eqb-true, false, false≢true, get_or, get_or-replicate, get_or-take, get_or_default}
pub use Rattle.mig_base.proofs.Common.{get_or_from_slice_get, inl, inr, length, length-append, length-drop, length-replicate, length-set, length-take-le, mul_comm, ne_eqb, none-some, or_right}
pub use Rattle.mig_base.proofs.Common.{recursion_from_All, refl, replicate, same_Some, set, slice_get, slice_get-get_or, slice_get_read, slice_get_within, subst, suc, sum_by-cons, sym, take}
pub use Rattle.mig_base.proofs.Common.{true, vec_len, zero, ℕ, ◌%◌, ◌*◌, ◌++◌, ◌+◌, ◌/◌, ◌<◌, ◌^◌, ◌↔◌, ◌∙◌, ◌∷◌, ◌≡◌, ◌≢◌, ◌≤◌, ◌⊎◌}
pub use Rattle.mig_base.proofs.Counting.{one}
pub use Rattle.mig_base.proofs.Elements.{slice_get-set_other, slice_get-set_same}
pub use Rattle.mig_base.proofs.SameIds.{same_copy, same_edge, same_hue}
pub use Rattle.mig_base.specs.Ends.{is_end}
pub use Rattle.mig_base.specs.declared.ids.Colour.{Colour}
pub use Rattle.mig_base.specs.declared.ids.CopyId.{CopyId}
pub use Rattle.mig_base.specs.declared.ids.EdgeId.{EdgeId}
pub use Rattle.mig_base.specs.declared.limits.TheConstants.{MAX_ITEMS}
pub use Rattle.mig_board.specs.BoardFields.{IsBoard, colouring_of}
pub use Rattle.mig_board.specs.Colouring.{AreFreeWords, Colouring, HasColour, HasNoCommon, IsFreeAt, IsFull, IsFullFrom, IsLeastCommon, IsLeastMissingFrom, IsMissing, IsPainted, IsPresent}
pub use Rattle.mig_board.specs.Colouring.{IsProper, IsTableOf, Joins, Leads, blank, cleared, degree_of, painted_with}
pub use Rattle.mig_board.specs.Entries.{AreFreeSets, Entries, IsFreeEntry, IsFreeSet, with_entry}
pub use Rattle.mig_board.specs.Growth.{IsBlank, IsPlain, IsSplitAt, PaintsOne, Recolours, SameGraph}
pub use Rattle.mig_board.specs.TableFields.{IsTable, entries_of}
pub use Rattle.mig_board.specs.Walk.{Exchanges, IsEdgeOf, IsNodeOf, IsWalk, WalkLaw, WalkStep, WalksTo, backwards, end_of, next_colour, nodes_of, swapped}
pub use Rattle.mig_board.specs.Words.{AreFullSets, HasBit, HasNoBitFrom, HasNoCommonBit, IsFirstBit, IsFirstCommonBit, TurnsBit, words_for}
pub use Rattle.std.proofs.Common.{bit_and, min, rules, ◌-◌}
pub use Rattle.std.proofs.lemmas.Bool.{cases_eq, cases_lt, or_left}
pub use Rattle.std.proofs.lemmas.Bool.Decides.{eqb_tells}
pub use Rattle.std.proofs.lemmas.List.{get_or-drop, get_or-set_other, get_or-set_same, get_or_past, set-set, with_items_is}
pub use Rattle.std.proofs.lemmas.List.Edits.{length-swap, swap_is}
pub use Rattle.std.proofs.lemmas.List.Elements.{All-cons, All-nil}
pub use Rattle.std.proofs.lemmas.Map.Keys.{IsDistinct-cons}
pub use Rattle.std.proofs.lemmas.Map.Steps.{length-le_from_distinct_below}
pub use Rattle.std.proofs.lemmas.Nat.{and_le_l, mul-add-lt, mul-le, one_shl, same_from_place}
pub use Rattle.std.proofs.lemmas.Nat.Bits.{bit_at-lt, bit_at-pow_other, bit_at-pow_same, bit_at-trailing_zeros, bit_at-zero, bit_at_and, bit_at_mask_below, bit_at_mask_inside, bit_at_ones}
pub use Rattle.std.proofs.lemmas.Nat.Bits.{bit_at_ones_above, bit_at_xor, ones_shl}
pub use Rattle.std.proofs.lemmas.Option.{some_pair_parts}
pub use Rattle.std.specs.Int.{bit_at, trailing_zeros, w64}
pub use Rattle.std.specs.Int.RustNames.{bit_xor}
pub use Rattle.std.specs.List.{IsDistinct, swap}
pub use Rattle.std.specs.Vec.{with_items}
pub use mathlib.Core.Bool.{beq, not}

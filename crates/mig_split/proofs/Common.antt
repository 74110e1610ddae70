-- The names that the proofs of this crate cite, passed on from one place. Declares nothing.
pub use Rattle.mig_base.proofs.Common.{All, All-head, All-tail, Bool, Global, IfOk-weaker, IsDiskInRange, List, Transfers, Transfer, Vec, [], ap, arith, cond, count_by, count_by-le-length, div_ceil}
pub use Rattle.mig_base.proofs.Common.{div_ceil_times, drop, eq-eqb, eqb, false, fill_by_all, get_or, get_or-le-sum_by, get_or-map-range_with_len, get_or-range_with_len, get_or-set_other}
pub use Rattle.mig_base.proofs.Common.{get_or-set_same, get_or_default, inl, inr, length, length-drop, length-map, length-map-range_with_len, length-range_with_len, length-set, limit, load, map}
pub use Rattle.mig_base.proofs.Common.{min, mul-le-mul_left, mul-le-mul_right, nat_tests, no_disk, quotient, range_with_len, refl, replicate, set, subst, suc, sum, sum_by, sum_by-cons}
pub use Rattle.mig_base.proofs.Common.{sum_by_push, sym, take, take_all, touches, true, zero, ℕ, ◌&&◌, ◌*◌, ◌++◌, ◌+◌, ◌-◌, ◌<◌, ◌||◌, ◌∙◌, ◌∷◌, ◌≡◌, ◌≢◌, ◌≤◌}
pub use Rattle.mig_base.proofs.Copies.{count_by-le-one, load_within_quotient}
pub use Rattle.mig_base.proofs.Counting.{ceil_within, count_same, none_pass, one, one_of_two, sum_by-add, sum_by-le_each, sum_by-none, sum_by-same_each, sum_by-swap}
pub use Rattle.mig_base.specs.Directions.{head_of, heads, in_of, is_forward, out_of, tail_of, tails, transfer_at}
pub use Rattle.mig_base.specs.Ends.{ends_at, is_end}
pub use Rattle.mig_base.specs.declared.ids.CopyId.{CopyId}
pub use Rattle.mig_base.specs.declared.ids.DiskId.{DiskId}
pub use Rattle.mig_base.specs.declared.limits.TheConstants.{MAX_ITEMS}
pub use Rattle.mig_split.specs.Copies.{AreCopies, AreCopyPairs, AreEndDisks, AreHeads, AreJoined, AreShared, AreShares, AreSides, AreTails, first_copy, second_of, shared}
pub use Rattle.mig_split.specs.Dealing.{AreFewCopies, IsDealt, IsDealtBy, IsEnough, copy_at, count_at, listed_disk, occurrences}
pub use Rattle.mig_split.specs.Decks.{AreCounts, AreDecks, AreFresh, IsAfter, IsDealing, IsTurn, deck_at, gone, is_gone, no_deck, place_after}
pub use Rattle.mig_split.specs.Sharing.{AreCopyCounts, AreFilled, AreNodes, AreNodesOf, AreOnSides, IsFilledBy, IsFilling, IsShared, ends_in}
pub use Rattle.mig_split.specs.declared.copies.Copies.{Copies}
pub use Rattle.mig_split.specs.declared.dealing.Dealt.{Dealt}
pub use Rattle.mig_split.specs.declared.decks.Deck.{Deck}
pub use Rattle.mig_split.specs.declared.sharing.Last.{Last}
pub use Rattle.std.proofs.Common.{nat_le, nat_lt, rules}
pub use Rattle.std.proofs.lemmas.Bool.{cases_eq, cases_lt, ne_eqb}
pub use Rattle.std.proofs.lemmas.List.{drop_at, get_or-append-add, get_or-append_right, get_or-drop, get_or-map, get_or-replicate, get_or-take, get_or_append_left, get_or_past, get_or_push}
pub use Rattle.std.proofs.lemmas.List.{get_or_read, length-append, length-replicate, length-take-le, take_at}
pub use Rattle.std.proofs.lemmas.List.Folds.{sum_by-replicate}
pub use Rattle.std.proofs.lemmas.List.Sums.{count_by_more_no, count_by_more_yes, sum-map, sum_by-append, sum_by-le, sum_by-take-drop, sum_by_more}

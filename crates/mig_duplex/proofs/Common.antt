-- The names that the proofs of this crate cite, passed on from one place. Declares nothing.
pub use Rattle.mig_base.proofs.Common.{All, All-head, All-map, All-tail, Bool, Global, IfOk-weaker, IsInRange, IsLimited, KeepsLimit, List, None, Option, Some, Transfers, Transfer, Vec, [], ap}
pub use Rattle.mig_base.proofs.Common.{arith, cases_eq, colour_at, count_by, count_by-le-length, disk_value, div_ceil, div_ceil_times, drop, eqb, false, false≢true, get_or, get_or-range_with_len}
pub use Rattle.mig_base.proofs.Common.{get_or-replicate, get_or_default, inl, inr, is_duplex, is_forward, is_split, length, length-drop, length-map, length-range_with_len}
pub use Rattle.mig_base.proofs.Common.{length-replicate, length-take-le, limit, load, map, most_ends, mul-le-mul_right, mul_comm, nat_tests, no_disk, none-some, passes, quotient, range_with_len}
pub use Rattle.mig_base.proofs.Common.{refl, replicate, rounds_for, same_Some, side_load, slice_get, slice_get-get_or, slice_get_within, subst, suc, sum_by-cons, sym, take, touches}
pub use Rattle.mig_base.proofs.Common.{transfer_at, transfers, true, zero, ℕ, ◌&&◌, ◌*◌, ◌+◌, ◌-◌, ◌<◌, ◌||◌, ◌∙◌, ◌∷◌, ◌≡◌, ◌≢◌, ◌≤◌, ◌⊎◌}
pub use Rattle.mig_base.proofs.Copies.{Copied, StandsForEnds, colour_at_disk, value_within_quotient}
pub use Rattle.mig_base.proofs.Counting.{ceil_within, count_by-filter, div_ceil-le, one, sum_by-map, sum_by-same_each}
pub use Rattle.mig_base.proofs.Elements.{in_range}
pub use Rattle.mig_base.proofs.SameIds.{same_copy}
pub use Rattle.mig_base.specs.Colourings.{edges_of}
pub use Rattle.mig_base.specs.Directions.{head_of, heads, in_of, out_of, tail_of, tails}
pub use Rattle.mig_base.specs.declared.certs.Side.{Side}
pub use Rattle.mig_base.specs.declared.certs.Side.TheVariants.{Incoming, Outgoing}
pub use Rattle.mig_base.specs.declared.ids.Colour.{Colour}
pub use Rattle.mig_base.specs.declared.ids.CopyId.{CopyId}
pub use Rattle.mig_base.specs.declared.ids.DiskId.{DiskId}
pub use Rattle.mig_base.specs.declared.ids.EdgeId.{EdgeId}
pub use Rattle.mig_base.specs.declared.inputs.Limits.{Limits}
pub use Rattle.mig_base.specs.declared.inputs.Limits.TheVariants.{Joint, Split}
pub use Rattle.mig_board.specs.Colouring.{Colouring, HasColour, IsProper, Leads, blank, degree_of}
pub use Rattle.mig_board.specs.Growth.{IsSplitAt}
pub use Rattle.mig_duplex.specs.Coloured.{AreColours, IsSpread, entering_in, leaving_in}
pub use Rattle.mig_graph.specs.Graphs.{IsGraph}
pub use Rattle.mig_split.specs.Copies.{AreSides, first_copy, second_of}
pub use Rattle.mig_split.specs.Dealing.{listed_disk, occurrences}
pub use Rattle.mig_split.specs.Sharing.{AreOnSides, AreThrough}
pub use Rattle.std.proofs.Common.{fold, max}
pub use Rattle.std.proofs.lemmas.List.{get_or-drop, get_or-take}
pub use Rattle.mig_base.proofs.KeptLimits.{load_within_rounds}
pub use Rattle.std.proofs.Common.{rules}

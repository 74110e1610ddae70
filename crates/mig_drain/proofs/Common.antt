-- The names that the proofs of this crate cite, passed on from one place. Declares nothing.
pub use Rattle.mig_base.proofs.Copies.{value_within_quotient}
pub use Rattle.mig_base.proofs.Counting.{count_by-filter, count_by-filter-le, count_same, div_ceil-le, none_pass, one, sum_by-le_each, sum_by-map, sum_by-same_each}
pub use Rattle.mig_base.proofs.Counting.{sum_by-swap}
pub use Rattle.mig_base.proofs.Elements.{in_range, range_more}
pub use Rattle.mig_base.proofs.Needed.{needs_disk}
pub use Rattle.mig_base.proofs.Rounds.{spot_disk}
pub use Rattle.mig_base.proofs.Scheduled.{moves_there}
pub use Rattle.mig_base.specs.Bounding.{disk_value, quotient}
pub use Rattle.mig_base.specs.DiskNumbers.{numbers}
pub use Rattle.mig_base.specs.InputLists.{InputLists, IsInRange, IsInput, IsSpotOf, disk_at, no_disk, no_spot}
pub use Rattle.mig_base.specs.MadePlans.{TwoSides}
pub use Rattle.mig_base.specs.Schedules.{Needs}
pub use Rattle.mig_base.specs.Sides.{IsTwoSided}
pub use Rattle.mig_base.specs.Targets.{incoming, present}
pub use Rattle.mig_base.specs.Transfers.{Transfers, Transfer, div_ceil, is_relocated, load, moves, passes, rounds_for, side_limit, side_load, source, target, transfer_graph, transfer, transfers}
pub use Rattle.mig_base.specs.declared.certs.Side.{Side}
pub use Rattle.mig_base.specs.declared.certs.Side.TheVariants.{Incoming, Outgoing}
pub use Rattle.mig_base.specs.declared.ids.DiskId.{DiskId}
pub use Rattle.mig_base.specs.declared.ids.Spot.{Spot}
pub use Rattle.mig_base.specs.declared.inputs.Disk.{Disk}
pub use Rattle.mig_base.specs.declared.inputs.Limits.{Limits}
pub use Rattle.mig_base.specs.declared.inputs.Limits.TheVariants.{Joint, Split}
pub use Rattle.mig_drain.specs.Receivers.{AreDiskCounts, AreSmall, all_free, all_take, receiver, receiver_places, receivers_of, takes}
pub use Rattle.mig_drain.specs.Showing.{IsShown, IsShownBy}
pub use Rattle.std.proofs.Common.{All, Bool, Contains, Err, IfOk, List, Ok, Result, [], ap, append-nil, arith, cond, count_by, eq-eqb, eqb, eqb-true, false, filter, fold, get_or, inl, inr}
pub use Rattle.std.proofs.Common.{length, length-append, length-set, map, max, min, not, refl, replicate, set, subst, suc, sum_by, sym, take, true, zero, ℕ, ◌&&◌, ◌*◌, ◌++◌, ◌+◌}
pub use Rattle.std.proofs.Common.{◌-◌, ◌/◌, ◌<◌, ◌∙◌, ◌∷◌, ◌≡◌, ◌≢◌, ◌≤◌, ◌⊎◌}
pub use Rattle.std.proofs.Math.Nat.{mul-le-mul_left, mul-le-mul_right}
pub use Rattle.std.proofs.lemmas.Bool.{cases_eq, cases_lt, false≢true, ne_eqb}
pub use Rattle.std.proofs.lemmas.Bool.Decides.{nat_tests}
pub use Rattle.std.proofs.lemmas.Grind.{div_ceil_times}
pub use Rattle.std.proofs.lemmas.List.{get_or-set_other, get_or-set_same, get_or-take, get_or_append_left, get_or_push, length-map, length-replicate}
pub use Rattle.std.proofs.lemmas.List.{length-take, length-take-le, map-append, take-map, take_more}
pub use Rattle.std.proofs.lemmas.List.Elements.{All-append, All-filter, All-head, All-map, All-tail, filter-append, filter_passes}
pub use Rattle.std.proofs.lemmas.List.FromFn.{get_or-range_with_len, length-range_with_len}
pub use Rattle.std.proofs.lemmas.List.Sums.{count_by-le-length, count_by_more_no, count_by_more_yes, get_or-le-sum_by, length-filter, sum_by-append, sum_by-cons, sum_by-take-le, sum_by_more}
pub use Rattle.std.proofs.lemmas.List.Sums.{sum_by_push}
pub use Rattle.std.specs.List.{flat_map, range_with_len}
pub use Rattle.mig_base.proofs.Counting.{differ}
pub use Rattle.mig_base.proofs.KeptLimits.{limits_at, load_in_sides, side_in_load, side_positive, side_small}
pub use Rattle.mig_base.specs.Draining.{AreDealt, AreEnough, AreFewest, Empties, NeedsToEmpty, PlansHave, can_take, free_elsewhere, free_slots, incoming_limit, is_other, others, others_can_take, outgoing_limit}
pub use Rattle.mig_base.specs.Draining.{own_rounds, places, rank, with_next}
pub use Rattle.mig_drain.specs.declared.drained.Drained.{Drained}
pub use Rattle.mig_drain.specs.declared.drained.Shown.{Shown}
pub use Rattle.mig_drain.specs.declared.drained.Shown.TheVariants.{Nothing, Others, Own}
pub use Rattle.mig_drain.specs.declared.errors.DrainError.{DrainError}
pub use Rattle.mig_drain.specs.declared.receivers.Receiver.{Receiver}
pub use Rattle.std.proofs.lemmas.Grind.{flat_map-append}
pub use Rattle.std.proofs.lemmas.List.{get_or-map, get_or_default, get_or_read}
pub use Rattle.std.proofs.lemmas.List.Elements.{All-from_get_or, All-replicate}
pub use Rattle.std.proofs.lemmas.List.Sums.{sum_by-le-sum_by, sum_by_more_le}
pub use Rattle.std.proofs.lemmas.Result.{IfOk-weaker}
pub use Rattle.std.specs.Prelude.{IsErr}

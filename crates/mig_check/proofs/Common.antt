-- The names that many proofs of this crate cite, from one place. Declares nothing.
pub use Rattle.mig_base.proofs.BlameOrder.{FirstBlame-after, clear_from_rounds, later}
pub use Rattle.mig_base.proofs.Common.{All, All-head, All-tail, AllPairs, Any-from_list_any, At, Bool, Contains, Err, IfErr, IfOk, IfSome, IsDiskSet, IsEven, IsFirstShift, IsInput, IsLayout}
pub use Rattle.mig_base.proofs.Common.{InputLists, IsLegal, IsListOf, IsOverLimit, IsSpotOf, IsTaken, IsTrue, KeepsLimit, KeepsLimits, Layout, List, MatchOption, None, Ok, Once, Option, PlanFits}
pub use Rattle.mig_base.proofs.Common.{Result, Runs, ShiftFits, Some, Transfers, Transfer, [], add-one, after_shifts, ap, arith, cases_Bool, cases_eq, cases_lt, class_of, common_steps, cond}
pub use Rattle.mig_base.proofs.Common.{count_by, count_by-le-length, disk_at, disk_value, drop, eq-eqb, eqb, false, false≢true, fold-append, get_or, get_or-le-sum_by, get_or-range_with_len}
pub use Rattle.mig_base.proofs.Common.{get_or-set_other, get_or-set_same, get_or-take, get_or_default, get_or_from_slice_get, has, inl, inr, is_inside, is_of, is_relocated, is_split, length}
pub use Rattle.mig_base.proofs.Common.{length-map, length-range_with_len, length-replicate, length-set, limit, limit_sum, list_any, load, map, most_ends, moves, nat_tests, ne_eqb, no_disk}
pub use Rattle.mig_base.proofs.Common.{no_spot, not, numbers, option_map, or_right, quotient, range_with_len, refl, replicate, round_at, rounds_for, set, shift_at, shift_count, slice_get}
pub use Rattle.mig_base.proofs.Common.{slice_get-get_or, slice_get_within, source, subst, suc, sum_by, sum_by-append, sum_by-cons, sym, take, take_all, take_more, takes_part, target, touches}
pub use Rattle.mig_base.proofs.Common.{transfer, transfer_of, transfers, true, zero, ℕ, ⊎_elim, ◌%◌, ◌&&◌, ◌*◌, ◌+◌, ◌<◌, ◌^◌, ◌||◌, ◌∙◌, ◌∷◌, ◌≡◌, ◌≢◌, ◌≤◌, ◌⊎◌}
pub use Rattle.mig_base.proofs.Counting.{count_by-filter, one, sum_by-map}
pub use Rattle.mig_base.proofs.Elements.{map_same}
pub use Rattle.mig_base.proofs.Evenness.{class_is_duplex, class_is_even}
pub use Rattle.mig_base.proofs.KeptLimits.{ends_small, keeps_joint, kind_at, limits_at, rounds_for_joint, side_in_load}
pub use Rattle.mig_base.proofs.LayoutSteps.{At-item, IsListOf-shifts}
pub use Rattle.mig_base.proofs.Needed.{needs_bound}
pub use Rattle.mig_base.proofs.Rounds.{at_target, in_some, layout_kept, leaves, moved_cases, spot_disk, target_free}
pub use Rattle.mig_base.proofs.SameIds.{spot_by}
pub use Rattle.mig_base.proofs.Scheduled.{spot_before}
pub use Rattle.mig_base.specs.Bounding.{counted_load, greatest, stated_load}
pub use Rattle.mig_base.specs.Checks.{Free, IsClear, Passes, RoundBlame}
pub use Rattle.mig_base.specs.InputLists.{is_duplex}
pub use Rattle.mig_base.specs.Judging.{FirstBlame, IsFirstOfPlan, IsLeast, IsMovedTooOften, IsOver, IsRunBlame, IsSo, LacksSlot, RepeatsItem, no_shift, order}
pub use Rattle.mig_base.specs.Running.{IsArrivedAt, IsFree}
pub use Rattle.mig_base.specs.Transfers.{transfer_graph}
pub use Rattle.mig_base.specs.declared.blames.Blame.{Blame}
pub use Rattle.mig_base.specs.declared.blames.Blame.TheVariants.{ClassDiffers, EmptyRound, LoadDiffers, Memory, MovedTooOften, NotHere, OverLimit, QuotientDiffers, RoundsDiffer, SlotNotFree}
pub use Rattle.mig_base.specs.declared.blames.Blame.TheVariants.{TwiceInRound, ValueDiffers, WrongEnd}
pub use Rattle.mig_base.specs.declared.certs.Bound.TheVariants.{Nothing}
pub use Rattle.mig_base.specs.declared.certs.Cert.{Cert}
pub use Rattle.mig_base.specs.declared.certs.Class.{Class}
pub use Rattle.mig_base.specs.declared.certs.Class.TheVariants.{Duplex, Even, General}
pub use Rattle.mig_base.specs.declared.certs.Side.TheVariants.{Incoming, Outgoing}
pub use Rattle.mig_base.specs.declared.ids.DiskId.{DiskId}
pub use Rattle.mig_base.specs.declared.ids.ItemId.{ItemId}
pub use Rattle.mig_base.specs.declared.ids.Shift.{Shift}
pub use Rattle.mig_base.specs.declared.ids.Spot.{Spot}
pub use Rattle.mig_base.specs.declared.inputs.Disk.{Disk}
pub use Rattle.mig_base.specs.declared.inputs.Limits.{Limits}
pub use Rattle.mig_base.specs.declared.inputs.Limits.TheVariants.{Joint, Split}
pub use Rattle.mig_check.specs.Counts.{AreLoadsOf, IsTooOften, passing}
pub use Rattle.mig_check.specs.Faults.{IsCertBlame, IsOnceBlame}
pub use Rattle.mig_check.specs.Parts.{IsLeastOver, IsLesserOf, IsPartOver, KeepsPart, counts_at, part_limit, part_load, part_quotient, part_value}
pub use Rattle.mig_check.specs.SpotSets.{has_spot}
pub use Rattle.mig_check.specs.Tables.{HaveRoom, IsCovered, IsFoundOver, IsTakenSet, LacksSlotIn, SpotSet, after_round, after_shift, is_source, layout_of, same_spot}
pub use Rattle.mig_check.specs.declared.parts.Part.{Part}
pub use Rattle.mig_check.specs.declared.parts.Part.TheVariants.{Both, Leaving, Reaching}
pub use Rattle.std.proofs.Common.{below_more, max, rules, zero-add}
pub use Rattle.std.proofs.Math.Seq.{drop-cons, take-length}
pub use Rattle.std.proofs.lemmas.Bool.{or_cases, or_left}
pub use Rattle.std.proofs.lemmas.List.{drop_all, length-take, map-id, map_more}
pub use Rattle.std.proofs.lemmas.List.Elements.{All-replicate, All-set}
pub use Rattle.std.proofs.lemmas.List.Folds.{list_any-from_Any}
pub use Rattle.std.proofs.lemmas.List.FromFn.{map-range_with_len_more, sum_by-map-range_with_len_more}
pub use Rattle.std.proofs.lemmas.Result.{err_from_is_err_and}
pub use Rattle.std.specs.Option.{IfNone}
pub use Rattle.std.specs.Ordering.{nat_cmp, ord_max}

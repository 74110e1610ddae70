-- The names that the proofs of this crate cite, passed on from one place. Declares nothing.
pub use Rattle.mig_base.proofs.Copies.{count_by-le-one}
pub use Rattle.mig_base.proofs.Counting.{count_by-filter, count_by-filter-le, count_same, one, sum_by-add, sum_by-le_each, sum_by-map, sum_by-same_each, sum_by-swap}
pub use Rattle.mig_base.proofs.Rounds.{in_some, moved_cases, spot_disk}
pub use Rattle.mig_base.proofs.SameIds.{spot_by}
pub use Rattle.mig_base.specs.InputLists.{AreDifferent, InputLists, IsInput, IsSpotOf, disk_at, no_disk, no_spot}
pub use Rattle.mig_base.specs.Layouts.{At, IsTaken, Layout, after_shifts, round_at}
pub use Rattle.mig_base.specs.Running.{IsArrivedAt, IsFree, IsLegal, Once, PlanFits, Runs, ShiftFits, is_of, shift_count, transfer_of}
pub use Rattle.mig_base.specs.Targets.{IsRoomy, incoming, present}
pub use Rattle.mig_base.specs.Transfers.{is_relocated, moves, source, target, touches}
pub use Rattle.mig_base.specs.declared.ids.DiskId.{DiskId}
pub use Rattle.mig_base.specs.declared.ids.ItemId.{ItemId}
pub use Rattle.mig_base.specs.declared.ids.Shift.{Shift}
pub use Rattle.mig_base.specs.declared.ids.Spot.{Spot}
pub use Rattle.mig_base.specs.declared.inputs.Disk.{Disk}
pub use Rattle.mig_base.specs.declared.names.Name.{Name}
pub use Rattle.mig_split.specs.Decks.{AreCounts}
pub use Rattle.mig_tight.specs.PlanStates.{ArePlaced, AreQueues, HasSpares, History, IsOnNext, IsSoundState, IsUnawaited, PlanState, RoundsLead, WaitsFor, count_on, first_slots, layout_of, queue_at}
pub use Rattle.mig_tight.specs.PlanStates.{spot_at}
pub use Rattle.mig_tight.specs.Progress.{AreClearedBelow, AreUnawaited, AreUnawaitedBelow, IsCleared, Preserves, shifted, waiting_count}
pub use Rattle.mig_tight.specs.Spares.{AreEnds, IsBefore, SparesBefore, spot}
pub use Rattle.mig_base.specs.TightPlans.{Fits, HasFreeSlot, HasMove, IsTightPlan, parked, slots_of, wanted}
pub use Rattle.mig_tight.specs.Causes.{HasNoPlanUnlessMemory, IsNoFreeOrMemory, IsTightCause, IsTooManyOrMemory}
pub use Rattle.std.proofs.Common.{All, AllPairs, Bool, Contains, Err, Global, IfErr, IfOk, List, Ok, Option, Result, Some, Vec, [], ap, arith, cond, count_by, eq-eqb, eqb, false, get_or, inl}
pub use Rattle.std.proofs.Common.{inr, length, length-append, length-set, map, not, refl, set, slice_get, subst, suc, sum_by, sym, true, zero, ℕ, ⊎_elim, ◌&&◌, ◌++◌, ◌+◌, ◌<◌, ◌∙◌}
pub use Rattle.std.proofs.Common.{◌∷◌, ◌≡◌, ◌≢◌, ◌≤◌, ◌⊎◌}
pub use Rattle.std.proofs.lemmas.Bool.{cases_eq, cases_lt, false≢true, ne_eqb}
pub use Rattle.std.proofs.lemmas.Bool.Decides.{nat_tests}
pub use Rattle.std.proofs.lemmas.List.{get_or-map, get_or-set_other, get_or-set_same, get_or_append_left, get_or_default, get_or_push, get_or_read, length-map}
pub use Rattle.std.proofs.lemmas.List.Elements.{All-append, All-cons, All-contains, All-head, All-map, All-nil, All-push, All-set, Contains-append_left, Contains-append_right}
pub use Rattle.std.proofs.lemmas.List.Elements.{Contains-get_or, Contains-push, Contains-push_cases}
pub use Rattle.std.proofs.lemmas.List.FromFn.{fill_by_all, get_or-range_with_len, length-range_with_len}
pub use Rattle.std.proofs.lemmas.List.Sums.{count_by-le-length, get_or-le-sum_by, length-filter, sum_by-append, sum_by-cons, sum_by-le, sum_by_push}
pub use Rattle.std.proofs.lemmas.Option.{slice_get-get_or, slice_get_within}
pub use Rattle.std.proofs.lemmas.Result.{IfOk-weaker, on_ok_weaker}
pub use Rattle.std.specs.List.{range_with_len}
pub use Rattle.std.specs.Option.{option_map}
pub use Rattle.std.specs.Prelude.{unwrap_or}
pub use Rattle.mig_base.proofs.Counting.{none_pass}
pub use Rattle.mig_base.proofs.LayoutSteps.{At-append, At-push, At-some, IsListOf-shift, round_at-append}
pub use Rattle.mig_base.proofs.Room.{pigeons}
pub use Rattle.mig_base.proofs.Rounds.{cases_spot}
pub use Rattle.mig_base.proofs.SafetyLaws.{layout_at}
pub use Rattle.mig_base.proofs.SameIds.{same_disk}
pub use Rattle.mig_base.proofs.Scheduled.{is_at}
pub use Rattle.mig_base.proofs.Spelling.{same_place}
pub use Rattle.mig_base.specs.Transfers.{KeepsLimit, Transfer, passes}
pub use Rattle.mig_base.specs.InputLists.{IsInRange}
pub use Rattle.mig_base.specs.declared.certs.Side.TheVariants.{Incoming, Outgoing}
pub use Rattle.mig_base.specs.declared.inputs.Limits.{Limits}
pub use Rattle.mig_base.specs.declared.inputs.Limits.TheVariants.{Joint, Split}
pub use Rattle.mig_split.specs.Dealing.{occurrences}
pub use Rattle.mig_tight.specs.declared.errors.TightError.{TightError}
pub use Rattle.mig_tight.specs.declared.errors.TightError.TheVariants.{Memory, NoFree, TooMany}
pub use Rattle.std.proofs.lemmas.List.{length_push}
pub use Rattle.std.proofs.lemmas.List.Elements.{All-weaker}
pub use Rattle.std.proofs.lemmas.List.Kept.{AllPairs-cons}
pub use Rattle.std.proofs.lemmas.List.Sums.{sum_by-set}
pub use Rattle.std.proofs.lemmas.Result.{IfErr-weaker}
pub use Rattle.std.specs.Prelude.{IsErrAnd, OnOk}

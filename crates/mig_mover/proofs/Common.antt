-- The names that many proofs of this crate cite, from one place. Declares nothing.
pub use Rattle.mig_base.proofs.ArrivalLaws.{free_bytes, fresh_sound, gate_bytes, idle_sound, idle_stand, named_on_disk, reached, reached_sound}
pub use Rattle.mig_base.proofs.CellTests.{cases_cell}
pub use Rattle.mig_base.proofs.Common.{Adds, All, All-contains, AllWithin, Any-from_list_any, AreFlights, At, BeginsRun, Bool, Changes, Contains, Contains-get_or, Contents, Ends}
pub use Rattle.mig_base.proofs.Common.{Err, IfErr, IfOk, IfSome, Image, IsCopy, IsInUse, IsInput, IsJobCell, IsMark, IsPermutation, IsSafe, IsSafeAt, IsSettled, IsShifted, IsSome}
pub use Rattle.mig_base.proofs.Common.{InputLists, IsSound, IsSoundAfter, IsSourceSlot, IsState, IsTargetOf, IsThere, IsTrue, IsUnused, IsUsed, LeavesOnly, List, MatchBool, None, Ok}
pub use Rattle.mig_base.proofs.Common.{Option, Result, SameBut, SettlesTo, Some, State, Tells, [], ap, append-nil, append_assoc, arith, cases_Bool, cases_eq, cases_lt}
pub use Rattle.mig_base.proofs.Common.{common_steps, cond, cond-true, count_of, drop, ended, eqb-true, false, false≢true, fill_by_all, filter, flight_of, flights, flights_of}
pub use Rattle.mig_base.proofs.Common.{get_or, get_or_default, get_or_from_slice_get, inl, inr, is_armed, is_marked, is_of, is_one, is_slot, item_name, length}
pub use Rattle.mig_base.proofs.Common.{length-map-range_with_len, list_any, map, map-append, min, no_spot, not, prefix_len, range_with_len, refl, replicate, round_at, shifts_of}
pub use Rattle.mig_base.proofs.Common.{slice_get, slice_get-get_or, slice_get_within, slot_of, subst, suc, sym, take, take-append-le, take-append_seam, true, zero, ℕ, ⊎_elim, ◌%◌}
pub use Rattle.mig_base.proofs.Common.{◌++◌, ◌+◌, ◌-◌, ◌<◌, ◌∙◌, ◌∷◌, ◌≡◌, ◌≤◌, ◌⊎◌, eq-eqb}
pub use Rattle.mig_base.proofs.Landing.{flights_same, no_target, target_left, target_permuted}
pub use Rattle.mig_base.proofs.Listed.{at_map}
pub use Rattle.mig_base.proofs.MarkCounts.{count_idle, count_is, counted}
pub use Rattle.mig_base.proofs.Rounds.{spot_disk, there, to_disk, any_contains, at_target, contains_any, in_some, leaves, moved_cases}
pub use Rattle.mig_base.proofs.SafetyLaws.{marking, other_bytes, slot_apart, sound_after, unmarked, no_round, source_facts, target_facts}
pub use Rattle.mig_base.proofs.StoreSteps.{changes_leave, changes_then, changes_wider, events_none, from_same, leaves_then, leaves_wider}
pub use Rattle.mig_base.proofs.StoreSteps.{quiet_leaves, same_image, same_then, same_wider}
pub use Rattle.mig_base.proofs.StoreSteps.{settled_change, shape_told, tells_kept, told_is, told_kept}
pub use Rattle.mig_base.specs.Arrivals.{IsHaltSafe, IsNamed, IsPlanSpot}
pub use Rattle.mig_base.specs.FaultCounts.{Rose}
pub use Rattle.mig_base.specs.Images.{NoCell}
pub use Rattle.mig_base.specs.JobCells.{IsFreeSlot, IsHaltCell, IsJournal, IsPlanSlot}
pub use Rattle.mig_base.specs.Readiness.{CanTake, IsFirstUsed, IsReady}
pub use Rattle.mig_base.specs.RoundEvents.{IsRun}
pub use Rattle.mig_base.specs.Safety.{HasContents, IsCleanAt, IsSafeAfter}
pub use Rattle.mig_base.specs.Slots.{HasHeader, IsListedCell, IsLost, first_byte, header_of, item_cell, made_slot}
pub use Rattle.mig_base.specs.Stores.{ChangesOnly}
pub use Rattle.mig_base.specs.Tasks.{IsTask, Task}
pub use Rattle.mig_base.specs.declared.cells.Cell.{Cell}
pub use Rattle.mig_base.specs.declared.cells.Cell.TheVariants.{Gate, Head, Mark}
pub use Rattle.mig_base.specs.declared.cells.Event.{Event}
pub use Rattle.mig_base.specs.declared.cells.Flight.{Flight}
pub use Rattle.mig_base.specs.declared.ids.Shift.{Shift}
pub use Rattle.mig_base.specs.declared.ids.Spot.{Spot}
pub use Rattle.mig_jobs.specs.JobTables.{free_targets, same_spot}
pub use Rattle.mig_jobs.specs.Vacancies.{AreVacancies, IsVacant}
pub use Rattle.mig_jobs.specs.declared.vacancies.Vacancy.{Vacancy}
pub use Rattle.mig_journal.proofs.Steps.{err_any, failed_ground, failed_ground_after, look_quiet, on_ok_is, quiet_same, remembers_then}
pub use Rattle.mig_journal.proofs.Steps.{remembers_wider, rose_from, still_none, sync_same, then_quiet, then_step, then_sync}
pub use Rattle.mig_journal.specs.FreshJournals.{IsArming, IsFresh}
pub use Rattle.mig_journal.specs.SeenJournals.{HasHead, is_running}
pub use Rattle.mig_journal.specs.declared.looking.Seen.{Seen}
pub use Rattle.mig_journal.specs.declared.looking.Seen.TheVariants.{Idle}
pub use Rattle.mig_mover.specs.Erasures.{HoldsZeros, AreAsked, IsItemAsked}
pub use Rattle.mig_mover.specs.Fillings.{HasMade, IsFillFault, IsFillFaultOn, IsFillRefusal, IsFillable, IsFirstTaken, IsSoundForAll, WasFillable, made_contents}
pub use Rattle.mig_mover.specs.Halts.{AreErased, EndsHalted, IsClosingCell, KeepsHaltSafe}
pub use Rattle.mig_mover.specs.Moves.{Enters, EntersOn, IsFault, IsFaultOn, IsLanded, IsPlanFault, IsReadyIdle, IsRefusal, IsRunning, Keeps, KeepsOn, Lands, MayBeHalting, Settles}
pub use Rattle.mig_mover.specs.Stands.{IsAt, IsOtherFault, IsStandFault, Stands}
pub use Rattle.mig_mover.specs.declared.faults.MoveFault.{MoveFault}
pub use Rattle.mig_mover.specs.declared.faults.MoveFault.TheVariants.{NotStarted, NotThere, Occupied, OtherPlan, Started, Store}
pub use Rattle.std.proofs.Common.{IfNone, IsOk, OnOk, rules}
pub use Rattle.std.proofs.Math.Nat.{add-mod_left, mod-eq_of_lt}
pub use Rattle.std.proofs.Math.Seq.{drop-append-add}
pub use Rattle.std.proofs.lemmas.List.{drop-replicate}
pub use Rattle.std.proofs.lemmas.List.Elements.{Contains-append_cases, Contains-append_left, Contains-append_right}
pub use Rattle.std.proofs.lemmas.List.FromFn.{map-range_with_len_more, take-map-range_with_len}
pub use Rattle.std.proofs.lemmas.List.Sorted.{Contains-permutation, IsPermutation-sym}
pub use Rattle.std.proofs.lemmas.Result.{on_ok_weaker}
pub use Rattle.mig_base.proofs.LayoutSteps.{At-item}
pub use Rattle.mig_base.specs.Layouts.{IsSource, IsTaken, IsTarget}
pub use Rattle.mig_jobs.proofs.VacancyLaws.{key_false, key_true, stays_free, stays_taken}
pub use Rattle.std.proofs.lemmas.List.Folds.{list_any_at}
pub use Rattle.std.specs.Option.{IsSomeAnd, option_map}
pub use Rattle.mig_base.specs.Naming.{IsName}
pub use Rattle.mig_jobs.proofs.JobRounds.{no_shift}
pub use Rattle.mig_mover.specs.Holdings.{AreAlike, AreItemsKept, HoldNoOther, IsItemKept, IsItemSeen, IsKept, IsKeptMarked, IsSeen, IsShiftedName}
pub use Rattle.mig_mover.specs.Holdings.{IsUnrefused, cell_at}
pub use Rattle.mig_store.specs.Grounds.{HasGround, Holds, IsLast, IsNoSlot, IsSeenAtBoth, IsUncopiable, Lacks, Remembers, Sights, SlotsDiffer}

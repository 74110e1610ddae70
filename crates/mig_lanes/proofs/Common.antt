-- The names that many proofs of this crate cite, from one place. Declares nothing.
pub use Rattle.mig_base.proofs.ArrivalLaws.{reached, reached_sound}
pub use Rattle.mig_base.proofs.CellTests.{cases_cell, is_cell-same}
pub use Rattle.mig_base.proofs.Common.{Adds, All, All-contains, All-map, AllPairs, AllWithin, Any, AreFlights, AreRounds, At, BeginsRun, Bool, Changes, ChangesOnly, Contains}
pub use Rattle.mig_base.proofs.Common.{AreRoundEvents, Contains-append_left, Contains-get_or, Contents, Ends, Err, HasDone, IfSome, Image, IsCopy, IsInUse, IsLegal, IsPermutation, IsSafe, IsSettled}
pub use Rattle.mig_base.proofs.Common.{InputLists, IsSome, IsSound, IsSoundAfter, IsSourceOf, IsSourceSlot, IsTaken, IsTargetOf, IsTrue, IsUnused, IsWorkCell, KeepsLimits, LeavesOnly, List, NoCell}
pub use Rattle.mig_base.proofs.Common.{None, Ok, Option, SameBut, SettlesTo, Some, State, Tells, Transfer, [], after_event, after_events, and_parts, ap, append-nil, append_assoc, arith, began}
pub use Rattle.mig_base.proofs.Common.{cases_Bool, cases_eq, cases_lt, cond, count_by, count_of, drop, ended, err_from_is_err_and, false, false_from_ne_true, false≢true, filter, filter_passes}
pub use Rattle.mig_base.proofs.Common.{flight_of, flights, flights_of, fold-append, get_or, get_or-map-range_with_len, get_or-take, get_or_default, get_or_from_slice_get, inl, inr, is_armed}
pub use Rattle.mig_base.proofs.Common.{is_flight, is_marked, is_one, is_slot, item_cell, item_name, length, length-map, length-map-range_with_len, map, map-append, no_disk, no_spot, not}
pub use Rattle.mig_base.proofs.Common.{on_ok_weaker, option_map, range_with_len, refl, round_at, rules, same_text, shifts_of, slice_get-get_or, slice_get_within, slot_of, subst, suc}
pub use Rattle.mig_base.proofs.Common.{sum_by-append, sym, take, take-append-le, take_all, take_more, transfer_of, true, zero, zeros, ℕ, ⊎_elim, ◌++◌, ◌+◌, ◌-◌, ◌<◌, ◌∙◌, ◌∷◌, ◌≡◌, ◌≢◌, ◌≤◌, ◌⊎◌}
pub use Rattle.mig_base.proofs.Counting.{count_by-filter-le}
pub use Rattle.mig_base.proofs.Elements.{map_more}
pub use Rattle.mig_base.proofs.KeptLimits.{keeps_fewer, keeps_none}
pub use Rattle.mig_base.proofs.Landing.{contains_kept, ends_are_quiet, ends_then, flights_began, flights_filter, flights_none, is_flight-same, target_cases, target_left, target_permuted}
pub use Rattle.mig_base.proofs.MarkCounts.{count_most}
pub use Rattle.mig_base.proofs.Rounds.{any_contains, at_target, contains_any, leaves, one_by, target_free}
pub use Rattle.mig_base.proofs.SafetyLaws.{marking, other_bytes, slot_apart, sound_after, unmarked}
pub use Rattle.mig_base.proofs.StoreSteps.{changes_leave, changes_none, changes_then, changes_wider, events_none, events_then, from_same, leaves_none, leaves_then, leaves_wider, quiet_leaves}
pub use Rattle.mig_base.proofs.StoreSteps.{same_image, same_then, same_wider, settled_change, tells_kept, told_is}
pub use Rattle.mig_base.specs.Arrivals.{IsPlanSpot, IsReached}
pub use Rattle.mig_base.specs.Flights.{AreWithinLimits, disk_of_cell, in_flight, transfer_of_flight}
pub use Rattle.mig_base.specs.InputLists.{disk_at}
pub use Rattle.mig_base.specs.JobCells.{IsJobCell}
pub use Rattle.mig_base.specs.Readiness.{CanTake, IsFirstLost, IsFirstUsed, IsReady}
pub use Rattle.mig_base.specs.RoundEvents.{IsRun}
pub use Rattle.mig_base.specs.RoundStates.{IsCopied, IsTargetSlot}
pub use Rattle.mig_base.specs.Slots.{HasHeader, first_byte}
pub use Rattle.mig_base.specs.Stores.{named}
pub use Rattle.mig_base.specs.Tasks.{IsTask, Task}
pub use Rattle.mig_base.specs.declared.cells.Cell.{Cell}
pub use Rattle.mig_base.specs.declared.cells.Cell.TheVariants.{Gate, Head, Mark, Slot}
pub use Rattle.mig_base.specs.declared.cells.Event.{Event}
pub use Rattle.mig_base.specs.declared.cells.Flight.{Flight}
pub use Rattle.mig_base.specs.declared.ids.Shift.{Shift}
pub use Rattle.mig_base.specs.declared.ids.Spot.{Spot}
pub use Rattle.mig_base.specs.declared.inputs.Disk.{Disk}
pub use Rattle.mig_jobs.proofs.JobRounds.{on_disks}
pub use Rattle.mig_journal.proofs.Steps.{on_ok_is}
pub use Rattle.mig_lanes.specs.LaneSteps.{BeginsRound, BeginsRounds, Flies, FliesOn, HasCopied, HaveLanded, IsPart, IsPartOf, copies_of, later_rounds}
pub use Rattle.mig_lanes.specs.Runs.{Carries, Faults, Finishes, HasFound, HasStarted, IsJournalFault, KeepsHalting, Resumes, Starts}
pub use Rattle.mig_mover.proofs.Settling.{armed_told, gate_kept, journal_kept, settled_reads, tells_more}
pub use Rattle.mig_mover.specs.Erasures.{HoldsZeros}
pub use Rattle.mig_mover.specs.Moves.{Enters, IsFault, IsPlanFault, IsReadyIdle, IsRefusal, IsResumeFault, IsRunning, IsStartFault, Keeps, MayBeHalting, Settles, StaysArmed}
pub use Rattle.mig_mover.specs.declared.faults.MoveFault.{MoveFault}
pub use Rattle.mig_mover.specs.declared.faults.MoveFault.TheVariants.{NotStarted, NotThere, Occupied, OtherPlan, Started, Store}
pub use Rattle.std.proofs.Common.{slice_get}
pub use Rattle.std.proofs.Math.Seq.{take-append-add}
pub use Rattle.std.proofs.lemmas.List.{length-take, take-append-drop}
pub use Rattle.std.proofs.lemmas.List.Sorted.{Contains-permutation, IsPermutation-refl, IsPermutation-sym}
pub use Rattle.std.specs.List.{take-map}
pub use Rattle.std.specs.Str.{bytes_eq}

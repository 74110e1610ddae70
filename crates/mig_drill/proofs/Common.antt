-- The names that the proofs of this crate cite, passed on from one place. Declares nothing.
pub use Rattle.indexmap.specs.IndexSet.{insert_key}
pub use Rattle.mig_base.proofs.CellTests.{cases_cell, is_cell-same}
pub use Rattle.mig_base.proofs.Common.{Adds, All, All-contains, AllWithin, AreDifferent, AreFlights, Bool, ChangesOnly, Contains-append_left, Contains-append_right, Contains-from_any}
pub use Rattle.mig_base.proofs.Common.{Contains-get_or, Err, IfOk, IfOk-weaker, IfSome, Image, IsInput, IsJobCell, IsMark, IsSettled, IsShifted, IsSome, IsSound, LeavesOnly, List, None, Ok}
pub use Rattle.mig_base.proofs.Common.{Option, Result, SameBut, SettlesTo, Some, [], ap, append-nil, append_assoc, arith, cases_eq, cases_lt, codes, cond, count_of, decimal, false, false≢true}
pub use Rattle.mig_base.proofs.Common.{flat_map, flight_of, flights, flights_of, get_or, get_or-range_with_len, get_or_default, get_or_from_slice_get, get_or_past, inl, inr, is_armed, is_cell}
pub use Rattle.mig_base.proofs.Common.{is_marked, is_ok, item_cell, length, length-append, length-range_with_len, length-replicate, list_any, map, map-append, no_spot, option_map, range_with_len}
pub use Rattle.mig_base.proofs.Common.{refl, replicate, shifts_of, slice_get, slice_get-get_or, slice_get_within, slot_of, subst, suc, sym, take, take_all, take_more, text_of_lines, true, zero}
pub use Rattle.mig_base.proofs.Common.{ℕ, ⊎_elim, ◌*◌, ◌++◌, ◌+◌, ◌-◌, ◌<◌, ◌↔◌, ◌∙◌, ◌∷◌, ◌≡◌, ◌≤◌, ◌⊎◌}
pub use Rattle.mig_base.proofs.Landing.{flights_none}
pub use Rattle.mig_base.proofs.LayoutSteps.{At-item}
pub use Rattle.mig_base.proofs.MarkCounts.{count_is, count_most}
pub use Rattle.mig_base.proofs.Rounds.{any_contains, leaves, spot_disk}
pub use Rattle.mig_base.proofs.SafetyLaws.{slot_apart}
pub use Rattle.mig_base.proofs.StoreSteps.{same_image, same_none, shape_told, told_kept}
pub use Rattle.mig_base.specs.Arrivals.{IsPlanSpot, IsReached}
pub use Rattle.mig_base.specs.Flights.{in_flight}
pub use Rattle.mig_base.specs.InputLists.{InputLists}
pub use Rattle.mig_base.specs.JobCells.{IsPlanSlot}
pub use Rattle.mig_base.specs.Layouts.{At, IsSource, IsTarget, round_at}
pub use Rattle.mig_base.specs.RoundEvents.{IsRun}
pub use Rattle.mig_base.specs.Running.{Runs}
pub use Rattle.mig_base.specs.Slots.{IsListedCell, made_slot}
pub use Rattle.mig_base.specs.Stores.{IsState, State}
pub use Rattle.mig_base.specs.Tasks.{IsTask, Task}
pub use Rattle.mig_base.specs.Texts.{item_name}
pub use Rattle.mig_base.specs.contracts.cells.CellPartialEq.TheImpl.{eq-value}
pub use Rattle.mig_base.specs.declared.cells.Cell.{Cell}
pub use Rattle.mig_base.specs.declared.cells.Cell.TheVariants.{Mark}
pub use Rattle.mig_base.specs.declared.cells.Event.{Event}
pub use Rattle.mig_base.specs.declared.cells.Flight.{Flight}
pub use Rattle.mig_base.specs.declared.ids.Shift.{Shift}
pub use Rattle.mig_base.specs.declared.ids.Spot.{Spot}
pub use Rattle.mig_drill.specs.Drills.{count_line, marks_line, stop_line, stop_lines}
pub use Rattle.mig_drill.specs.Stops.{HasResumed, LeavesSound}
pub use Rattle.mig_drill.specs.Stores.{AddsCells, AreJobCells, HoldsMade, IsEndOf, IsPrepared, IsZeroed, StaysTold, TellsJob}
pub use Rattle.mig_drill.specs.Writes.{marks_after, round_writes, sets_mark, writes_of}
pub use Rattle.mig_drill.specs.declared.writes.Write.{Write}
pub use Rattle.mig_drill.specs.declared.writes.Write.TheVariants.{ClearMark, Copy, Erase, SetMark}
pub use Rattle.mig_io.specs.Held.{SinkState}
pub use Rattle.mig_jobs.proofs.JobRounds.{no_shift, round_is}
pub use Rattle.mig_journal.proofs.Steps.{on_ok_is, still_none, sync_same, then_step}
pub use Rattle.mig_lanes.specs.LaneSteps.{FliesOn, later_rounds}
pub use Rattle.mig_lanes.specs.Runs.{Finishes}
pub use Rattle.mig_mover.proofs.TargetLaws.{in_round}
pub use Rattle.mig_mover.specs.Moves.{Keeps}
pub use Rattle.mig_keys.proofs.KeyLists.{different_cells}
pub use Rattle.mig_keys.specs.SameKeys.{same_cells}
pub use Rattle.mig_store.specs.Asking.{CellBytes, fresh}
pub use Rattle.mig_store.specs.Calls.{StoreCall}
pub use Rattle.mig_store.specs.HeldCells.{held_at, zero_bytes, zero_held}
pub use Rattle.mig_store.specs.Ledgers.{Log, state_at}
pub use Rattle.mig_store.specs.Memories.{Memory, mem_is_state, state_of}
pub use Rattle.mig_store.specs.declared.held.Held.{Held}
pub use Rattle.mig_words.proofs.PutTexts.{piece_fails, puts_fails, puts_then}
pub use Rattle.mig_words.specs.Outcomes.{joined}
pub use Rattle.mig_words.specs.Puts.{Puts}
pub use Rattle.std.proofs.Common.{OnOk, rules}
pub use Rattle.std.proofs.lemmas.Grind.{flat_map-append}
pub use Rattle.std.proofs.lemmas.List.{length-map}
pub use Rattle.std.proofs.lemmas.List.Elements.{All-replicate, All-take, Contains-push, Contains-push_cases}
pub use Rattle.std.proofs.lemmas.List.Folds.{flat_map-map}
pub use Rattle.std.proofs.lemmas.List.Sums.{count_by_more_no, count_by_more_yes}
pub use Rattle.std.proofs.lemmas.Option.{slice_get-map}
pub use Rattle.std.specs.Int.{from_bool}
pub use Rattle.std.specs.List.{Any, Contains}

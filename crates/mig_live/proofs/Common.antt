-- The names that many proofs of this crate cite, from one place. Declares nothing.
pub use Rattle.hex.specs.Hex.{encode_lower}
pub use Rattle.mig_base.proofs.ArrivalLaws.{reached}
pub use Rattle.mig_base.proofs.CellTests.{cases_cell}
pub use Rattle.mig_base.proofs.Common.{All-push, AllByRecursion, FitsAlong, IfErr, IsWorkCell, MatchOption, Stops, codes, decimal, eq-eqb, false≢true, get_or_default, item_name, length-decimal-le}
pub use Rattle.mig_base.proofs.Common.{length-map, pieces, recursion_from_All, words, ◌==◌}
pub use Rattle.mig_base.proofs.Landing.{ends_are_quiet, flights_began, flights_same, no_target, target_left, target_one, target_permuted}
pub use Rattle.mig_base.proofs.Listed.{some_map}
pub use Rattle.mig_base.proofs.Rounds.{any_contains, at_target, from_disk, here, in_some, leaves, moved_cases, one_target, target_free, to_disk}
pub use Rattle.mig_base.proofs.SafetyLaws.{layout_at, marking, other_bytes, slot_apart, sound_after, source_facts, unmarked}
pub use Rattle.mig_base.proofs.Separators.{Lacks, Lacks-decimal, Lacks-words}
pub use Rattle.mig_base.proofs.Spelling.{lacks_test}
pub use Rattle.mig_base.proofs.StoreSteps.{changes_leave, changes_none, changes_then, changes_wider, leaves_then, quiet_leaves, same_image, same_wider, settled_change, told_is, told_kept}
pub use Rattle.mig_base.specs.Arrivals.{IsReached}
pub use Rattle.mig_base.specs.Cells.{is_slot}
pub use Rattle.mig_base.specs.Flights.{IsTargetOf, began, ended, in_flight}
pub use Rattle.mig_base.specs.Images.{Image, IsCopy, NoCell, SameBut}
pub use Rattle.mig_base.specs.InputLists.{InputLists, IsInput}
pub use Rattle.mig_base.specs.JobCells.{IsJobCell, SettlesTo, Tells}
pub use Rattle.mig_base.specs.Journals.{is_marked, is_one}
pub use Rattle.mig_base.specs.Layouts.{At, IsTaken, round_at}
pub use Rattle.mig_base.specs.Readiness.{shifts_of}
pub use Rattle.mig_base.specs.RoundEvents.{flight_of, flights_of}
pub use Rattle.mig_base.specs.RoundStates.{HasDone, IsCopied, IsInUse, IsSourceSlot}
pub use Rattle.mig_base.specs.Running.{IsLegal, Runs}
pub use Rattle.mig_base.specs.Safety.{Contents, IsSound, IsSoundAfter}
pub use Rattle.mig_base.specs.Slots.{slot_of, zeros}
pub use Rattle.mig_base.specs.Stores.{Changes, ChangesOnly, Ends, IsMoving, IsSettled, IsState, LeavesOnly, Looks, SettledBut, State, flights, named}
pub use Rattle.mig_base.specs.Tasks.{IsTask, Task}
pub use Rattle.mig_base.specs.Texts.{text_of_lines}
pub use Rattle.mig_base.specs.declared.cells.Cell.{Cell}
pub use Rattle.mig_base.specs.declared.cells.Cell.TheVariants.{Mark}
pub use Rattle.mig_base.specs.declared.cells.Event.{Event}
pub use Rattle.mig_base.specs.declared.cells.Flight.{Flight}
pub use Rattle.mig_base.specs.declared.ids.ItemId.{ItemId}
pub use Rattle.mig_base.specs.declared.ids.Shift.{Shift}
pub use Rattle.mig_base.specs.declared.ids.Spot.{Spot}
pub use Rattle.mig_base.specs.declared.limits.TheConstants.{MAX_FILE_BYTES}
pub use Rattle.mig_io.specs.Held.{Extends, ExtendsByPrefix, ExtendsInPart, SinkState}
pub use Rattle.mig_jobs.proofs.JobRounds.{round_short}
pub use Rattle.mig_journal.proofs.Steps.{look_quiet, on_ok_is}
pub use Rattle.mig_live.specs.Actions.{Action, AllWrite, AreMade, AreMadeInPart, Copy, Erase, IsMade, SetMark, Sync, actions_after, actions_from}
pub use Rattle.mig_live.specs.Actions.{actions_left, actions_since, all_events, copies, erasures}
pub use Rattle.mig_live.specs.Orders.{IsOrder, all_reads, all_steps, order_line, order_words, steps_of}
pub use Rattle.mig_live.specs.Replies.{AreCutOff, ArePut, ArePutUpTo, AreReplies, replies, reply_line}
pub use Rattle.mig_live.specs.Scripts.{IsScriptError, IsStopAt, Over, Piece, ScriptLine, ScriptNext, ScriptPlace, ScriptText, WereRead}
pub use Rattle.mig_live.specs.Sessions.{InStep, IsSession, IsUnsynced, Session, done_in, is_synced, marks_by, steps_after}
pub use Rattle.mig_live.specs.Underways.{IsAmong, IsAmongTargets, IsAtStep, IsLeftBy, IsLoose, IsUnderway, round_size, steps_in}
pub use Rattle.mig_live.specs.declared.limits.TheConstants.{MAX_ORDERS}
pub use Rattle.mig_live.specs.declared.orders.Order.{Order}
pub use Rattle.mig_live.specs.declared.orders.Order.TheVariants.{Read, Step}
pub use Rattle.mig_live.specs.declared.scripts.ScriptError.{ScriptError}
pub use Rattle.mig_live.specs.declared.serving.ServeFault.{ServeFault}
pub use Rattle.mig_mover.specs.Erasures.{HoldsZeros}
pub use Rattle.mig_mover.specs.Moves.{Enters}
pub use Rattle.mig_store.specs.declared.store.StoreFailed.{StoreFailed}
pub use Rattle.mig_text.proofs.Common.{decimal_injective}
pub use Rattle.mig_words.proofs.PutTexts.{puts_nothing, then_extends}
pub use Rattle.mig_words.specs.Puts.{Puts}
pub use Rattle.sha2.specs.Sha256.{sha256}
pub use Rattle.std.proofs.Common.{Bool, Err, drop-drop, take-add, IfNone, IfSome, IsErrAnd, List, None, Ok, OnOk, Option, Result, Some, [], ap, append-nil, append_assoc, arith, drop, false, get_or, inl, inr}
pub use Rattle.std.proofs.Common.{length, length-append, map, refl, subst, suc, sym, take, true, zero, ℕ, ⊎_elim, ◌*◌, ◌++◌, ◌+◌, ◌-◌, ◌<◌, ◌∙◌, ◌∷◌, ◌≡◌, ◌≢◌, ◌≤◌, ◌⊎◌}
pub use Rattle.std.proofs.lemmas.Bool.Decides.{nat_tests}
pub use Rattle.std.proofs.lemmas.Bool.{cases_Bool, cases_eq, cases_lt, cond-false, cond-true, eqb-true}
pub use Rattle.std.proofs.lemmas.Grind.{flat_map-append}
pub use Rattle.std.proofs.lemmas.List.{drop_all, map-append, nil_from_length, take-append-drop, take_all, take_more}
pub use Rattle.std.proofs.lemmas.List.Elements.{All-contains, Contains-get_or}
pub use Rattle.std.proofs.lemmas.List.Sorted.{Contains-permutation, IsPermutation-sym, length_permutation}
pub use Rattle.std.proofs.lemmas.List.Sums.{sum_by-cons}
pub use Rattle.std.proofs.lemmas.Option.{get_or_from_slice_get, slice_get-get_or, slice_get_within}
pub use Rattle.std.proofs.lemmas.Result.{MatchResult-weaker, on_ok_weaker}
pub use Rattle.std.specs.List.{All, Contains}
pub use Rattle.std.specs.List.Sorted.{IsPermutation}
pub use Rattle.std.specs.Option.{option_map}
pub use Rattle.std.specs.Prelude.{is_some, nat_lt, slice_get, sum_by, ◌↔◌}

-- The names that many proofs of this crate cite, from one place. Declares nothing.
pub use Rattle.mig_base.proofs.CellTests.{cases_cell, is_cell-other, is_cell-same, is_cell-true}
pub use Rattle.mig_base.proofs.Common.{All, All-append, All-contains, AreDifferent, AreFlights, Bool, Changes, Contains, Contains-get_or, Ends, IfSome, Image, IsCopy}
pub use Rattle.mig_base.proofs.Common.{IsPermutation, IsSome, IsSomeAnd, IsSourceOf, IsTargetOf, IsTrue, List, NoCell, None, Option, SameBut, Some, [], after_events, ap}
pub use Rattle.mig_base.proofs.Common.{append-nil, arith, began, cases_Bool, cases_lt, cell_len, cond, cond-false, cond-true, count_by, drop, ended, eqb-true, false, false_from_ne_true}
pub use Rattle.mig_base.proofs.Common.{false≢true, filter, filter_passes, fold-append, get_or, get_or-append_seam, get_or_append_left, get_or_from_slice_get, if◌then◌else◌, inl, inr, is_cell}
pub use Rattle.mig_base.proofs.Common.{is_flight, is_slot, length, length-append, length-drop, length-map, length-replicate, length-set, map}
pub use Rattle.mig_base.proofs.Common.{map-append, not, option_map, refl, replicate, set, slice_get-get_or, slice_get_within, subst, suc, sum_by-cons, sym, take, take-append-le, take_all, true}
pub use Rattle.mig_base.proofs.Common.{zero, ℕ, ◌*◌, ◌++◌, ◌+◌, ◌-◌, ◌/◌, ◌<◌, ◌==◌, ◌∙◌, ◌∷◌, ◌≡◌, ◌≤◌, ◌⊎◌}
pub use Rattle.mig_base.proofs.Landing.{contains_kept, ends_one_others, ends_quiet, ends_then, ends_then_quiet, flights_began, flights_ended, flights_filter, flights_none}
pub use Rattle.mig_base.proofs.Landing.{flights_push, flights_remove, is_flight-same, target_here, target_right}
pub use Rattle.mig_base.proofs.Rounds.{any_contains, contains_any, one_by}
pub use Rattle.mig_base.proofs.StoreSteps.{events_none, same_none, same_wider}
pub use Rattle.mig_base.specs.Stores.{IsLeftBut, IsMoving}
pub use Rattle.mig_base.specs.declared.cells.Cell.{Cell}
pub use Rattle.mig_base.specs.declared.cells.Cell.TheVariants.{Gate, Head, Mark, Slot}
pub use Rattle.mig_base.specs.declared.cells.Event.{Event}
pub use Rattle.mig_base.specs.declared.cells.Event.TheVariants.{Began}
pub use Rattle.mig_base.specs.declared.cells.Flight.{Flight}
pub use Rattle.mig_store.specs.Asking.{CellBytes, ask, asked_by, bytes_at, bytes_of, crash, fresh, land, picked, seen, settle}
pub use Rattle.mig_store.specs.Calls.{AreNoted, Copies, IsSpan, Lands, Recorded, StoreCall, Synced, Wrote, call_of, call_with, calls_of}
pub use Rattle.mig_store.specs.Entries.{AreWithin, IsWithinPeriod, crash_entry, first_of, firsts, seen_all, zero_entry}
pub use Rattle.mig_store.specs.HeldCells.{HasLengths, cell_of, change_at, held_at, held_map, put_at, zero_held}
pub use Rattle.mig_store.specs.Ledgers.{HaveLength, IsLaid, IsLog, IsMoment, IsUnsettled, LeftSince, Log, MayLeave, Moment, after, after_call, begin_with, flying, is_sync, moment_of, reads}
pub use Rattle.mig_store.specs.Ledgers.{state_at}
pub use Rattle.mig_store.specs.Memories.{Memory, land_many, landed, next_flight, pushed, state_of}
pub use Rattle.mig_store.specs.Orders.{after_end}
pub use Rattle.mig_store.specs.Sure.{sure_state}
pub use Rattle.mig_store.specs.declared.calls.Act.{Act}
pub use Rattle.mig_store.specs.declared.calls.Act.TheVariants.{Copy, Land, Sync, Write}
pub use Rattle.mig_store.specs.declared.calls.Note.{Note}
pub use Rattle.mig_store.specs.declared.calls.Span.{Span}
pub use Rattle.mig_store.specs.declared.contents.Entry.{Entry}
pub use Rattle.mig_store.specs.declared.contents.Pick.{Pick}
pub use Rattle.mig_store.specs.declared.contents.Pick.TheVariants.{Half, New, Old, Ones}
pub use Rattle.mig_store.specs.declared.ends.Landing.{Landing}
pub use Rattle.mig_store.specs.declared.held.Held.{Held}
pub use Rattle.mig_store.specs.declared.trouble.Trouble.{Trouble}
pub use Rattle.std.proofs.Math.ListN.{length-take}
pub use Rattle.std.proofs.Math.Seq.{drop-append_seam, map-set_same}
pub use Rattle.std.proofs.lemmas.List.{drop-append-le, drop-replicate, map-set, take-replicate}
pub use Rattle.std.proofs.lemmas.List.Sorted.{length_permutation}
pub use Rattle.std.specs.List.{remove, slice_get, slice_range}
pub use Rattle.std.specs.Prelude.{vec_capacity}

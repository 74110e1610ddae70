-- The names that the proofs of this crate cite, passed on from one place. Declares nothing.
pub use Rattle.indexmap.specs.IndexMap.{insert_entry}
pub use Rattle.indexmap.specs.IndexSet.{insert_key}
pub use Rattle.mig_base.proofs.CellTests.{is_cell-other, is_cell-same, is_cell-true}
pub use Rattle.mig_base.specs.Cells.{cell_len, is_cell, is_slot}
pub use Rattle.mig_base.specs.FaultCounts.{Rose}
pub use Rattle.mig_base.specs.Flights.{began}
pub use Rattle.mig_base.specs.Images.{Image, IsCopy, NoCell, SameBut}
pub use Rattle.mig_base.specs.Naming.{IsName}
pub use Rattle.mig_base.specs.Slots.{header_of}
pub use Rattle.mig_base.specs.Stores.{Changes, Ends, IsLeftBut, IsSettled}
pub use Rattle.mig_base.specs.contracts.cells.CellPartialEq.TheImpl.{eq-value}
pub use Rattle.mig_base.specs.declared.cells.Cell.{Cell}
pub use Rattle.mig_base.specs.declared.cells.Cell.TheVariants.{Gate, Head, Mark, Slot}
pub use Rattle.mig_base.specs.declared.cells.Event.{Event}
pub use Rattle.mig_calls.specs.Files.{EndsAt, FilesChange, FilesLook, FilesState, FilesWrite, HasBytes, HasCallCause, IsCallCause, IsFilesState, IsLeftFilesBut, PlaceBytes}
pub use Rattle.mig_calls.specs.Files.{IsSettledAt, IsWithin, KeepsFlags, KeepsFlushed, NoByte, SameFilesBut, TouchesFile, len_of}
pub use Rattle.mig_calls.specs.Places.{file_of, mark_at, offset_of}
pub use Rattle.mig_calls.specs.Refusals.{HoldsItem, WhereTold}
pub use Rattle.mig_calls.specs.declared.calls.CallError.{CallError}
pub use Rattle.mig_calls.specs.declared.calls.CallError.TheVariants.{Failed, Full, Interrupted}
pub use Rattle.mig_calls.specs.declared.calls.Extent.{Extent}
pub use Rattle.mig_calls.specs.declared.places.Place.{Place}
pub use Rattle.mig_calls.specs.declared.places.Place.TheVariants.{Disk, Journal}
pub use Rattle.mig_files.specs.Counting.{AreCounted, IsNotedAt, item_number, is_among, is_item, item_count, one_if, times}
pub use Rattle.mig_files.specs.Derived.{cell_bytes, cell_state, cells-shape, cells_of, image_of}
pub use Rattle.mig_files.specs.Grounds.{IsFaultFor}
pub use Rattle.mig_files.specs.Seeing.{AreHeld, IsFreeFor, IsHeldElsewhere, KeepsSeen, LosesNone, LosesNoneBut, MayBeEmptied, seen_at, seen_in}
pub use Rattle.mig_files.specs.Tasks.{KeepsClaim, Leaves, Unflushes, WasInterrupted}
pub use Rattle.mig_files.specs.Tracking.{HasReadSome, HasSyncedSome, HasTried, HasWrittenSome, IsNoted, IsQuiet, IsStep, IsTracked, IsWriteStep}
pub use Rattle.mig_files.specs.Tracking.{SameNotes, StaysAlive, StaysSame, WritesAlive}
pub use Rattle.mig_files.specs.declared.tracked.Notes.{Notes}
pub use Rattle.mig_files.specs.declared.tries.RetriedCall.{RetriedCall}
pub use Rattle.mig_files.specs.declared.tries.RetriedCall.TheVariants.{Sync}
pub use Rattle.mig_store.specs.Grounds.{IsElsewhere}
pub use Rattle.std.proofs.Common.{Bool, Err, IfNone, IfSome, IsFalse, IsSome, IsTrue, List, MatchBool, None, Ok, OnErr, OnOk, Option, Result, Some, [], ap, arith, cond, false, if◌then◌else◌, inl}
pub use Rattle.std.proofs.Common.{inr, length, nat_eq, refl, replicate, rules, slice_index, slice_range, subst, suc, sym, take, true, zero, ℕ, ◌*◌, ◌++◌, ◌+◌, ◌-◌, ◌<◌, ◌↔◌, ◌∙◌, ◌∷◌, ◌≡◌}
pub use Rattle.std.proofs.Common.{◌≤◌, ◌⊎◌}
pub use Rattle.std.specs.Prelude.{⊤}
pub use Rattle.std.proofs.Math.Seq.{take-append_seam}
pub use Rattle.std.proofs.lemmas.Bool.{cases_Bool, cases_lt, false_from_ne_true, false≢true, ltb-false, ltb-true}
pub use Rattle.std.specs.Prelude.{nat_lt}
pub use Rattle.std.proofs.lemmas.List.{places}
pub use Rattle.std.proofs.lemmas.List.Elements.{Contains-append_right}
pub use Rattle.std.proofs.lemmas.Map.Views.{Contains-from_any, list_any-from_Contains}
pub use Rattle.std.specs.Cmp.Lexicographic.{nat_list_eq_equiv, pointwise, same_text}
pub use Rattle.std.proofs.lemmas.Map.Keys.{IsDistinct-head, IsDistinct-tail}
pub use Rattle.std.specs.List.{AllByRecursion, Contains, IsDistinct, list_any}
pub use Rattle.std.specs.Map.{keys_of, lookup}

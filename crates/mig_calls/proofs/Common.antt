-- The names that the proofs of this crate cite, passed on from one place. Declares nothing.
pub use Rattle.mig_base.specs.InputLists.{AreDifferent}
pub use Rattle.mig_calls.specs.FileBytes.{byte_at, no_byte, picked_byte, settled, settled_as, with_written, written_over}
pub use Rattle.mig_calls.specs.Files.{FilesChange, FilesLook, FilesState, FilesWrite, HasBytes, IsLeftFilesBut, IsSettledAt, IsWithin, NoByte, PlaceBytes, SameFilesBut}
pub use Rattle.mig_calls.specs.Files.{TouchesFile}
pub use Rattle.mig_calls.specs.MemFiles.{FileMoment, SeenFile, after_write, change_file, changed, crashed, file_moment, first_or, left_file, look, no_file, on_file, place_of, seen_file, seen_files}
pub use Rattle.mig_calls.specs.MemFiles.{takes_old, with_name}
pub use Rattle.mig_calls.specs.Memory.{FileMemory, FilesLeftSince, FilesMoment, FitsFile, FitsOne, IsDisk, MayHold, MayLeaveFiles, after_step, blank_files, files_after, files_state, mem_is_state, reads_of}
pub use Rattle.mig_calls.specs.Places.{is_place}
pub use Rattle.mig_calls.specs.declared.file_bytes.Byte.{Byte}
pub use Rattle.mig_calls.specs.declared.mem_disk.FilesStep.{FilesStep}
pub use Rattle.mig_calls.specs.declared.mem_disk.FilesStep.TheVariants.{Changed, Crashed, Named}
pub use Rattle.mig_calls.specs.declared.mem_file.Change.{Change}
pub use Rattle.mig_calls.specs.declared.mem_file.Change.TheVariants.{Made, Synced, Wrote}
pub use Rattle.mig_calls.specs.declared.mem_file.MemFile.{MemFile}
pub use Rattle.mig_calls.specs.declared.pick.FilePick.{FilePick}
pub use Rattle.mig_calls.specs.declared.pick.FilePick.TheVariants.{Back, Front, New, Old, Ones}
pub use Rattle.mig_calls.specs.declared.places.Place.{Place}
pub use Rattle.mig_calls.specs.declared.places.Place.TheVariants.{Disk, Journal}
pub use Rattle.std.proofs.Common.{Bool, Err, List, Ok, OnErr, OnOk, Option, Result, Some, [], ap, arith, cond, drop, false, get_or, inl, inr, length, length-append}
pub use Rattle.std.proofs.Common.{map, not, refl, set, subst, suc, sym, take, true, zero, ℕ, ◌&&◌, ◌++◌, ◌+◌, ◌-◌, ◌<◌, ◌∙◌, ◌∷◌, ◌≡◌, ◌≤◌, ◌⊎◌}
pub use Rattle.std.proofs.Math.Bool.{and-false}
pub use Rattle.std.proofs.Math.ListN.{length-take}
pub use Rattle.std.proofs.Math.Seq.{map-set_same}
pub use Rattle.std.proofs.lemmas.Bool.{and_from, cases_Bool, cases_lt, cond-false, cond-true, false_from_ne_true, false≢true, le-ltb, lt-ltb}
pub use Rattle.std.proofs.lemmas.List.{get_or_default, length-map, map-append, map-set, take-append-le, take_all}
pub use Rattle.std.proofs.lemmas.List.Edits.{map_over_more}
pub use Rattle.std.proofs.lemmas.List.Elements.{Contains-get_or}
pub use Rattle.std.proofs.lemmas.List.Sums.{fold-append}
pub use Rattle.std.proofs.lemmas.Option.{get_or_from_slice_get, slice_get-get_or, slice_get_past, slice_get_within}
pub use Rattle.std.specs.Cmp.Lexicographic.{other_text, same_text}
pub use Rattle.std.specs.List.{Contains, slice_get}
pub use Rattle.std.specs.Prelude.{IsTrue, nat_lt, slice_index}
pub use Rattle.std.specs.Str.{bytes_eq}

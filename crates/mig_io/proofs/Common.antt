-- The names that the proofs of this crate cite, passed on from one place. Declares nothing.
pub use Rattle.mig_io.specs.Files.{Files, file}
pub use Rattle.mig_io.specs.Memory.{HeldFolder}
pub use Rattle.mig_io.specs.Places.{HasNone, IsFirstPlace, file_in, files_of, map_of, room_in, rooms_of, with_value}
pub use Rattle.mig_io.specs.declared.place.FolderEntry.{FolderEntry}
pub use Rattle.std.proofs.Common.{Bool, List, None, Option, Some, [], ap, arith, cond, false, get_or, if◌then◌else◌, length, refl, rules, set, subst, suc, sym, true, vec_len, zero, ℕ, ◌++◌, ◌-◌}
pub use Rattle.std.proofs.Common.{◌<◌, ◌∙◌, ◌∷◌, ◌≡◌, ◌≢◌, ◌≤◌}
pub use Rattle.std.proofs.lemmas.Bool.Decides.{nat_tests}
pub use Rattle.std.proofs.lemmas.Cmp.{eq_by_cmp_equiv}
pub use Rattle.std.proofs.lemmas.Grind.{common_steps}
pub use Rattle.std.proofs.lemmas.Result.{on_err_weaker, on_ok_weaker}
pub use Rattle.std.specs.Cmp.Lexicographic.{nat_list_cmp_total, slice_cmp}
pub use Rattle.std.specs.Io.KnownBytes.{Consumes, Keeps}
pub use Rattle.std.specs.List.{AllWithin}
pub use Rattle.std.specs.Ordering.{eq_by_cmp, is_eq, nat_cmp}
pub use Rattle.std.specs.Prelude.{Err, Ok, OnErr, OnOk, Result}
pub use Rattle.std.specs.String.{string_bytes}
pub use Rattle.std.specs.declared.cmp.Ordering.{Ordering}
pub use Rattle.std.specs.declared.cmp.Ordering.TheVariants.{Equal, Greater, Less}

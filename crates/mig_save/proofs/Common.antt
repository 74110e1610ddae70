-- The names that the proofs of this crate cite, passed on from one place. Declares nothing.
pub use Rattle.mig_save.specs.MemSaves.{SaveMoment, after_save_step, content_of, save_after, unsaved}
pub use Rattle.mig_save.specs.Saves.{Content, HasWritten, NoContent, SaveChange, SaveState, Stays}
pub use Rattle.mig_save.specs.declared.mem_save.SaveStep.{SaveStep}
pub use Rattle.mig_save.specs.declared.mem_save.SaveStep.TheVariants.{Made}
pub use Rattle.std.proofs.Common.{IsTrue, List, ap, append_assoc, arith, get_or, inl, inr, length, length-drop, rules, slice_range, subst, sym, take, ℕ, ◌++◌, ◌+◌, ◌-◌, ◌<◌, ◌∙◌, ◌≡◌, ◌≤◌, ◌⊎◌}
pub use Rattle.std.proofs.KnownBytes.{Appends-trans}
pub use Rattle.std.proofs.Math.Seq.{take-add}
pub use Rattle.std.proofs.lemmas.List.{take_rest}
pub use Rattle.std.proofs.lemmas.List.Sums.{fold_more}
pub use Rattle.std.specs.Io.KnownBytes.{Appends, Keeps}

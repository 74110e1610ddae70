-- The names that the proofs of this crate cite, passed on from one place. Declares nothing.
pub use Rattle.mig_base.proofs.Common.{Bool, ChangesOnly, Ends, Err, IfSome, Image, IsMark, IsSettled, IsSome, IsTargetOf, LeavesOnly, List, NoCell, None, Ok, Option, Result, SameBut, Some}
pub use Rattle.mig_base.proofs.Common.{State, Tells, [], ap, arith, cases_eq, eqb, false, false≢true, flights, get_or, inl, inr, is_armed, is_marked, is_one, length, prefix_len, range_with_len}
pub use Rattle.mig_base.proofs.Common.{refl, subst, suc, sym, true, ℕ, ◌+◌, ◌<◌, ◌∙◌, ◌∷◌, ◌≡◌, ◌≤◌, ◌⊎◌}
pub use Rattle.mig_base.proofs.Landing.{ends_are_quiet, flights_same, no_source, no_target}
pub use Rattle.mig_base.proofs.MarkCounts.{count_least}
pub use Rattle.mig_base.proofs.StoreSteps.{changes_leave, changes_then, changes_wider, leaves_then, same_image, same_then, same_wider}
pub use Rattle.mig_base.specs.JobCells.{IsJournal}
pub use Rattle.mig_base.specs.Stores.{IsMoving, Looks}
pub use Rattle.mig_base.specs.declared.cells.Cell.{Cell}
pub use Rattle.mig_base.specs.declared.cells.Cell.TheVariants.{Gate, Head, Mark}
pub use Rattle.mig_base.specs.declared.cells.Flight.{Flight}
pub use Rattle.mig_journal.specs.FreshJournals.{AreUnmarked, IsArming, IsFresh}
pub use Rattle.std.proofs.Common.{OnErr, OnOk, rules}

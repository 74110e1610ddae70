-- The names that the proofs of this crate cite, passed on from one place. Declares nothing.
pub use Rattle.mig_base.proofs.Common.{inl, inr, slice_get_within, subst, sym, ℕ}
pub use Rattle.mig_base.specs.declared.ids.Colour.{Colour}
pub use Rattle.mig_base.specs.declared.ids.CopyId.{CopyId}
pub use Rattle.mig_base.specs.declared.ids.EdgeId.{EdgeId}
pub use Rattle.mig_board.proofs.Laws.{IsPart, PaintsOne-exchanged, PaintsOne-painted, both_free, ends_elsewhere, exchanges_joins, exchanges_plain, exchanges_start, not_full}
pub use Rattle.mig_board.proofs.Walks.{end_cases}
pub use Rattle.mig_board.specs.Colouring.{Colouring, IsFreeAt, IsMissing, IsPresent, IsProper, Joins}
pub use Rattle.mig_board.specs.Growth.{IsSplitAt, PaintsOne}
pub use Rattle.mig_board.specs.Walk.{Exchanges}
pub use Rattle.std.proofs.Common.{arith, rules}

-- The names that the proofs of this crate cite, passed on from one place. Declares nothing.
pub use Rattle.mig_base.proofs.Common.{Bool, List, None, Option, Some, add-one, ap, arith, cases_eq, count_by, eq-eqb, eqb-true, false, get_or, get_or-le-sum_by, inl, inr, is_some, length, refl}
pub use Rattle.mig_base.proofs.Common.{same_Some, slice_get, slice_get-get_or, slice_get_within, subst, suc, sym, take, take_all, true, zero, ℕ, ◌*◌, ◌+◌, ◌<◌, ◌∙◌, ◌≡◌, ◌≢◌, ◌≤◌, ◌⊎◌}
pub use Rattle.mig_base.proofs.Counting.{one}
pub use Rattle.mig_base.proofs.SameIds.{same_copy, same_edge}
pub use Rattle.mig_base.specs.declared.ids.Colour.{Colour}
pub use Rattle.mig_base.specs.declared.ids.CopyId.{CopyId}
pub use Rattle.mig_base.specs.declared.ids.EdgeId.{EdgeId}
pub use Rattle.mig_board.proofs.Counting.{degrees_of_three}
pub use Rattle.mig_board.proofs.Laws.{PaintsOne-after, PaintsOne-exchanged, PaintsOne-painted, Recolours-exchanged, Recolours-repainted, Recolours-trans, both_free, exchanges_joins}
pub use Rattle.mig_board.proofs.Laws.{exchanges_plain, exchanges_start, exchanges_third, not_both, not_full, present_at_first, present_at_second, present_differs, repainted_old, repainted_other}
pub use Rattle.mig_board.proofs.Laws.{same_far, walk_from_end}
pub use Rattle.mig_board.proofs.Walks.{end_cases, joins_back, leads_back, walk_unique}
pub use Rattle.mig_board.specs.Colouring.{Colouring, HasNoCommon, IsFreeAt, IsMissing, IsPainted, IsPresent, IsProper, Joins, Leads, degree_of, painted_with}
pub use Rattle.mig_board.specs.Growth.{IsComplete, IsPlain, PaintsOne, Recolours, SameGraph}
pub use Rattle.mig_board.specs.Walk.{Exchanges, WalksTo, end_of}
pub use Rattle.mig_shannon.specs.Left.{edges_left}
pub use Rattle.mig_shannon.specs.Ways.{CanRepaint, CanWalk, Grows, IsOpen}
pub use Rattle.std.proofs.Common.{rules}
pub use Rattle.std.proofs.lemmas.Bool.{eqb-false}
pub use Rattle.std.proofs.lemmas.List.Sums.{sum_by_more}
pub use Rattle.std.specs.Prelude.{MatchBool, is_none}

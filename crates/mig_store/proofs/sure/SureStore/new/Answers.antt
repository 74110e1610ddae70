use Rattle.mig_store.proofs.Common.{HasLengths, Held, List, ap, cell_of, map, subst, sym, ℕ, ◌∙◌}
use Rattle.mig_store.proofs.CellLists.{zero-lengths, cells_of-zero}
use Rattle.mig_store.proofs.sure.SureStore.new.Goals as goal

pub invariant_of-result : goal.invariant_of-result
invariant_of-result c = (
  c.in_ok-of.ensures ∙ sym (cells_of-zero c.args.cells.now) ∙ sym (ap (λ (l : List (Held (List ℕ))). map cell_of l) c.in_ok-zero_cells.ensures),
  subst HasLengths (sym c.in_ok-zero_cells.ensures) (zero-lengths c.args.cells.now),
)

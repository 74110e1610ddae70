use Rattle.mig_shannon.proofs.Common.{Colouring, IsFreeAt, IsPlain, PaintsOne, ap, painted_with, subst, sym, ◌∙◌}
use Rattle.mig_shannon.proofs.Step.{beside_painted, beside_free, beside_plain, beside_free_after, beside_done}
use Rattle.mig_shannon.proofs.steps.repaint_beside.Goals as goal

pub repaint-requires-clause-painted : goal.repaint-requires-clause-painted
repaint-requires-clause-painted c = beside_painted _ _ _ _ _ c.requires

pub repaint-requires-clause-free : goal.repaint-requires-clause-free
repaint-requires-clause-free c = beside_free _ _ _ _ _ c.requires

pub paint-requires-clause-plain : goal.paint-requires-clause-plain
paint-requires-clause-plain c = subst (λ (g : Colouring). IsPlain g c.args.edge) (sym c.repaint.ensures.painted) (beside_plain _ _ _ _ _ c.requires)

pub paint-requires-clause-free : goal.paint-requires-clause-free
paint-requires-clause-free c = subst (λ (g : Colouring). IsFreeAt g c.args.edge c.args.lacks) (sym c.repaint.ensures.painted) (beside_free_after _ _ _ _ _ c.requires)

pub returns : goal.returns
returns c =
    subst (λ (g : Colouring). PaintsOne c.args.board.now g c.args.edge) (sym (c.paint.ensures.painted ∙ ap (λ (g : Colouring). painted_with g c.args.edge c.args.lacks) c.repaint.ensures.painted)) (beside_done _ _ _ _ _ c.requires)

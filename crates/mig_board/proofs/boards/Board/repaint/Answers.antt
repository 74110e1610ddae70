use Rattle.mig_board.proofs.Common.{Colouring, IsFreeAt, ap, painted_with, slice_get_within, subst, sym, ◌∙◌}
use Rattle.mig_board.proofs.Tables.{IsFreeAt-cleared, painted_with-cleared}
use Rattle.mig_board.proofs.boards.Board.repaint.Goals as goal

pub paint-requires-clause-free : goal.paint-requires-clause-free
paint-requires-clause-free c =
    subst (λ (g : Colouring). IsFreeAt g c.args.edge c.args.colour) (sym c.clear.ensures)
    (IsFreeAt-cleared c.args.self.now c.args.edge c.args.colour (slice_get_within _ _ _ c.requires.painted.1) c.requires.free)

pub returns-clause-painted : goal.returns-clause-painted
returns-clause-painted c =
    c.paint.ensures.painted ∙ ap (λ (g : Colouring). painted_with g c.args.edge c.args.colour) c.clear.ensures ∙ painted_with-cleared c.args.self.now c.args.edge c.args.colour

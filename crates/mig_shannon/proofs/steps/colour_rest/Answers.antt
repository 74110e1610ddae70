use Rattle.mig_shannon.proofs.Common.{refl}
use Rattle.mig_shannon.proofs.Growing.{IsColoured-is, IsColoured-next, IsColoured-more, painted_some}
use Rattle.mig_shannon.proofs.steps.colour_rest.Goals as goal
use Rattle.mig_shannon.proofs.steps.colour_rest.Goals.{then-is_none, else-is_none}

pub loop-edge-preserved : goal.loop-edge-preserved
loop-edge-preserved c =
    elim c.if-is_none.branch [
      | then-is_none w ↦ IsColoured-is _ _ _ _ (IsColoured-more _ _ _ _ (record { 0 = c.loop-edge.edge }) refl c.loop-edge.invariant w.colour_edge.ensures) w.board-is
      | else-is_none w ↦ IsColoured-is _ _ _ _ (IsColoured-next _ _ _ (record { 0 = c.loop-edge.edge }) refl c.loop-edge.invariant (painted_some c.loop-edge.board (record { 0 = c.loop-edge.edge }) c.colour_of.result c.colour_of.ensures w.if-is_none.ensures)) w.board-is
    ]

use Rattle.mig_shannon.proofs.Common.{eq-eqb, eqb-true, ◌∙◌}
use Rattle.mig_shannon.proofs.Left.{complete_left, left_complete}
use Rattle.mig_shannon.proofs.colourings.colour_within.Goals as goal

pub returns-clause-tells : goal.returns-clause-tells
returns-clause-tells c =
    let a = c.loop-pass.invariant in
    let g = c.loop-pass.board in
    (λ h. complete_left g a.proper (Rattle.std.proofs.Common.sym a.left ∙ eqb-true _ _ h), λ h. eq-eqb _ _ (a.left ∙ left_complete g a.proper h))

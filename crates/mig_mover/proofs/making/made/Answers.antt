use Rattle.mig_mover.proofs.Common.{List, ap, header_of, ℕ, ◌++◌, ◌∙◌}
use Rattle.mig_mover.proofs.making.made.Goals as goal

pub returns : goal.returns
returns c =
    ap (λ (l : List ℕ). l ++ c.copy_from_slice-2.new.self) (c.copy_from_slice.ensures.after ∙ c.header.ensures)
    ∙ ap (λ (l : List ℕ). header_of c.args.name.now ++ l) (c.copy_from_slice-2.ensures.after ∙ c.repeated.ensures)

use Rattle.mig_text.proofs.Common.{ap, arith, decimal, decimal_injective, eq-eqb, eqb-true, sym, ◌∙◌}
use Rattle.mig_text.proofs.words.is_number.Goals as goal

pub returns-in-Some : goal.returns-in-Some
returns-in-Some c = (
  λ t. c.in-Some.ensures.1 ∙ ap decimal (eqb-true c.in-Some.value c.args.number t),
  λ e. eq-eqb c.in-Some.value c.args.number (decimal_injective c.in-Some.value c.args.number (omega arith) (omega arith) (sym c.in-Some.ensures.1 ∙ e)),
)

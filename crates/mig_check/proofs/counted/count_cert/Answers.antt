use Rattle.mig_check.proofs.Common.{sym, ◌∙◌}
use Rattle.mig_check.proofs.PartLimits.{quotient_both}
use Rattle.mig_check.proofs.counted.count_cert.Goals as goal

pub returns-clause-quotient : goal.returns-clause-quotient
returns-clause-quotient c = c.find_quotient.ensures ∙ quotient_both c.args.input.now c.keeps_rules.ensures (sym c.duplex.ensures ∙ c.if-duplex.false)

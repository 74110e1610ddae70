use Rattle.mig_check.proofs.PartLimits.{quotient_of_sides}
use Rattle.mig_check.proofs.counted.count_duplex.Goals as goal

pub returns-clause-quotient : goal.returns-clause-quotient
returns-clause-quotient c = quotient_of_sides c.args.input.now c.keeps_rules.ensures c.requires.duplex c.find_quotient-leaving.result c.find_quotient-reaching.result c.max.result c.find_quotient-leaving.ensures c.find_quotient-reaching.ensures c.max.ensures

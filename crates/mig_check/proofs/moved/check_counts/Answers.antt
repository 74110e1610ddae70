use Rattle.mig_check.proofs.Common.{◌∙◌}
use Rattle.mig_check.proofs.ItemCounts.{once_from}
use Rattle.mig_check.proofs.moved.check_counts.Goals as goal

pub returns-in-None-clause-once : goal.returns-in-None-clause-once
returns-in-None-clause-once c = once_from c.args.input.now c.args.rounds.now c.count_rounds.new.counts c.keeps_rules.ensures c.requires.runs (c.count_rounds.auto.counts ∙ c.requires.len) c.count_rounds.ensures c.in-None.ensures.none

use Rattle.mig_check.proofs.BlameCases.{all_arrived, wrong_end}
use Rattle.mig_check.proofs.running.check_plan.Goals as goal

pub returns-in-Some-clause-blame : goal.returns-in-Some-clause-blame
returns-in-Some-clause-blame c = λ cert. wrong_end c.args.input.now c.args.rounds.now c.check_rounds.new.spots c.in_default.ensures.ok c.in_default.ensures.layout cert c.in-Some.item c.in-Some.ensures.some

pub returns-in-None-clause-runs : goal.returns-in-None-clause-runs
returns-in-None-clause-runs c = all_arrived c.args.input.now c.args.rounds.now c.check_rounds.new.spots c.in_default.ensures.ok c.in_default.ensures.layout c.in-None.ensures.none

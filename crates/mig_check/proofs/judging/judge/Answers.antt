use Rattle.mig_check.proofs.Common.{needs_bound}
use Rattle.mig_check.proofs.BlameCases.{first_of_run, first_of_once, first_of_cert}
use Rattle.mig_check.proofs.judging.judge.Goals as goal

pub returns-in-Err-clause-blame : goal.returns-in-Err-clause-blame
returns-in-Err-clause-blame c = first_of_run c.args.input.now c.args.plan.now c.args.cert.now c.in-Err.blame c.in-Err.ensures.blame

pub returns-in-Err-check_once-clause-blame : goal.returns-in-Err-check_once-clause-blame
returns-in-Err-check_once-clause-blame c = first_of_once c.args.input.now c.args.plan.now c.args.cert.now c.in_default.ensures.runs c.in-Err-check_once.blame c.in-Err-check_once.ensures.blame

pub returns-in-Err-check_cert-clause-blame : goal.returns-in-Err-check_cert-clause-blame
returns-in-Err-check_cert-clause-blame c = first_of_cert c.args.input.now c.args.plan.now c.args.cert.now c.in_default.ensures.runs c.in_default-check_once.ensures.once c.in-Err-check_cert.blame c.in-Err-check_cert.ensures.blame

pub returns-clause-needs : goal.returns-clause-needs
returns-clause-needs c = needs_bound c.args.input.now c.args.cert.now.bound c.keeps_rules.ensures c.requires.cert.disks c.in_default-check_cert.ensures.holds.bound

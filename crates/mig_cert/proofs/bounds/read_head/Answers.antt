use Rattle.mig_cert.proofs.BoundWords.{bound_read}
use Rattle.mig_cert.proofs.bounds.read_head.Goals as goal

pub returns : goal.returns
returns c = bound_read c.args.finder.now c.keeps_rules.ensures c.args.line.now c.bound_of.result (rw (← c.of.ensures) c.bound_of.ensures)

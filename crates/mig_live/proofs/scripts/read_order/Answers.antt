use Rattle.mig_live.proofs.ScriptLaws.{order_read}
use Rattle.mig_live.proofs.scripts.read_order.Goals as goal

pub returns : goal.returns
returns c = order_read c.args.finder.now c.keeps_rules.ensures c.args.line.now c.order_of.result (rw (← c.of.ensures) c.order_of.ensures)

use Rattle.mig_drill.proofs.Common.{arith}
use Rattle.mig_drill.proofs.JobCells.{gathers_none, gathers_more, gathers_all}
use Rattle.mig_drill.proofs.stores.job_cells.Goals as goal

pub loop-n-init : goal.loop-n-init
loop-n-init c = gathers_none c.args.job.now c.new-cells.result.keys c.insert.new.self.keys c.insert-2.new.self.keys c.new-cells.ensures.empty c.in_ok-insert.ensures.keys c.in_ok-insert-2.ensures.keys

pub loop-n-preserved : goal.loop-n-preserved
loop-n-preserved c = gathers_more c.args.job.now c.loop-n.n c.loop-n.cells.keys c.insert-in-loop-n.new.self.keys c.add_round.new.cells.keys c.loop-n.invariant c.in_ok-insert-3.ensures.keys c.in_ok-add_round.ensures

pub returns : goal.returns
returns c = gathers_all c.args.job.now c.loop-n.n c.loop-n.cells.keys (omega (arith, c.loop-n-test.false, c.loop-n.auto.n-end, c.rounds-n-end.ensures.count)) c.loop-n.invariant

use Rattle.mig_files.proofs.Common.{arith}
use Rattle.mig_files.proofs.TrackingSteps.{write_step_then, step_is_write, step_none, writes_then, writes_none}
use Rattle.mig_files.proofs.pieces.write_all.Goals as goal

pub tries-init : goal.tries-init
tries-init g c = record {
  count = omega arith;
  has = λ told i lt. absurd (omega (arith, lt));
  step = step_is_write (step_none c.requires.tracked);
  kept = writes_none c.requires.alive;
  counted = omega arith;
}

pub tries-preserved : goal.tries-preserved
tries-preserved g c = record {
  count = c.in_ok-done.ensures.count;
  has = c.in_ok-done.ensures.written;
  step = write_step_then c.tries.invariant.step c.write_more.ensures.step;
  kept = writes_then c.tries.invariant.kept c.in_ok-done.ensures.kept;
  counted = omega (arith, c.tries.invariant.counted, c.in_ok-done.ensures.progress);
}

pub returns-in_err-done-clause-step : goal.returns-in_err-done-clause-step
returns-in_err-done-clause-step g c = write_step_then c.tries.invariant.step c.write_more.ensures.step

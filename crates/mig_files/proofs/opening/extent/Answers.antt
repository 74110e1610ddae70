use Rattle.mig_files.proofs.Common.{arith}
use Rattle.mig_files.proofs.Errs.{none_of}
use Rattle.mig_files.proofs.TrackingSteps.{step_then, alive_then}
use Rattle.mig_files.proofs.opening.extent.Goals as goal

pub tries-preserved : goal.tries-preserved
tries-preserved g c = record {
  step = step_then c.tries.invariant.step c.ask_len.ensures.step;
  kept = alive_then c.tries.invariant.kept c.in-Ok-None.ensures.kept;
  counted = omega (arith, c.tries.invariant.counted, none_of _ c.in-Ok-None.field-0-is c.in-Ok-None.ensures.unmade);
}

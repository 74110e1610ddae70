use Rattle.mig_euler.proofs.Common.{arith, length}
use Rattle.mig_euler.proofs.OrientLaws.{everywhere}
use Rattle.mig_euler.proofs.trails.follow_rest.Goals as goal

pub returns-clause-none : goal.returns-clause-none
returns-clause-none c =
    everywhere c.args.ends.now c.loop-disk.directions (length c.loop-disk.from) c.loop-disk.invariant.0.in_range
    (λ v h. c.loop-disk.invariant.3 v (omega (arith, h, c.loop-disk.invariant.1, c.loop-disk-test.false)))

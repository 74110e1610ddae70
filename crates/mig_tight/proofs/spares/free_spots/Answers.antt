use Rattle.mig_tight.proofs.Common.{arith}
use Rattle.mig_tight.proofs.SpareLaws.{spares_placed, spares_enough}
use Rattle.mig_tight.proofs.spares.free_spots.Goals as goal

pub returns-clause-enough : goal.returns-clause-enough
returns-clause-enough c =
    spares_enough c.args.input.now c.keeps_rules.ensures c.loop-disk.disk c.loop-disk.spares.items
    (omega (arith, c.loop-disk.auto.disk-end, c.len-disk-end.ensures, c.loop-disk-test.false, c.in_ok-widths.ensures.len)) c.loop-disk.invariant

pub returns-clause-placed : goal.returns-clause-placed
returns-clause-placed c =
    spares_placed c.args.input.now c.keeps_rules.ensures c.loop-disk.disk c.loop-disk.spares.items
    (omega (arith, c.loop-disk.auto.disk-end, c.len-disk-end.ensures, c.loop-disk-test.false, c.in_ok-widths.ensures.len)) c.loop-disk.invariant

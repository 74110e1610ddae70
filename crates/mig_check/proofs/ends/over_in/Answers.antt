use Rattle.mig_check.proofs.EndCounts.{part_kept, part_passed}
use Rattle.mig_check.proofs.ends.over_in.Goals as goal

pub returns-in-Some : goal.returns-in-Some
returns-in-Some c = part_passed c.args.part c.args.disks.now c.args.counts.now c.args.round.now c.requires.len c.requires.counted c.in-Some.disk c.in-Some.ensures.over c.in-Some.ensures.covered

pub returns-in-None : goal.returns-in-None
returns-in-None c = part_kept c.args.part c.args.disks.now c.args.counts.now c.args.round.now c.requires.len c.requires.counted c.in-None.ensures.covered

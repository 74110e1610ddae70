use Rattle.mig_bounds.proofs.Common.{IsBestDisk, arith, length, subst, ◌≡◌}
use Rattle.mig_bounds.proofs.disks.best_disk.Goals as goal

pub returns-clause-best : goal.returns-clause-best
returns-clause-best c =
    let g = c.args.graph.now in
    let all : c.loop-disk.disk ≡ length g.disks = omega arith in
    subst (λ n. IsBestDisk g c.loop-disk.best n) all c.loop-disk.invariant

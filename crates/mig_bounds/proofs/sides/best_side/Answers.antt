use Rattle.mig_bounds.proofs.Common.{Incoming, IsFirstSide, Outgoing, arith, length, side_number, subst, ℕ, ◌*◌, ◌+◌, ◌≡◌}
use Rattle.mig_bounds.proofs.sides.best_side.Goals as goal

-- the first side of the disk has the number at hand, and the second the next
pub better_side-best-requires-clause-before : goal.better_side-best-requires-clause-before
better_side-best-requires-clause-before c = subst (λ n. IsFirstSide c.args.graph.now c.loop-disk.best n) (first c.loop-disk.disk) c.loop-disk.invariant
  where
    first : (v : ℕ) → 2 * v ≡ side_number v Outgoing
    first v = omega arith

pub better_side-best-requires-in-loop-disk-clause-before : goal.better_side-best-requires-in-loop-disk-clause-before
better_side-best-requires-in-loop-disk-clause-before c = subst (λ n. IsFirstSide c.args.graph.now c.better_side-best.result n) (second c.loop-disk.disk) c.better_side-best.ensures
  where
    second : (v : ℕ) → side_number v Outgoing + 1 ≡ side_number v Incoming
    second v = omega arith

pub loop-disk-preserved : goal.loop-disk-preserved
loop-disk-preserved c = subst (λ n. IsFirstSide c.args.graph.now c.better_side-best-in-loop-disk.result n) (both c.loop-disk.disk) c.better_side-best-in-loop-disk.ensures
  where
    both : (v : ℕ) → side_number v Incoming + 1 ≡ 2 * (v + 1)
    both v = omega arith

pub returns-clause-best : goal.returns-clause-best
returns-clause-best c =
    let all : c.loop-disk.disk ≡ length c.args.graph.now.disks = omega (arith, c.disks-disk-end.ensures.disks, c.loop-disk.auto.disk-end, c.loop-disk-test.false) in
    subst (λ n. IsFirstSide c.args.graph.now c.loop-disk.best (2 * n)) all c.loop-disk.invariant

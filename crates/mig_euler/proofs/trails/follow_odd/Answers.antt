use Rattle.mig_euler.proofs.Common.{Bool, DiskId, IsBalancedSoFar, List, Option, arith, inl, length, subst, sym, total, waits, ℕ, ◌%◌, ◌+◌, ◌<◌, ◌∙◌, ◌≡◌}
use Rattle.mig_euler.proofs.OrientLaws.{ready_after, even_after, even_everywhere, below_disk}
use Rattle.mig_euler.proofs.trails.follow_odd.Goals as goal
use Rattle.mig_euler.proofs.trails.follow_odd.Goals.{then-is_odd, else-is_odd}

-- the loop's invariant after disk i
abbrev After : List (DiskId × DiskId) → ℕ → ℕ → List (Option Bool) → List ℕ → Type 0
After ends n i ds from = IsBalancedSoFar ends ds from × (length from ≡ n) × ((v : DiskId) → v.0 < i + 1 → total (waits v) ends ds % 2 ≡ 0)

pub loop-disk-preserved : goal.loop-disk-preserved
loop-disk-preserved c =
    elim c.if-is_odd.branch [
      | then-is_odd w ↦
          subst (λ (f : List ℕ). After c.args.ends.now (length c.args.from.now) c.loop-disk.disk c.if-is_odd.directions f) (sym w.from-is)
          (subst (λ (d : List (Option Bool)). After c.args.ends.now (length c.args.from.now) c.loop-disk.disk d w.follow.new.from) (sym w.directions-is) (
            ready_after _ _ _ _ _ _ c.loop-disk.invariant.0 w.follow.ensures.trail w.follow.ensures.passed w.follow.ensures.lengths (inl w.if-is_odd.ensures),
            w.follow.ensures.lengths ∙ c.loop-disk.invariant.1,
            even_after _ _ _ _ w.follow.ensures.trail w.if-is_odd.ensures c.loop-disk.invariant.2,
          ))
      | else-is_odd w ↦
          subst (λ (f : List ℕ). After c.args.ends.now (length c.args.from.now) c.loop-disk.disk c.if-is_odd.directions f) (sym w.from-is)
          (subst (λ (d : List (Option Bool)). After c.args.ends.now (length c.args.from.now) c.loop-disk.disk d c.loop-disk.from) (sym w.directions-is) (
            c.loop-disk.invariant.0,
            c.loop-disk.invariant.1,
            below_disk (λ (v : DiskId). total (waits v) c.args.ends.now c.loop-disk.directions % 2 ≡ 0) _ c.loop-disk.invariant.2 w.if-is_odd.ensures,
          ))
    ]

pub returns-clause-even : goal.returns-clause-even
returns-clause-even c =
    even_everywhere c.args.ends.now c.loop-disk.directions (length c.loop-disk.from) c.loop-disk.invariant.0.in_range
    (λ v h. c.loop-disk.invariant.2 v (omega (arith, h, c.loop-disk.invariant.1, c.loop-disk-test.false)))

pub is_odd-requires-clause-bound : goal.is_odd-requires-clause-bound
is_odd-requires-clause-bound c = c.loop-disk.invariant.0.passed.bound (record { 0 = c.loop-disk.disk })

pub is_odd-requires-clause-passed : goal.is_odd-requires-clause-passed
is_odd-requires-clause-passed c = c.loop-disk.invariant.0.passed.passed (record { 0 = c.loop-disk.disk })

use Rattle.mig_euler.proofs.Common.{Bool, MatchBool, arith, subst, sym, take, total, waits, ℕ, ◌%◌, ◌+◌, ◌≡◌}
use Rattle.mig_euler.proofs.Odd.{odd_yes, odd_no}
use Rattle.mig_euler.proofs.LinkLaws.{total-next, total-passed}
use Rattle.mig_euler.proofs.trails.is_odd.Goals as goal
use Rattle.mig_euler.proofs.trails.is_odd.Goals.{then-waits_at, else-waits_at}

pub loop-place-init : goal.loop-place-init
loop-place-init c =
    record {
      within = c.requires.bound;
      parity = omega (arith, total-passed c.args.disk c.args.ends.now c.args.directions.now c.args.from c.requires.lengths c.requires.bound c.requires.passed);
    }

pub loop-place-preserved : goal.loop-place-preserved
loop-place-preserved c =
    let i = c.loop-place.place in
    let t : ℕ → ℕ = λ n. total (waits c.args.disk) (take n c.args.ends.now) (take n c.args.directions.now) in
    let jump : t c.next_place-place.result ≡ t (i + 1) = total-next c.args.disk c.args.ends.now c.args.directions.now i c.next_place-place.result c.requires.lengths c.next_place-place.ensures in
    record {
      within = c.next_place-place.ensures.within;
      parity = subst (λ (m : ℕ). MatchBool c.if-waits_at.odd (m % 2 ≡ 1) (m % 2 ≡ 0)) (sym jump) (elim c.if-waits_at.branch [
        | then-waits_at w ↦ subst (λ (b : Bool). MatchBool b (t (i + 1) % 2 ≡ 1) (t (i + 1) % 2 ≡ 0)) (sym w.odd-is) (odd_yes _ _ _ _ _ _ _ c.loop-place-test.true c.requires.lengths c.requires.no_loop w.if-waits_at.ensures c.loop-place.invariant.parity)
        | else-waits_at w ↦ subst (λ (b : Bool). MatchBool b (t (i + 1) % 2 ≡ 1) (t (i + 1) % 2 ≡ 0)) (sym w.odd-is) (odd_no _ _ _ _ _ _ _ c.loop-place-test.true c.requires.lengths w.if-waits_at.ensures c.loop-place.invariant.parity)
      ]);
    }

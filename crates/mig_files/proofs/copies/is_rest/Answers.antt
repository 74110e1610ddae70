use Rattle.mig_files.proofs.Common.{arith, cases_lt, inl, inr, subst, sym, ℕ, ◌<◌, ◌≡◌, ◌≤◌, ◌⊎◌}
use Rattle.mig_store.specs.Grounds.{AreZeros, sector}
use Rattle.mig_files.proofs.copies.is_rest.Goals as goal

pub loop-n-preserved : goal.loop-n-preserved
loop-n-preserved c k lt = which (cases_lt k c.loop-n.n)
  where
    which : (k < c.loop-n.n) ⊎ (c.loop-n.n ≤ k) → AreZeros (sector c.args.left.now k) ⊎ (sector c.args.left.now k ≡ sector c.args.copied.now k)
    which (inl low) = c.loop-n.invariant k low
    which (inr high) = let same : k ≡ c.loop-n.n = omega (arith, lt, high) in
        subst (λ (m : ℕ). AreZeros (sector c.args.left.now m) ⊎ (sector c.args.left.now m ≡ sector c.args.copied.now m)) (sym same) c.if-not-is_kept.ensures

use Rattle.mig_store.specs.Grounds.{AreZeros, sector}
use Rattle.mig_files.proofs.Common.{ℕ, ◌<◌, ◌≡◌, ◌⊎◌}
use Rattle.mig_files.proofs.copies.is_rest.Given as goal

-- the sectors so far
abbrev pub invariant-loop-n : goal.invariant-loop-n
invariant-loop-n l = (k : ℕ) → k < l.n → AreZeros (sector l.left k) ⊎ (sector l.left k ≡ sector l.copied k)

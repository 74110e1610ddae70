use Rattle.mig_drill.proofs.Common.{is_armed, is_marked, state_of, true, ℕ, ◌≡◌, ◌≤◌}
use Rattle.mig_drill.proofs.stops.count_rounds.Given as goal

-- the gate is 1, and so are the marks so far
abbrev pub invariant-loop-n : goal.invariant-loop-n
invariant-loop-n l = record {
  armed : is_armed (state_of l.store).reads ≡ true;
  marked : (m : ℕ) → 1 ≤ m → m ≤ l.n → is_marked (state_of l.store).reads m ≡ true;
}

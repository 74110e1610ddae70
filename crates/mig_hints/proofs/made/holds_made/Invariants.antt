use Rattle.mig_hints.proofs.Common.{length, slice_index_or, ℕ, ◌%◌, ◌-◌, ◌<◌, ◌≡◌, ◌≤◌}
use Rattle.mig_hints.proofs.made.holds_made.Given as goal

abbrev pub invariant-loop-place : goal.invariant-loop-place
invariant-loop-place l = (k : ℕ) → 34 ≤ k → k < l.place → slice_index_or l.bytes k 0 ≡ slice_index_or l.name ((k - 34) % length l.name) 0

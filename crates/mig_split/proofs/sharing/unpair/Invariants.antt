use Rattle.mig_split.proofs.Common.{copy_at, first_copy, length, second_of, ℕ, ◌+◌, ◌<◌, ◌≡◌}
use Rattle.mig_split.proofs.sharing.unpair.Given as goal

abbrev pub invariant-loop-first : goal.invariant-loop-first
invariant-loop-first l = record { firsts : length l.firsts.items ≡ l.first-index; seconds : length l.seconds.items ≡ l.first-index; first : (e : ℕ) → e < l.first-index → first_copy l.ends e ≡ copy_at l.firsts.items e; second : (e : ℕ) → e < l.first-index → second_of l.ends e ≡ l.fn.from + copy_at l.seconds.items e }

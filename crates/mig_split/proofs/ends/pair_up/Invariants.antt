use Rattle.mig_split.proofs.Common.{copy_at, first_copy, length, second_of, ℕ, ◌+◌, ◌<◌, ◌≡◌}
use Rattle.mig_split.proofs.ends.pair_up.Given as goal

abbrev pub invariant-loop-place : goal.invariant-loop-place
invariant-loop-place l = record { len : length l.ends.items ≡ l.place; first : (e : ℕ) → e < l.place → first_copy l.ends.items e ≡ copy_at l.firsts e; second : (e : ℕ) → e < l.place → second_of l.ends.items e ≡ l.fn.from + copy_at l.seconds e }

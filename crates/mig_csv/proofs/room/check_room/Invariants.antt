use Rattle.mig_csv.proofs.Common.{HasRoom, ℕ, ◌<◌}
use Rattle.mig_csv.proofs.room.check_room.Given as goal

abbrev pub invariant-loop-k : goal.invariant-loop-k
invariant-loop-k l = (j : ℕ) → j < l.k → HasRoom l.input j

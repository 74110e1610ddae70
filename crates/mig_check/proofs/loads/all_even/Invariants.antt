use Rattle.mig_check.proofs.Common.{IsTrue, limit, takes_part, transfer_graph, ℕ, ◌%◌, ◌<◌, ◌≡◌}
use Rattle.mig_check.proofs.loads.all_even.Given as goal

abbrev pub invariant-loop-v : goal.invariant-loop-v
invariant-loop-v l = (w : ℕ) → w < l.v → IsTrue (takes_part (transfer_graph l.input) w) → limit (transfer_graph l.input) w % 2 ≡ 0

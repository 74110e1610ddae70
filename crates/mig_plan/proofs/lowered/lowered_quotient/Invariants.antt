use Rattle.mig_plan.proofs.Common.{IsTrue, limit, takes_part, ℕ, ◌<◌, ◌≡◌, ◌≤◌}
use Rattle.mig_plan.proofs.LoweredLimits.{lowered_first}
use Rattle.mig_plan.proofs.lowered.lowered_quotient.Given as goal

abbrev pub invariant-loop-disk : goal.invariant-loop-disk
invariant-loop-disk l = record {
  most : l.most ≡ lowered_first l.graph l.disk;
  lowerable : (v : ℕ) → v < l.disk → IsTrue (takes_part l.graph v) → 2 ≤ limit l.graph v;
}

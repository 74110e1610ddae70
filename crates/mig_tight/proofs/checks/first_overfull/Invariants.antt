use Rattle.mig_tight.proofs.Common.{slots_of, wanted, ℕ, ◌<◌, ◌≤◌}
use Rattle.mig_tight.proofs.checks.first_overfull.Given as goal

abbrev pub invariant-loop-disk : goal.invariant-loop-disk
invariant-loop-disk l = (u : ℕ) → u < l.disk → wanted l.input u ≤ slots_of l.input u

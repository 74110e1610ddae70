use Rattle.mig_test_commands.proofs.Common.{[], aloft, ◌≡◌}
use Rattle.mig_test_commands.proofs.flying.put.Given as goal

abbrev pub invariant-loop-slot : goal.invariant-loop-slot
invariant-loop-slot g l = aloft l.store ≡ []

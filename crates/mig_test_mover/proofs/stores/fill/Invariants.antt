use Rattle.mig_test_mover.proofs.Common.{[], aloft, ◌≡◌}
use Rattle.mig_test_mover.proofs.stores.fill.Given as goal

abbrev pub invariant-loop-disk : goal.invariant-loop-disk
invariant-loop-disk g l = aloft l.store ≡ []

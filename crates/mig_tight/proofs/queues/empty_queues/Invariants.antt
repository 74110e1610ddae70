use Rattle.mig_tight.proofs.Common.{All, [], length, ◌≡◌}
use Rattle.mig_tight.proofs.queues.empty_queues.Given as goal

abbrev pub invariant-loop-disk : goal.invariant-loop-disk
invariant-loop-disk l = record { len : length l.queues.items ≡ l._disk; empty : All (λ q. q ≡ []) l.queues.items }

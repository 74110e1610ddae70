use Rattle.mig_sides.proofs.Common.{All, [], length, ◌≡◌}
use Rattle.mig_sides.proofs.neighbours.empty_lists.Given as goal

abbrev pub invariant-loop-list : goal.invariant-loop-list
invariant-loop-list l = record { len : length l.lists.items ≡ l._list; empty : All (λ list. list.items ≡ []) l.lists.items }

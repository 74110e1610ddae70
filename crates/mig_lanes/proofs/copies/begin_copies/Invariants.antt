use Rattle.mig_lanes.proofs.Common.{AllWithin, Changes, IsCopy, IsTargetOf, began, copies_of, flights, map, take, ◌≤◌}
use Rattle.mig_lanes.proofs.Common.{item_name, round_at, slot_of, suc, ℕ, ◌≡◌}
use Rattle.mig_mover.specs.Holdings.{IsSeen}
use Rattle.mig_lanes.proofs.copies.begin_copies.Given as goal

abbrev pub invariant-loop-place : goal.invariant-loop-place
invariant-loop-place g l = record {
  change : Changes (IsTargetOf (copies_of l.job l.round)) (IsTargetOf (copies_of l.job l.round)) (map began (take l.place (copies_of l.job l.round))) (g.S.Store.state l.initial.store) (g.S.Store.state l.store);
  landed : AllWithin (λ c. ¬ IsTargetOf (flights (g.S.Store.state l.store)) c.to → IsCopy ((g.S.Store.state l.initial.store).reads c.from) ((g.S.Store.state l.store).reads c.to)) (copies_of l.job l.round) 0 l.place;
  later : (g.S.Store.state l.initial.store).faults ≤ (g.S.Store.state l.store).faults;
  seen : (k : ℕ) → l.round ≡ suc k → g.S.Store.refuses → IsSeen l.job (g.S.Store.seen l.initial.store) (g.S.Store.state l.initial.store).reads k
      → IsSeen l.job (g.S.Store.seen l.store) (g.S.Store.state l.store).reads k × AllWithin (λ s. g.S.Store.seen l.store (slot_of l.job.input s.to) (item_name l.job.input s.item.0)) (round_at l.job.plan l.round) 0 l.place;
}

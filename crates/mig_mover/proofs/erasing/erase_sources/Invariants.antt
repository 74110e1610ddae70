use Rattle.mig_mover.proofs.Common.{AllWithin, ChangesOnly, HoldsZeros, IsSeen, IsSourceSlot, round_at, slot_of, ◌≤◌}
use Rattle.mig_mover.proofs.erasing.erase_sources.Given as goal

abbrev pub invariant-loop-place : goal.invariant-loop-place
invariant-loop-place g l = record {
  erased : AllWithin (λ s. HoldsZeros ((g.S.Store.state l.store).reads (slot_of l.job.input s.from))) (round_at l.job.plan l.round) 0 l.place;
  change : ChangesOnly (IsSourceSlot l.job.input l.job.plan l.round) (g.S.Store.state l.initial.store) (g.S.Store.state l.store);
  later : (g.S.Store.state l.initial.store).faults ≤ (g.S.Store.state l.store).faults;
  seen : IsSeen l.job (g.S.Store.seen l.initial.store) (g.S.Store.state l.initial.store).reads l.round → IsSeen l.job (g.S.Store.seen l.store) (g.S.Store.state l.store).reads l.round;
}

use Rattle.mig_mover.proofs.Common.{AllWithin, ChangesOnly, HoldsZeros, IsFreeSlot, IsSeen, IsVacant, slot_of, ◌≤◌}
use Rattle.mig_mover.proofs.halting.erase_free.Given as goal

abbrev pub invariant-loop-v : goal.invariant-loop-v
invariant-loop-v g l = record {
  erased : AllWithin (λ v. IsVacant v l.found → HoldsZeros ((g.S.Store.state l.store).reads (slot_of l.job.input v.spot))) l.v-items 0 l.v-index;
  change : ChangesOnly (IsFreeSlot l.job.input l.job.plan l.found) (g.S.Store.state l.initial.store) (g.S.Store.state l.store);
  later : (g.S.Store.state l.initial.store).faults ≤ (g.S.Store.state l.store).faults;
  seen : IsSeen l.job (g.S.Store.seen l.initial.store) (g.S.Store.state l.initial.store).reads l.found → IsSeen l.job (g.S.Store.seen l.store) (g.S.Store.state l.store).reads l.found;
}

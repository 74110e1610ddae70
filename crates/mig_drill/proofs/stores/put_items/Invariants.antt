use Rattle.mig_drill.proofs.Common.{ChangesOnly, IsListedCell, state_of}
use Rattle.mig_drill.proofs.FillLaws.{AreMade}
use Rattle.mig_drill.proofs.stores.put_items.Given as goal

-- the items of the first rounds are made
abbrev pub invariant-loop-round : goal.invariant-loop-round
invariant-loop-round l = record {
  made : AreMade l.job.input l.job.plan l.round-index (state_of l.store).reads;
  change : ChangesOnly (IsListedCell l.job.input) (state_of l.initial.store) (state_of l.store);
}

use Rattle.mig_drill.proofs.Common.{AddsCells, flights_of, round_at}
use Rattle.mig_drill.proofs.JobCells.{IsEndBefore}
use Rattle.mig_drill.proofs.stores.add_round.Given as goal

-- the slots of the first copies are among the cells
abbrev pub invariant-loop-place : goal.invariant-loop-place
invariant-loop-place l = AddsCells (IsEndBefore (flights_of l.job.input (round_at l.job.plan l.round)) l.place) l.initial.cells.keys l.cells.keys

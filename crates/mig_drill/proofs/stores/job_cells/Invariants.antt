use Rattle.mig_drill.proofs.JobCells.{Gathers}
use Rattle.mig_drill.proofs.stores.job_cells.Given as goal

-- the cells are the journal's and those of the first rounds
abbrev pub invariant-loop-n : goal.invariant-loop-n
invariant-loop-n l = Gathers l.job l.n l.cells.keys

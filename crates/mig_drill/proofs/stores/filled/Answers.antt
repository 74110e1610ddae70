use Rattle.mig_drill.proofs.Common.{AreJobCells, Cell, List, mem_is_state, state_of, subst, sym}
use Rattle.mig_drill.proofs.FillLaws.{crash_told}
use Rattle.mig_drill.proofs.stores.filled.Goals as goal

pub fill-requires-clause-cells : goal.fill-requires-clause-cells
fill-requires-clause-cells c = subst (λ (cells : List Cell). AreJobCells c.args.job.now cells) (sym c.as_slice.ensures.keys) c.requires.cells

pub returns-clause-told : goal.returns-clause-told
returns-clause-told c = λ cell job. c.fill.ensures.told cell (crash_told (state_of c.args.store) (state_of c.crash-store.result) (mem_is_state c.args.store) c.crash-store.ensures.left cell (c.requires.told cell job))

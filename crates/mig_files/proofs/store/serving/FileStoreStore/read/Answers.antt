use Rattle.mig_files.proofs.Derivation.{cell_looks}
use Rattle.mig_files.proofs.store.serving.FileStoreStore.read.Goals as goal

pub returns-then-self-clause-change : goal.returns-then-self-clause-change
returns-then-self-clause-change g c = cell_looks (g.met.C.Calls.is_state c.args.self.now.calls) c.refuse_with.ensures.step.change

pub returns-in_err-read_cell-clause-change : goal.returns-in_err-read_cell-clause-change
returns-in_err-read_cell-clause-change g c = cell_looks (g.met.C.Calls.is_state c.args.self.now.calls) c.read_cell.ensures.step.change

pub returns-then-self-2-clause-change : goal.returns-then-self-2-clause-change
returns-then-self-2-clause-change g c = cell_looks (g.met.C.Calls.is_state c.args.self.now.calls) c.read_cell.ensures.step.change

pub returns-else-self-2-clause-change : goal.returns-else-self-2-clause-change
returns-else-self-2-clause-change g c = cell_looks (g.met.C.Calls.is_state c.args.self.now.calls) c.read_cell.ensures.step.change

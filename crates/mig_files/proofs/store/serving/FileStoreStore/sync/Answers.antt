use Rattle.mig_files.proofs.Common.{[]}
use Rattle.mig_files.proofs.Derivation.{ends_none, cells_settled}
use Rattle.mig_files.proofs.store.serving.FileStoreStore.sync.Goals as goal

pub returns-then-self-clause-ends : goal.returns-then-self-clause-ends
returns-then-self-clause-ends g c = ([], ends_none (g.met.C.Calls.is_state c.args.self.now.calls) c.refuse_with.ensures.step.change)

pub returns-in-Ok-clause-ends : goal.returns-in-Ok-clause-ends
returns-in-Ok-clause-ends g c = ([], ends_none (g.met.C.Calls.is_state c.args.self.now.calls) c.sync_cells.ensures.step.change)

pub returns-in-Err-clause-ends : goal.returns-in-Err-clause-ends
returns-in-Err-clause-ends g c = ([], ends_none (g.met.C.Calls.is_state c.args.self.now.calls) c.sync_cells.ensures.step.change)

pub returns-in-Ok-clause-settled : goal.returns-in-Ok-clause-settled
returns-in-Ok-clause-settled g c = cells_settled (g.C.Calls.state c.sync_cells.new.calls) (g.C.Calls.state c.sync_cells.new.calls).faults c.in-Ok.ensures.settled

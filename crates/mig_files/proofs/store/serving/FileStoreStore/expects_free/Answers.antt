use Rattle.mig_files.proofs.Derivation.{cell_looks}
use Rattle.mig_files.proofs.Holding.{none_lost}
use Rattle.mig_files.proofs.store.serving.FileStoreStore.expects_free.Goals as goal

pub returns-then-self-clause-change : goal.returns-then-self-clause-change
returns-then-self-clause-change g c = cell_looks (g.met.C.Calls.is_state c.args.self.now.calls) c.refuse_with.ensures.step.change

pub returns-in-Ok-clause-change : goal.returns-in-Ok-clause-change
returns-in-Ok-clause-change g c = cell_looks (g.met.C.Calls.is_state c.args.self.now.calls) c.expects_free.ensures.step.change

pub returns-in-Err-clause-change : goal.returns-in-Err-clause-change
returns-in-Err-clause-change g c = cell_looks (g.met.C.Calls.is_state c.args.self.now.calls) c.expects_free.ensures.step.change

pub returns-in-Ok-clause-free : goal.returns-in-Ok-clause-free
returns-in-Ok-clause-free g c = none_lost c.args.slot.now c.args.self.now.held c.in-Ok.ensures.free

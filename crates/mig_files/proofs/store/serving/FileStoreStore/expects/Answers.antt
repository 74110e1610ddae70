use Rattle.mig_files.proofs.Derivation.{cell_looks}
use Rattle.mig_files.proofs.FilesSteps.{no_change}
use Rattle.mig_files.proofs.store.serving.FileStoreStore.expects.Goals as goal

pub returns-then-self-clause-change : goal.returns-then-self-clause-change
returns-then-self-clause-change g c = cell_looks (g.met.C.Calls.is_state c.args.self.now.calls) c.refuse_with.ensures.step.change

pub returns-clause-change : goal.returns-clause-change
returns-clause-change g c = cell_looks (g.met.C.Calls.is_state c.args.self.now.calls) c.expects.ensures.step.change

pub returns-then-eq-clause-change : goal.returns-then-eq-clause-change
returns-then-eq-clause-change g c = cell_looks (g.met.C.Calls.is_state c.args.self.now.calls) no_change

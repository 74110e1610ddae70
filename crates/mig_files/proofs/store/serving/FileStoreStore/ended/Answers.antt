use Rattle.mig_files.proofs.FilesSteps.{no_change}
use Rattle.mig_files.proofs.Derivation.{ends_none}
use Rattle.mig_files.proofs.store.serving.FileStoreStore.ended.Goals as goal

pub returns-then-self-clause-ends : goal.returns-then-self-clause-ends
returns-then-self-clause-ends g c = ends_none (g.met.C.Calls.is_state c.args.self.now.calls) c.refuse_with.ensures.step.change

pub returns-clause-ends : goal.returns-clause-ends
returns-clause-ends g c = ends_none (g.met.C.Calls.is_state c.args.self.now.calls) no_change

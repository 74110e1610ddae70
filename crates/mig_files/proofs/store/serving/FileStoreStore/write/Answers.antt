use Rattle.mig_files.proofs.Common.{[]}
use Rattle.mig_calls.proofs.FilesSteps.{look_change}
use Rattle.mig_files.proofs.Derivation.{cell_changes}
use Rattle.mig_files.proofs.store.serving.FileStoreStore.write.Goals as goal

pub returns-then-self-clause-change : goal.returns-then-self-clause-change
returns-then-self-clause-change g c = cell_changes c.args.cell.now [] (g.met.C.Calls.is_state c.args.self.now.calls) (look_change c.refuse_with.ensures.step.change)

pub returns-clause-change : goal.returns-clause-change
returns-clause-change g c = cell_changes c.args.cell.now [] (g.met.C.Calls.is_state c.args.self.now.calls) c.write_item.ensures.step.change

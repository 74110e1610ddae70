use Rattle.mig_files.proofs.Common.{[], began, ◌∷◌}
use Rattle.mig_calls.proofs.FilesSteps.{look_change}
use Rattle.mig_files.proofs.Derivation.{cell_changes}
use Rattle.mig_files.proofs.Headers.{on_any}
use Rattle.mig_files.proofs.store.serving.FileStoreStore.begin.Goals as goal

pub returns-then-self-clause-change : goal.returns-then-self-clause-change
returns-then-self-clause-change g c = (
  1,
  cell_changes c.args.to.now (began (record { from = c.args.from.now; to = c.args.to.now }) ∷ []) (g.met.C.Calls.is_state c.args.self.now.calls)
      (look_change c.refuse_with.ensures.step.change),
)

pub returns-clause-begun : goal.returns-clause-begun
returns-clause-begun g c =
    on_any c.copy_item.result (cell_changes c.args.to.now (began (record { from = c.args.from.now; to = c.args.to.now }) ∷ [])
    (g.met.C.Calls.is_state c.args.self.now.calls) c.copy_item.ensures.step.change)

pub returns-clause-change : goal.returns-clause-change
returns-clause-change g c =
    (1, cell_changes c.args.to.now (began (record { from = c.args.from.now; to = c.args.to.now }) ∷ []) (g.met.C.Calls.is_state c.args.self.now.calls) c.copy_item.ensures.step.change)

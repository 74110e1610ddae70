use Rattle.mig_save.proofs.Common.{content_of, save_after, take, ◌≡◌}
use Rattle.mig_save.proofs.mem_save.MemSave.stands.Given as goal

abbrev pub invariant-loop-step : goal.invariant-loop-step
invariant-loop-step l =
    let m = save_after (content_of l.self.first) (take l.step-index l.self.steps.items) in
    (content_of l.stands ≡ m.stands) × (l.beside.items ≡ m.beside)

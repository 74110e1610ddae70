use Rattle.mig_mover.proofs.Common.{InputLists, Lacks, List, ap, subst, sym, ℕ, ◌∙◌}
use Rattle.mig_mover.proofs.SeenSlots.{ground_to, name_is, not_lacked}
use Rattle.mig_mover.proofs.TargetLaws.{shifted_is}
use Rattle.mig_mover.proofs.expecting.expect_moved.Goals as goal

pub returns-clause-cause : goal.returns-clause-cause
returns-clause-cause g c =
    let job = c.args.job.now in
    let named = name_is job.input c.args.item.0 c.requires.item c.items.result.now
    (c.items.ensures.value ∙ ap (λ (l : InputLists). l.items) c.input.ensures.value)
    c.index-items-item.result c.index-items-item.is in
    ground_to c.expects.result (λ lacks. not_lacked job (g.S.Store.state c.args.store.now).reads c.args.found c.args.item.0 c.cell_of.result
    (shifted_is job.plan c.args.item.0 (sym c.is_shifted.ensures ∙ c.if-not-is_shifted.false)) c.cell_of.ensures
    (subst (λ (name : List ℕ). Lacks (g.S.Store.state c.args.store.now).reads c.cell_of.result name) named lacks)) c.expects.ensures.cause

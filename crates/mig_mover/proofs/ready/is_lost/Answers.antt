use Rattle.mig_mover.proofs.Common.{sym, ◌∙◌}
use Rattle.mig_mover.proofs.TargetLaws.{lost_answer}
use Rattle.mig_mover.proofs.ready.is_lost.Goals as goal

pub returns-clause-answer : goal.returns-clause-answer
returns-clause-answer g c = lost_answer c.args.job.now (g.S.Store.state c.args.store.now).reads c.args.item c.input.result.now c.in_ok-is_there.field-0 c.input.ensures.value (sym c.is_shifted.ensures ∙ c.if-not-is_shifted.false) c.in_ok-is_there.ensures.answer

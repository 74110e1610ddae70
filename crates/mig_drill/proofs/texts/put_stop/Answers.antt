use Rattle.mig_drill.proofs.Common.{List, Puts, subst, ℕ}
use Rattle.mig_drill.proofs.LineTexts.{marks_spelled}
use Rattle.mig_drill.proofs.texts.put_stop.Goals as goal

pub returns : goal.returns
returns g c = subst (λ (text : List ℕ). Puts text (g.K.Sink.state c.args.out.now) (g.K.Sink.state c.put_parts.new.out) c.put_parts.result) (marks_spelled c.args.number c.args.before c.args.after) c.put_parts.ensures

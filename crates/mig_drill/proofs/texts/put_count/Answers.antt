use Rattle.mig_drill.proofs.Common.{List, Puts, subst, ℕ}
use Rattle.mig_drill.proofs.LineTexts.{count_spelled}
use Rattle.mig_drill.proofs.texts.put_count.Goals as goal

pub returns : goal.returns
returns g c = subst (λ (text : List ℕ). Puts text (g.K.Sink.state c.args.out.now) (g.K.Sink.state c.put_parts.new.out) c.put_parts.result) (count_spelled c.args.what.now c.args.count) c.put_parts.ensures

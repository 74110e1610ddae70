use Rattle.mig_best.proofs.Common.{sym, ◌∙◌}
use Rattle.mig_best.proofs.BestFits.{class_duplex, class_even, class_general}
use Rattle.mig_best.proofs.certifying.class_in.Goals as goal

pub returns-then-duplex : goal.returns-then-duplex
returns-then-duplex c = sym (class_duplex c.args.graph.now (sym c.duplex.ensures ∙ c.if-duplex.true))

pub returns-then-all_even : goal.returns-then-all_even
returns-then-all_even c = sym (class_even c.args.graph.now (c.all_even.ensures.0 c.if-all_even.true))

pub returns-else-all_even : goal.returns-else-all_even
returns-else-all_even c = sym (class_general c.args.graph.now (sym c.duplex.ensures ∙ c.if-duplex.false) (λ even. let t = c.all_even.ensures.1 even in absurd (let f = c.if-all_even.false in cc)))

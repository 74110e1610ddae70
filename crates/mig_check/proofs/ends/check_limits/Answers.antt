use Rattle.mig_check.proofs.Common.{false, sym, true, ◌∙◌}
use Rattle.mig_check.proofs.PartLimits.{found_by_both, found_by_sides}
use Rattle.mig_check.proofs.ends.check_limits.Goals as goal

pub returns-then-not-duplex-clause-none : goal.returns-then-not-duplex-clause-none
returns-then-not-duplex-clause-none c = (found_by_both c.args.input.now c.keeps_rules.ensures c.args.round.now (sym c.duplex.ensures ∙ c.if-not-duplex.true) c.check_part.result c.check_part.ensures.over).0

pub returns-then-not-duplex-clause-some : goal.returns-then-not-duplex-clause-some
returns-then-not-duplex-clause-some c = (found_by_both c.args.input.now c.keeps_rules.ensures c.args.round.now (sym c.duplex.ensures ∙ c.if-not-duplex.true) c.check_part.result c.check_part.ensures.over).1

pub returns-clause-none : goal.returns-clause-none
returns-clause-none c =
    (found_by_sides c.args.input.now c.keeps_rules.ensures c.args.round.now (sym c.duplex.ensures ∙ c.if-not-duplex.false) c.check_part-outgoing.result c.check_part-incoming.result c.lesser_of.result
    c.check_part-outgoing.ensures.over c.check_part-incoming.ensures.over c.lesser_of.ensures).0

pub returns-clause-some : goal.returns-clause-some
returns-clause-some c =
    (found_by_sides c.args.input.now c.keeps_rules.ensures c.args.round.now (sym c.duplex.ensures ∙ c.if-not-duplex.false) c.check_part-outgoing.result c.check_part-incoming.result c.lesser_of.result
    c.check_part-outgoing.ensures.over c.check_part-incoming.ensures.over c.lesser_of.ensures).1

use Rattle.mig_drill.proofs.Common.{List, Write, ap, arith, length, ◌∙◌}
use Rattle.mig_drill.proofs.WriteLists.{writes_counted}
use Rattle.mig_drill.proofs.drills.drill.Goals as goal

pub try_stops-requires-clause-short : goal.try_stops-requires-clause-short
try_stops-requires-clause-short g c =
    let same = ap (λ (writes : List Write). length writes) (c.deref.ensures.value ∙ c.in_ok-writes.ensures) in
    omega (arith, same, writes_counted c.args.job.now.plan, c.keeps_rules.ensures.few_rounds, c.requires.few)

pub returns-clause-answer : goal.returns-clause-answer
returns-clause-answer g c =
    let same = ap (λ (writes : List Write). length writes) (c.deref.ensures.value ∙ c.in_ok-writes.ensures) in
    omega (arith, same, writes_counted c.args.job.now.plan, c.in_ok-runs.ensures.runs)

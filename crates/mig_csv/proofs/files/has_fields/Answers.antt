use Rattle.mig_csv.proofs.Common.{arith, fields_of, sym, ◌∙◌}
use Rattle.mig_csv.proofs.Fields.{agree_all, agree_more, disagree}
use Rattle.mig_csv.proofs.files.has_fields.Goals as goal

pub loop-i-init : goal.loop-i-init
loop-i-init c = λ k h. absurd (omega (arith, h))

pub returns-then-ne : goal.returns-then-ne
returns-then-ne c =
    (λ h. absurd cc, disagree (fields_of c.args.row.now) c.args.fields.now c.loop-i.i c.loop-i-test.true (rw c.field.ensures at (sym c.ne.ensures ∙ c.if-ne.true)))

pub loop-i-preserved : goal.loop-i-preserved
loop-i-preserved c = agree_more (fields_of c.args.row.now) c.args.fields.now c.loop-i.i c.loop-i.invariant (rw c.field.ensures at (sym c.ne.ensures ∙ c.if-ne.false))

pub returns : goal.returns
returns c = grind (arith, agree_all, fields_of)

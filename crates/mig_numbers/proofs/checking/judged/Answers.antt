use Rattle.mig_numbers.proofs.Common.{rules, ⊎_elim}
use Rattle.mig_numbers.proofs.Judging.{fits, is_blamed, is_right}
use Rattle.mig_numbers.proofs.checking.judged.Goals as goal

pub judge-requires-clause-plan : goal.judge-requires-clause-plan
judge-requires-clause-plan c =
    let s = rw c.in-Ok-Some.field-0-is at c.in-Ok-Some.ensures.cert in
    fits c.args.rows.now c.in-Ok.ensures.sound s.1 c.in-Ok.ensures.input c.in-Ok-read_rows.ensures s.0 c.in_default.ensures

pub returns-in-Ok-judge-clause-right : goal.returns-in-Ok-judge-clause-right
returns-in-Ok-judge-clause-right c =
    let e = c.in-Ok-judge.ensures in
    let s = rw c.in-Ok-Some.field-0-is at c.in-Ok-Some.ensures.cert in
    is_right c.args.rows.now c.in-Ok.ensures.sound s.1 c.in-Ok.ensures.input c.in-Ok-read_rows.ensures s.0 c.in_default.ensures
    c.right.result e.runs e.once e.holds e.needs c.right.ensures

pub returns : goal.returns
returns c =
    let s = rw c.in-Ok-Some.field-0-is at c.in-Ok-Some.ensures.cert in
    record {
      right = tt;
      fault = ⊎_elim (λ m. absurd (search (rules)))
          (λ first. is_blamed c.args.rows.now c.in-Ok.ensures.sound s.1 c.in-Ok.ensures.input c.in-Ok-read_rows.ensures s.0 c.in_default.ensures
          c.blame_by.result c.in-Err-judge.blame first c.blame_by.ensures) c.in-Err-judge.ensures.blame;
    }

use Rattle.mig_words.proofs.Common.{append_assoc, cause_text, codes, ◌++◌}
use Rattle.mig_words.proofs.PutTexts.{puts_fails, puts_then}
use Rattle.mig_words.proofs.telling.put_refusal.Goals as goal

pub returns-in_err-put_parts : goal.returns-in_err-put_parts
returns-in_err-put_parts g c =
    let first = rw c.word_of.ensures at c.in_err-put_parts.ensures in
    rw append_assoc (puts_fails _ (cause_text c.args.why.now ++ codes "\n") _ _ c.in_err-put_parts.field-0.0 c.from_residual.result c.from_residual.ensures.0 first)

pub returns-in_err-put_cause : goal.returns-in_err-put_cause
returns-in_err-put_cause g c =
    let first = rw c.word_of.ensures at c.in_ok-put_parts.ensures in
    let more = puts_fails (cause_text c.args.why.now) (codes "\n") _ _ c.in_err-put_cause.field-0.0 _ c.from_residual-in_err-put_cause.ensures.0 c.in_err-put_cause.ensures in
    rw append_assoc (puts_then _ _ _ _ _ _ first more)

pub returns : goal.returns
returns g c =
    let first = rw c.word_of.ensures at c.in_ok-put_parts.ensures in
    let e = c.put.ensures in
    rw append_assoc (puts_then _ _ _ _ _ _ first (puts_then _ _ _ _ _ c.put.result c.in_ok-put_cause.ensures (record { extended = e.extended; in_part = e.in_part; later = e.later; failed = e.failed })))

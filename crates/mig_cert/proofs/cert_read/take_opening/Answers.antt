use Rattle.mig_cert.proofs.Common.{err_from_is_err_and}
use Rattle.mig_cert.proofs.CertReads.{title_stops, rounds_stops, quotient_stops, class_stops}
use Rattle.mig_cert.proofs.cert_read.take_opening.Goals as goal

pub returns-in_err-take_fixed-clause-line : goal.returns-in_err-take_fixed-clause-line
returns-in_err-take_fixed-clause-line c =
    let q = err_from_is_err_and c.from_residual.result c.from_residual.ensures.1 in
    rw (q.1, q.2) (title_stops c.args.finder.now c.args.lines.now _ (rw (c.title_of.ensures, c.input.ensures.value) at c.in_err-take_fixed.ensures.err))

pub returns-in_err-rounds-clause-line : goal.returns-in_err-rounds-clause-line
returns-in_err-rounds-clause-line c =
    let q = err_from_is_err_and c.from_residual-in_err-rounds.result c.from_residual-in_err-rounds.ensures.1 in
    rw (q.1, q.2) (rounds_stops c.args.finder.now c.args.lines.now _ _ (rw (c.title_of.ensures, c.input.ensures.value) at c.in_ok-take_fixed.ensures.ok) c.in_err-rounds.ensures.err)

pub returns-in_err-quotient-clause-line : goal.returns-in_err-quotient-clause-line
returns-in_err-quotient-clause-line c =
    let q = err_from_is_err_and c.from_residual-in_err-quotient.result c.from_residual-in_err-quotient.ensures.1 in
    rw (q.1, q.2) (quotient_stops c.args.finder.now _ c.args.lines.now _ _ _ (rw (c.title_of.ensures, c.input.ensures.value) at c.in_ok-take_fixed.ensures.ok) c.in_ok-rounds.ensures.ok.0 c.in_ok-rounds.ensures.ok.1 c.in_err-quotient.ensures.err)

pub returns-in_err-class-clause-line : goal.returns-in_err-class-clause-line
returns-in_err-class-clause-line c =
    let q = err_from_is_err_and c.from_residual-in_err-class.result c.from_residual-in_err-class.ensures.1 in
    rw (q.1, q.2)
    (class_stops c.args.finder.now _ _ c.args.lines.now _ _ _ _ (rw (c.title_of.ensures, c.input.ensures.value) at c.in_ok-take_fixed.ensures.ok) c.in_ok-rounds.ensures.ok.0 c.in_ok-rounds.ensures.ok.1 c.in_ok-quotient.ensures.ok.0 c.in_ok-quotient.ensures.ok.1 c.in_err-class.ensures.err)

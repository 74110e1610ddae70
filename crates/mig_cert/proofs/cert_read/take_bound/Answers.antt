use Rattle.mig_cert.proofs.Common.{Many, err_from_is_err_and}
use Rattle.mig_cert.proofs.CertReads.{bound_stops, members_stop}
use Rattle.mig_cert.proofs.cert_read.take_bound.Goals as goal

pub returns-in_err-take_head-clause-line : goal.returns-in_err-take_head-clause-line
returns-in_err-take_head-clause-line c =
    let q = err_from_is_err_and c.from_residual.result c.from_residual.ensures.1 in
    rw (q.1, q.2) (bound_stops c.args.finder.now c.args.lines.now _ c.in_err-take_head.ensures.err)

pub returns-in_err-ids-in-OfSet-clause-line : goal.returns-in_err-ids-in-OfSet-clause-line
returns-in_err-ids-in-OfSet-clause-line c =
    let q = err_from_is_err_and c.from_residual-in_err-ids-in-OfSet.result c.from_residual-in_err-ids-in-OfSet.ensures.1 in
    let ok = rw c.in-OfSet.is at c.in_ok-take_head.ensures.ok in
    rw (q.1, q.2) (members_stop c.args.finder.now (Many c.in-OfSet.count c.in-OfSet.inside c.in-OfSet.value) c.args.lines.now _ _ ok.0 ok.1 c.in_err-ids-in-OfSet.ensures.err)

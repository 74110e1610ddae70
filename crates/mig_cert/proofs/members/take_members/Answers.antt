use Rattle.mig_cert.proofs.Common.{ap, err_from_is_err_and, is_ok, not, true, ◌∙◌, ◌≡◌}
use Rattle.mig_cert.proofs.MemberLists.{member_stops, members_more}
use Rattle.mig_cert.proofs.members.take_members.Goals as goal

pub returns-in_err-disk-clause-err : goal.returns-in_err-disk-clause-err
returns-in_err-disk-clause-err c =
    let q = err_from_is_err_and c.from_residual.result c.from_residual.ensures.1 in
    rw (q.1, q.2) (member_stops c.args.finder.now c.args.count c.members.counter c.members.from c.members.ids.items c.args.lines.now c.members.lines _ c.members.invariant c.members-test.true c.in_err-disk.ensures.err)

pub members-preserved : goal.members-preserved
members-preserved c =
    let ok : is_ok c.push.result ≡ true = c.is_err.ensures.negation ∙ ap not c.if-is_err.false in
    rw (c.push.ensures.items, ok)
    (members_more c.args.finder.now c.members.counter c.members.from c.members.ids.items c.in_ok-disk.disk c.args.lines.now c.members.lines c.take_member.new.lines c.members.invariant c.in_ok-disk.ensures.ok.0 c.in_ok-disk.ensures.ok.1 c.in_ok-disk.ensures.ok.2)

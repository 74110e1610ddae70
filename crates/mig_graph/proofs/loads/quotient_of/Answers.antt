use Rattle.mig_graph.proofs.Common.{Disk, ap, arith, get_or, get_or_default, no_disk, rounds_by, ◌∙◌, ◌≡◌}
use Rattle.mig_graph.proofs.Made.{quotient_more}
use Rattle.mig_graph.proofs.loads.quotient_of.Goals as goal
use Rattle.mig_graph.proofs.loads.quotient_of.Goals.{then-greatest-value, else-greatest-value}

pub loop-disk-preserved : goal.loop-disk-preserved
loop-disk-preserved c =
    let ds = c.args.disks.now in
    let v = c.loop-disk.disk in
    let a = get_or c.args.outgoing.now v 0 in
    let b = get_or c.args.incoming.now v 0 in
    let more = quotient_more ds c.args.outgoing.now c.args.incoming.now v in
    let value : c.rounds_by-value.result ≡ rounds_by (get_or ds v no_disk).limits a b = c.rounds_by-value.ensures ∙ ap (λ (d : Disk). rounds_by d.limits a b) (get_or_default ds v _ no_disk c.loop-disk-test.true) in
    elim c.if-greatest-value.branch [
      | then-greatest-value w ↦ omega (arith, w.greatest-is, w.if-greatest-value.true, more, value, c.loop-disk.invariant)
      | else-greatest-value w ↦ omega (arith, w.greatest-is, w.if-greatest-value.false, more, value, c.loop-disk.invariant)
    ]

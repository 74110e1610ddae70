use Rattle.mig_numbers.proofs.Common.{DiskId, [], arith, get_or, get_or_default, sym, ◌∙◌}
use Rattle.mig_numbers.proofs.Rows.{cover_next, covered_none}
use Rattle.mig_numbers.proofs.writing.write_ids.Goals as goal

pub loop-k-init : goal.loop-k-init
loop-k-init c = sym (covered_none c.args.set.now)

pub loop-k-preserved : goal.loop-k-preserved
loop-k-preserved c =
    let ids = c.args.ids.now in
    let k = c.loop-k.k in
    let id = get_or ids k (record { 0 = 0 }) in
    let lt = c.loop-k-test.true in
    c.put.ensures ∙ cover_next (λ (d : DiskId). d.0) c.args.set.now [] c.loop-k.set ids k k id c.loop-k.invariant (omega arith) lt (get_or_default ids k (record { 0 = 0 }) id lt)

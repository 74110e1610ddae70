use Rattle.mig_check.proofs.Common.{arith, count_by-le-length, counts_at, get_or_default, length-map, length-take, map, take, transfer_of}
use Rattle.mig_check.proofs.ends.count_ends.Goals as goal

pub count_shift-requires-clause-room : goal.count_shift-requires-clause-room
count_shift-requires-clause-room c = λ k d h.
    let so_far = take c.loop-s.s-index c.args.round.now in
    omega (arith, get_or_default c.loop-s.counts k d 0 h, c.loop-s.invariant k h, count_by-le-length (counts_at c.args.part k) (map transfer_of so_far), length-map so_far transfer_of, length-take c.loop-s.s-index c.args.round.now, c.requires.few)

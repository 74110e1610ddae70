use Rattle.mig_board.proofs.Common.{arith, ◌%◌}
use Rattle.mig_board.proofs.Bits.{high_has}
use Rattle.mig_board.proofs.words.bits_from.Goals as goal

pub returns-then-at-from : goal.returns-then-at-from
returns-then-at-from c = λ i h.
    (let r = high_has c.args.word (c.args.from % 64) i (omega arith) h in
    let from = c.if-at-from.true in (
      (λ m. (omega (arith, from, (r.0 m).0), (r.0 m).1)),
      (λ m. r.1 (omega (arith, from, m.0), m.1)),
    ))

use Rattle.mig_text.proofs.Common.{arith}
use Rattle.mig_text.proofs.Numerals.{last_digit, next_digit}
use Rattle.mig_text.proofs.printing.+push_number.Goals as goal
use Rattle.mig_text.proofs.printing.+push_number.Goals.{then-number-ge10+in_ok-push_number, else-number-ge10}

pub returns : goal.returns
returns t c =
    elim c.if-number-ge10.branch [
      | then-number-ge10+in_ok-push_number w ↦ next_digit c.args.number c.args.out.now.items c.if-number-ge10.out.items c.push.new.self.items (omega arith) (omega arith) (rw w.out-is w.in_ok-push_number.ensures) c.in_ok-push.ensures.items
      | else-number-ge10 w ↦ last_digit c.args.number c.args.out.now.items c.push.new.self.items (omega arith) (rw w.out-is at c.in_ok-push.ensures.items)
    ]

use Rattle.mig_numbers.proofs.Common.{IfOk, List, Shift, subst, ◌≡◌}
use Rattle.mig_numbers.proofs.SortedRows.{sorted_is}
use Rattle.mig_numbers.proofs.spelling.read_rows.Goals as goal

pub returns : goal.returns
returns c = subst (λ (p : List (List Shift)). IfOk c.plan_of.result (λ (plan : List (List Shift)). plan ≡ p)) (sorted_is c.args.items.now c.args.rows.now c.args.rounds c.in_ok-made.made.items c.in_ok-made.ensures) c.plan_of.ensures

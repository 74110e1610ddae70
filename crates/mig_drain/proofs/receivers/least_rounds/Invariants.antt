use Rattle.mig_drain.proofs.Common.{all_take, ℕ, ◌-◌, ◌≤◌}
use Rattle.mig_drain.proofs.receivers.least_rounds.Given as goal

abbrev pub invariant-loop-from : goal.invariant-loop-from
invariant-loop-from l = record { low : l.low ≤ l.from; order : l.from ≤ l.upto; most : l.upto ≤ l.items; enough : l.items ≤ all_take l.upto l.receivers; less : (q : ℕ) → l.low ≤ q → l.items ≤ all_take q l.receivers → l.from ≤ q }

abbrev pub decreases-loop-from : goal.decreases-loop-from
decreases-loop-from l = l.upto - l.from

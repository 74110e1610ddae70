use Rattle.mig_live.proofs.Common.{WereRead, length}
use Rattle.mig_live.proofs.scripts.read_orders.Given as goal

-- the orders of the pieces so far
abbrev pub invariant-loop-piece : goal.invariant-loop-piece
invariant-loop-piece l = WereRead l.finder l.initial.parts l.orders.items l.parts

abbrev pub decreases-loop-piece : goal.decreases-loop-piece
decreases-loop-piece l = length l.parts

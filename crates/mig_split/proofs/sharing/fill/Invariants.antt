use Rattle.mig_split.proofs.Common.{IsFilling}
use Rattle.mig_split.proofs.sharing.fill.Given as goal

abbrev pub invariant-loop-copy : goal.invariant-loop-copy
invariant-loop-copy l = IsFilling l.fn.q l.copy l.stops l.nodes.items l.last

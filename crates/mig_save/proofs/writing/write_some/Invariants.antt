use Rattle.mig_save.proofs.Common.{Keeps}
use Rattle.mig_save.proofs.writing.write_some.Given as goal

-- a write that was interrupted wrote nothing
abbrev pub invariant-loop : goal.invariant-loop
invariant-loop g l = Keeps (g.W.Write.contents l.initial.out) (g.W.Write.contents l.out)

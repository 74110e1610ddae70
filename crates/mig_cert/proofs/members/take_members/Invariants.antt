use Rattle.mig_cert.proofs.Common.{AreMembersPart}
use Rattle.mig_cert.proofs.members.take_members.Given as goal

abbrev pub invariant-members : goal.invariant-members
invariant-members l = AreMembersPart l.finder l.counter l.from l.ids.items l.fn.lines l.lines

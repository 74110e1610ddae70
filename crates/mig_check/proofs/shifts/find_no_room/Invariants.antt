use Rattle.mig_check.proofs.Common.{HaveRoom, has_spot}
use Rattle.mig_check.proofs.shifts.find_no_room.Given as goal

abbrev pub invariant-loop-s : goal.invariant-loop-s
invariant-loop-s l = HaveRoom l.disks (has_spot l.initial.taken) l.round l.s-index (has_spot l.taken)

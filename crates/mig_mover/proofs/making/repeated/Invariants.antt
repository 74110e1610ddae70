use Rattle.mig_mover.proofs.Common.{◌-◌, ◌≡◌, ◌≤◌}
use Rattle.mig_mover.proofs.MadeSlots.{filled_to, name_byte, IsWhole}
use Rattle.mig_mover.proofs.making.repeated.Given as goal

abbrev pub invariant-loop-filled : goal.invariant-loop-filled
invariant-loop-filled l = record {
  filled : l.contents ≡ filled_to (name_byte l.name) 4062 l.filled;
  whole : IsWhole l.name 4062 l.filled;
  some : 1 ≤ l.filled;
  most : l.filled ≤ 4062;
}

abbrev pub decreases-loop-filled : goal.decreases-loop-filled
decreases-loop-filled l = 4062 - l.filled

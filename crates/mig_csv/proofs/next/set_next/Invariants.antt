use Rattle.mig_csv.proofs.Common.{IsOpened, List, length, ℕ}
use Rattle.mig_base.specs.declared.faults.FileKind.TheVariants as file
use Rattle.mig_csv.proofs.WayRows.{WaysSoFar}
use Rattle.mig_csv.proofs.next.set_next.Given as goal

abbrev pub invariant-rows : goal.invariant-rows
invariant-rows l = (bytes : List ℕ) → IsOpened file.Next bytes l.fn.records → WaysSoFar bytes l.disks.disks.items l.present l.records l.seen l.next.items

abbrev pub decreases-rows : goal.decreases-rows
decreases-rows l = length l.records

use Rattle.mig_csv.proofs.Common.{IsOpened, List, length, ℕ}
use Rattle.mig_base.specs.declared.faults.FileKind.TheVariants as file
use Rattle.mig_csv.proofs.ItemFiles.{ItemsSoFar}
use Rattle.mig_csv.proofs.items.add_items.Given as goal

abbrev pub invariant-rows : goal.invariant-rows
invariant-rows l = (bytes : List ℕ) → IsOpened file.Now bytes l.fn.records → ItemsSoFar bytes l.disks.disks.items l.records l.layout.names l.layout.taken l.layout.items.items l.layout.spots.items

abbrev pub decreases-rows : goal.decreases-rows
decreases-rows l = length l.records

use Rattle.mig_csv.proofs.Common.{IsOpened, List, has_sides, length, ℕ, ◌≡◌}
use Rattle.mig_base.specs.declared.faults.FileKind.TheVariants as file
use Rattle.mig_csv.proofs.DiskFiles.{ReadSoFar}
use Rattle.mig_csv.proofs.disks.add_disks.Given as goal

abbrev pub invariant-rows : goal.invariant-rows
invariant-rows l = (bytes : List ℕ) → IsOpened file.Disks bytes l.fn.records → l.fn.sides ≡ has_sides bytes → ReadSoFar bytes l.records l.listed.names l.listed.disks.items

abbrev pub decreases-rows : goal.decreases-rows
decreases-rows l = length l.records

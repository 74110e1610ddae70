use Rattle.mig_text.proofs.Tables.{different_disks}
use Rattle.mig_text.proofs.finder.Finder.of.Goals as goal

pub disk_names-requires : goal.disk_names-requires
disk_names-requires c = rw c.disks.ensures.value (different_disks c.args.input.now c.disks.ensures.valid)

use Rattle.mig_files.proofs.DiskLists.{any_is}
use Rattle.mig_files.proofs.disk_set.NamedDisks.holds.Goals as goal

pub returns : goal.returns
returns c = rw (← c.self.view_is) (any_is c.self.inside.names.keys c.args.name.now c.contains.result c.contains.ensures)

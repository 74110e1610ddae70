use Rattle.mig_files.proofs.DiskLists.{removed_kept, shorter}
use Rattle.mig_files.proofs.disk_set.NamedDisks.remove.Goals as goal

pub returns-clause-kept : goal.returns-clause-kept
returns-clause-kept c = rw (← c.self.view_is) (λ p out has. removed_kept c.self.inside.names.keys _ c.args.name.now p (c.swap_remove.ensures.updates.2 p) out has)

pub returns-clause-shorter : goal.returns-clause-shorter
returns-clause-shorter c = rw (← c.self.view_is) (λ has. shorter c.self.inside.names.keys _ c.args.name.now c.swap_remove.result c.swap_remove.ensures.found c.swap_remove.ensures.len has)

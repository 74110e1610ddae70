use Rattle.mig_calls.proofs.Common.{FilesStep, List, Named, [], ap, seen_files, ◌++◌, ◌∙◌, ◌∷◌}
use Rattle.mig_calls.proofs.Disks.{all_named}
use Rattle.mig_calls.proofs.mem_disk.MemDisk.name_all.Goals as goal

pub invariant_of-self-2 : goal.invariant_of-self-2
invariant_of-self-2 c =
    all_named c.self.inside.steps.items c.push.new.list.items c.self.inside.table (seen_files c.self.inside.files.items) (seen_files c.name_all.new.files.items) c.self.invariant
    c.name_all.ensures (c.push.ensures ∙ ap (λ (l : List FilesStep). l ++ Named ∷ []) c.reserve.ensures.items)

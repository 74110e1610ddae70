use Rattle.mig_calls.proofs.Common.{Crashed, FilesStep, List, [], ap, seen_files, ◌++◌, ◌∙◌, ◌∷◌}
use Rattle.mig_calls.proofs.Disks.{all_crashed}
use Rattle.mig_calls.proofs.mem_disk.MemDisk.crash.Goals as goal

pub invariant_of-self-2 : goal.invariant_of-self-2
invariant_of-self-2 c =
    all_crashed c.self.inside.steps.items c.push.new.list.items c.self.inside.table (seen_files c.self.inside.files.items) (seen_files c.crash_all.new.files.items) c.self.invariant
    c.args.pick c.crash_all.ensures (c.push.ensures ∙ ap (λ (l : List FilesStep). l ++ Crashed c.args.pick ∷ []) c.reserve.ensures.items)

use Rattle.mig_calls.proofs.Common.{List, MemFile, SeenFile, [], ap, map-append, no_file, seen_file, seen_files, ◌++◌, ◌∙◌, ◌∷◌, ◌≡◌}
use Rattle.mig_calls.proofs.Disks.{one_added}
use Rattle.mig_calls.proofs.mem_disk.MemDisk.add.Goals as goal

pub invariant_of-self-2 : goal.invariant_of-self-2
invariant_of-self-2 c =
    let files = c.self.inside.files.items in
    let one : seen_file c.new.result ≡ record { place = c.args.place.now; file = no_file } = λ j. record { place = c.new.ensures.place j; file = c.new.ensures.none j } in
    one_added c.self.inside.steps.items c.self.inside.table c.push.new.self (seen_files files) (seen_files c.push-2.new.list.items) c.args.place.now c.self.invariant c.in_ok-push.ensures.ok
    (ap seen_files c.push-2.ensures ∙ ap (λ (l : List MemFile). seen_files (l ++ c.new.result ∷ [])) c.reserve.ensures.items
    ∙ map-append seen_file files (c.new.result ∷ []) ∙ ap (λ (s : SeenFile). seen_files files ++ s ∷ []) one)

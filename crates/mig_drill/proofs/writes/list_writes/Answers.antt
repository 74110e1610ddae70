use Rattle.mig_drill.proofs.Common.{ClearMark, List, Shift, Write, ap, append_assoc, arith, flat_map, length, replicate, round_writes, take, ◌++◌, ◌∙◌, ◌∷◌}
use Rattle.mig_drill.specs.declared.writes.Write.TheVariants.{Head, Gate}
use Rattle.mig_drill.proofs.WriteLists.{round_more}
use Rattle.mig_drill.proofs.writes.list_writes.Goals as goal

pub loop-n-preserved : goal.loop-n-preserved
loop-n-preserved c =
    let plan = c.args.job.now.plan in
    let n = c.loop-n.n in
    let before = flat_map (λ (round : List Shift). round_writes (length round)) (take n plan) in
    let added = round_writes c.round_len.result in
    c.in_ok-push_round.ensures
    ∙ ap (λ (ws : List Write). ws ++ added) c.loop-n.invariant
    ∙ append_assoc (replicate (length plan) ClearMark) (Head ∷ Gate ∷ before) added
    ∙ ap (λ (ws : List Write). replicate (length plan) ClearMark ++ Head ∷ Gate ∷ ws) (round_more plan n c.round_len.result (omega arith) c.round_len.ensures.count)

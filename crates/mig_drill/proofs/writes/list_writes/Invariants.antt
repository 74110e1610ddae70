use Rattle.mig_drill.proofs.Common.{ClearMark, List, Shift, flat_map, length, replicate, round_writes, take, ◌++◌, ◌∷◌, ◌≡◌}
use Rattle.mig_drill.specs.declared.writes.Write.TheVariants.{Head, Gate}
use Rattle.mig_drill.proofs.writes.list_writes.Given as goal

abbrev pub invariant-loop-n : goal.invariant-loop-n
invariant-loop-n l = l.writes.items ≡ replicate (length l.job.plan) ClearMark ++ Head ∷ Gate ∷ flat_map (λ (round : List Shift). round_writes (length round)) (take l.n l.job.plan)

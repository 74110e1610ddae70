use Rattle.mig_check.proofs.Common.{Disk, IsLeastOver, KeepsPart, List, MatchOption, arith, map, subst, transfer_of}
use Rattle.mig_check.proofs.PartLimits.{part_in_load}
use Rattle.mig_check.proofs.ends.check_part.Goals as goal

pub clear_ends-requires-clause-counted : goal.clear_ends-requires-clause-counted
clear_ends-requires-clause-counted c = λ v h. omega (arith, c.count_ends.ensures v h, part_in_load c.args.part v (map transfer_of c.args.round.now))

pub returns-clause-over : goal.returns-clause-over
returns-clause-over c =
    let round = c.args.round.now in
    subst (λ (ds : List Disk). MatchOption c.over_in-over.result (KeepsPart c.args.part ds (map transfer_of round)) (λ r. IsLeastOver c.args.part ds round r.0.0 r.1)) c.disks.ensures.value c.over_in-over.ensures

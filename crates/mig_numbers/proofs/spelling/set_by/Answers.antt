use Rattle.mig_numbers.proofs.Common.{DiskId, IsDiskSet, disk_id, subst, sym, ◌<◌}
use Rattle.mig_numbers.proofs.Lists.{pairs_in}
use Rattle.mig_numbers.proofs.spelling.set_by.Goals as goal

pub of-requires : goal.of-requires
of-requires c = subst IsDiskSet (sym c.in_ok-ids.ensures) (pairs_in disk_id c.args.set.now 0 (λ (a b : DiskId). a.0 < b.0) (λ i j lt below. c.requires i j 0 lt below))

use Rattle.mig_files.proofs.Common.{Disk, Journal}
use Rattle.mig_files.proofs.TrackingSteps.{settled_cell}
use Rattle.mig_files.proofs.syncs.sync_cells.Goals as goal

pub returns-clause-settled : goal.returns-clause-settled
returns-clause-settled g c =
    let names = c.in_ok-sync_names.ensures.kept in
    let disks = c.in_ok-sync_disks.ensures.kept in
    let journal = c.in_ok-sync_journal.ensures.kept in
    settled_cell (g.met.C.Calls.is_state c.sync_names.new.calls) (names.claimed (disks.claimed (journal.claimed c.in_ok-claim.ensures.claimed))) c.in_ok-sync_names.ensures.named
    (λ disk. names.flushed (Disk disk) (c.in_ok-sync_disks.ensures.flushed disk)) (names.flushed Journal (disks.flushed Journal c.in_ok-sync_journal.ensures.flushed))

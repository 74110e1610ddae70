use Rattle.mig_files.proofs.Common.{HasSyncedSome, length}
use Rattle.mig_files.proofs.syncs.sync_disks.Given as goal

abbrev pub invariant-disks : goal.invariant-disks
invariant-disks g l = HasSyncedSome (length l.fn.tracked.notes.dirty) l.counter l.tracked.notes (g.C.Calls.state l.fn.calls) (g.C.Calls.state l.calls)

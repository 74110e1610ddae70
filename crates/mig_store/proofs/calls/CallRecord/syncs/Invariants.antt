use Rattle.mig_store.proofs.Common.{count_by, take, ◌≡◌, ◌≤◌}
use Rattle.mig_store.proofs.NoteLists.{notes_sync}
use Rattle.mig_store.proofs.calls.CallRecord.syncs.Given as goal

abbrev pub invariant-loop-note : goal.invariant-loop-note
invariant-loop-note l = (l.syncs ≡ count_by notes_sync (take l.note-index l.note-items)) × (l.syncs ≤ l.note-index)

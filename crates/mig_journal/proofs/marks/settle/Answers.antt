use Rattle.mig_journal.proofs.Common.{IfSome, Image, false≢true, subst, sym, ◌∙◌, ◌≡◌}
use Rattle.mig_journal.proofs.Steps.{on_ok_is, then_sync, still_none, sync_same, remembers_at, remembers_synced, only_rose, no_erasure, err_any}
use Rattle.mig_journal.proofs.marks.settle.Goals as goal

pub write-requires-clause-asked : goal.write-requires-clause-asked
write-requires-clause-asked g c = λ slot. absurd (false≢true (sym c.requires.journal ∙ slot))

pub returns-clause-written : goal.returns-clause-written
returns-clause-written g c =
    let old = g.S.Store.state c.args.store.now in
    let mid = g.S.Store.state c.write.new.self in
    let new = g.S.Store.state c.sync.new.self in
    on_ok_is c.sync.result (subst (λ (image : Image). IfSome (image c.args.cell.now) (λ told. told ≡ c.args.bytes.now))
    (sync_same mid new (still_none (λ k. k ≡ c.args.cell.now) old mid c.requires.none c.write.ensures.change) c.sync.ensures.ends.0 c.sync.ensures.ends.1) c.in_ok-write.ensures.written)

pub returns-clause-change : goal.returns-clause-change
returns-clause-change g c = then_sync (λ k. k ≡ c.args.cell.now) (g.S.Store.state c.args.store.now) (g.S.Store.state c.write.new.self) (g.S.Store.state c.sync.new.self) c.requires.none c.write.ensures.change c.sync.ensures.ends.0 c.sync.ensures.ends.1

pub returns-in_err-write-clause-seen : goal.returns-in_err-write-clause-seen
returns-in_err-write-clause-seen g c = remembers_at c.args.cell.now c.requires.journal c.write.ensures.seen

pub returns-clause-seen : goal.returns-clause-seen
returns-clause-seen g c = remembers_synced (remembers_at c.args.cell.now c.requires.journal c.write.ensures.seen) c.sync.ensures.seen

pub returns-in_err-write-clause-cause : goal.returns-in_err-write-clause-cause
returns-in_err-write-clause-cause g c = record {
  later = c.write.ensures.cause.later;
  failed = err_any _ (only_rose (no_erasure c.args.cell.now c.requires.journal) c.in_err-write.ensures.cause.failed);
}

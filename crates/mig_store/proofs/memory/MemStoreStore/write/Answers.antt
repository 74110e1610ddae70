use Rattle.mig_store.proofs.Common.{IsMoment, Log, Memory, Wrote, ap, moment_of, not, pushed, subst, ◌∙◌, ◌≡◌}
use Rattle.mig_store.proofs.Serving.{mem_still, mem_wrote, mem_written}
use Rattle.mig_store.proofs.memory.MemStoreStore.write.Goals as goal

pub returns-then-not-has_room-clause-change : goal.returns-then-not-has_room-clause-change
returns-then-not-has_room-clause-change c = mem_still c.args.self.now (record { log = c.self.inside.ledger; landing = c.self.inside.landing; trouble = c.fault.new.self }) (λ k. k ≡ c.args.cell.now) (λ k. k ≡ c.args.cell.now) (ap (λ (m : Memory). m.log) c.self.view_is)

pub returns-then-fails-clause-change : goal.returns-then-fails-clause-change
returns-then-fails-clause-change c = mem_wrote c.args.self.now (record { log = c.write.new.self; landing = c.self.inside.landing; trouble = c.fault-then-fails.new.self }) c.args.cell.now c.args.bytes.now (not c.next_write-fails.result)
    (c.write.ensures ∙ ap (λ (l : Log). pushed l (Wrote c.args.cell.now c.args.bytes.now (not c.next_write-fails.result))) (ap (λ (m : Memory). m.log) c.self.view_is))
    (subst (λ (l : Log). IsMoment (moment_of l)) (ap (λ (m : Memory). m.log) c.self.view_is) c.has_room.ensures.moment) c.requires.length

pub returns-clause-written : goal.returns-clause-written
returns-clause-written c = mem_written c.args.self.now (record { log = c.write.new.self; landing = c.self.inside.landing; trouble = c.next_write-fails.new.self }) c.args.cell.now c.args.bytes.now (not c.next_write-fails.result)
    (c.write.ensures ∙ ap (λ (l : Log). pushed l (Wrote c.args.cell.now c.args.bytes.now (not c.next_write-fails.result))) (ap (λ (m : Memory). m.log) c.self.view_is))
    (subst (λ (l : Log). IsMoment (moment_of l)) (ap (λ (m : Memory). m.log) c.self.view_is) c.has_room.ensures.moment) c.requires.length (ap not c.if-fails.false)

pub returns-clause-change : goal.returns-clause-change
returns-clause-change c = mem_wrote c.args.self.now (record { log = c.write.new.self; landing = c.self.inside.landing; trouble = c.next_write-fails.new.self }) c.args.cell.now c.args.bytes.now (not c.next_write-fails.result)
    (c.write.ensures ∙ ap (λ (l : Log). pushed l (Wrote c.args.cell.now c.args.bytes.now (not c.next_write-fails.result))) (ap (λ (m : Memory). m.log) c.self.view_is))
    (subst (λ (l : Log). IsMoment (moment_of l)) (ap (λ (m : Memory). m.log) c.self.view_is) c.has_room.ensures.moment) c.requires.length

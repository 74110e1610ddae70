use Rattle.mig_store.proofs.Common.{Bool, Changes, Copies, Flight, IfSome, IsMoment, IsSome, IsTargetOf, IsTrue, List, Log, Memory, [], ap, began, cell_len, cond, false, flying, is_slot, length, moment_of, not, pushed, reads, state_of, subst, sym, true, ℕ, ◌∙◌, ◌∷◌, ◌≡◌}
use Rattle.mig_store.proofs.Serving.{mem_still, mem_asked, mem_moving}
use Rattle.mig_store.proofs.Sources.{copy_recorded}
use Rattle.mig_store.proofs.SureSteps.{slot_len}
use Rattle.mig_store.proofs.memory.MemStoreStore.begin.Goals as goal

-- a copy that was asked to begin
module _ (m n : Memory) (f : Flight) (fails : Bool) (old : Log) (same : old ≡ m.log) (is : IsMoment (moment_of old)) (from : IsTrue (is_slot f.from)) (to : IsTrue (is_slot f.to)) (told : IsSome (reads (moment_of old) f.from))
    (pushes : IfSome (reads (moment_of old) f.from) (λ bytes. n.log ≡ pushed old (Copies f.from f.to bytes (not fails)))) where
  copy : (bytes : List ℕ) × (n.log ≡ pushed old (Copies f.from f.to bytes (not fails))) × (length bytes ≡ cell_len f.to)
  copy = copy_recorded old n.log f (not fails) is (slot_len f.from from ∙ sym (slot_len f.to to)) told pushes

  recorded : n.log ≡ pushed m.log (Copies f.from f.to copy.0 (not fails))
  recorded = copy.1 ∙ ap (λ (l : Log). pushed l (Copies f.from f.to copy.0 (not fails))) same

  moment : IsMoment (moment_of m.log)
  moment = subst (λ (l : Log). IsMoment (moment_of l)) same is

  changes : (d : Bool) → fails ≡ d → Changes (λ k. k ≡ f.to) (λ k. k ≡ f.to) (cond (not d) (began f ∷ []) []) (state_of m) (state_of n)
  changes d at = subst (λ (d : Bool). Changes (λ k. k ≡ f.to) (λ k. k ≡ f.to) (cond (not d) (began f ∷ []) []) (state_of m) (state_of n)) at (mem_asked m n f copy.0 (not fails) recorded moment copy.2)

  moving : fails ≡ false → IsTargetOf (flying (moment_of n.log)) f.to
  moving at = mem_moving m n f copy.0 (not fails) recorded moment copy.2 (ap not at)

pub returns-then-not-has_room-clause-change : goal.returns-then-not-has_room-clause-change
returns-then-not-has_room-clause-change c = (0, mem_still c.args.self.now (record { log = c.self.inside.ledger; landing = c.self.inside.landing; trouble = c.fault.new.self }) (λ k. k ≡ c.args.to.now) (λ k. k ≡ c.args.to.now) (ap (λ (m : Memory). m.log) c.self.view_is))

pub returns-then-not-tells-clause-change : goal.returns-then-not-tells-clause-change
returns-then-not-tells-clause-change c = (0, mem_still c.args.self.now (record { log = c.self.inside.ledger; landing = c.self.inside.landing; trouble = c.fault-then-not-tells.new.self }) (λ k. k ≡ c.args.to.now) (λ k. k ≡ c.args.to.now) (ap (λ (m : Memory). m.log) c.self.view_is))

pub returns-then-fails-clause-change : goal.returns-then-fails-clause-change
returns-then-fails-clause-change c = (
  0,
  changes c.args.self.now (record { log = c.begin.new.self; landing = c.self.inside.landing; trouble = c.fault-then-fails.new.self }) (record { from = c.args.from.now; to = c.args.to.now })
      c.next_write-fails.result c.self.inside.ledger (ap (λ (m : Memory). m.log) c.self.view_is) c.has_room.ensures.moment c.requires.slots.0 c.requires.slots.1 (c.tells.ensures.0 c.if-not-tells.false).0 c.begin.ensures true c.if-fails.true,
)

pub returns-clause-begun : goal.returns-clause-begun
returns-clause-begun c = changes c.args.self.now (record { log = c.begin.new.self; landing = c.self.inside.landing; trouble = c.next_write-fails.new.self }) (record { from = c.args.from.now; to = c.args.to.now })
    c.next_write-fails.result c.self.inside.ledger (ap (λ (m : Memory). m.log) c.self.view_is) c.has_room.ensures.moment c.requires.slots.0 c.requires.slots.1 (c.tells.ensures.0 c.if-not-tells.false).0 c.begin.ensures false c.if-fails.false

pub returns-clause-copied : goal.returns-clause-copied
returns-clause-copied c = λ still. absurd (still (
  c.requires.slots.1,
  moving c.args.self.now (record { log = c.begin.new.self; landing = c.self.inside.landing; trouble = c.next_write-fails.new.self }) (record { from = c.args.from.now; to = c.args.to.now })
      c.next_write-fails.result c.self.inside.ledger (ap (λ (m : Memory). m.log) c.self.view_is) c.has_room.ensures.moment c.requires.slots.0 c.requires.slots.1 (c.tells.ensures.0 c.if-not-tells.false).0 c.begin.ensures c.if-fails.false,
))

pub returns-clause-change : goal.returns-clause-change
returns-clause-change c = (1, returns-clause-begun c)

use Rattle.mig_store.proofs.Common.{Ends, Memory, NoCell, Some, [], ap, ends_quiet, next_flight, state_at, state_of, subst, ◌∷◌, ◌≡◌}
use Rattle.mig_store.proofs.Serving.{mem_still}
use Rattle.mig_store.proofs.memory.MemStoreStore.ended.Goals as goal

quiet : (m n : Memory) → n.log ≡ m.log → Ends [] (state_of m) (state_of n)
quiet m n same = ends_quiet (state_of m) (state_of n) (mem_still m n NoCell NoCell same)

pub returns-then-next-clause-ends : goal.returns-then-next-clause-ends
returns-then-next-clause-ends c = quiet c.args.self.now (record { log = c.self.inside.ledger; landing = c.self.inside.landing; trouble = c.fault.new.self }) (ap (λ (m : Memory). m.log) c.self.view_is)

pub returns-then-is_empty-clause-ends : goal.returns-then-is_empty-clause-ends
returns-then-is_empty-clause-ends c = quiet c.args.self.now (record { log = c.self.inside.ledger; landing = c.self.inside.landing; trouble = c.next.new.self }) (ap (λ (m : Memory). m.log) c.self.view_is)

pub returns-then-not-has_room-clause-ends : goal.returns-then-not-has_room-clause-ends
returns-then-not-has_room-clause-ends c = quiet c.args.self.now (record { log = c.self.inside.ledger; landing = c.self.inside.landing; trouble = c.fault-then-not-has_room.new.self }) (ap (λ (m : Memory). m.log) c.self.view_is)

pub returns-clause-ends : goal.returns-clause-ends
returns-clause-ends c = subst (λ (m : Memory). Ends (c.land_next-flight.result ∷ []) (state_of m) (state_at c.land_next-flight.new.ledger.first c.land_next-flight.new.ledger.calls c.next.new.self.faults)) c.self.view_is
    (c.land_next-flight.ensures.ends c.self.inside.trouble.faults c.next.new.self.faults)

pub returns-clause-named : goal.returns-clause-named
returns-clause-named c = subst (λ (m : Memory). next_flight m ≡ Some c.land_next-flight.result) c.self.view_is (c.land_next-flight.ensures.next c.self.inside.trouble)

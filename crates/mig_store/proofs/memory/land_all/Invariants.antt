use Rattle.mig_store.proofs.Common.{Trouble, land_many, ◌≡◌}
use Rattle.mig_store.proofs.Landings.{HaveLanded}
use Rattle.mig_store.proofs.memory.land_all.Given as goal

abbrev pub invariant-loop : goal.invariant-loop
invariant-loop l = HaveLanded l.fn.ledger l.ledger l.counter
    × ((t : Trouble) → record { log = l.ledger; landing = l.landing; trouble = t } ≡ land_many l.counter (record { log = l.fn.ledger; landing = l.fn.landing; trouble = t }))

use Rattle.mig_store.proofs.Common.{Flight, List, ap, arith, flying, land_many, length, moment_of, refl, ℕ, ◌∙◌, ◌≡◌}
use Rattle.mig_store.proofs.Landings.{landed_none, landed_more, landed_next}
use Rattle.mig_store.proofs.memory.land_all.Goals as goal

pub loop-init : goal.loop-init
loop-init c = (landed_none c.args.ledger.now, λ t. refl)

pub loop-preserved : goal.loop-preserved
loop-preserved c = (
  landed_more c.args.ledger.now c.loop.ledger c.land_next-flight.new.ledger c.loop.counter c.land_next-flight.result c.flying-end.ensures.moment.flights c.loop.invariant.0 c.land_next-flight.ensures.value c.land_next-flight.ensures.ends,
  λ t. landed_next c.loop.ledger c.land_next-flight.new.ledger c.loop.landing c.land_next-flight.new.landing t c.land_next-flight.result c.land_next-flight.ensures.value c.land_next-flight.ensures.landing (c.land_next-flight.ensures.next t)
      c.loop.counter (record { log = c.args.ledger.now; landing = c.args.landing.now; trouble = t }) (c.loop.invariant.1 t),
)

pub returns-clause-value : goal.returns-clause-value
returns-clause-value c = λ t.
    let all : c.loop.counter ≡ length (flying (moment_of c.args.ledger.now)) = omega (arith, c.loop-test.false, c.loop.auto.counter-end, ap (λ (l : List Flight). length l) c.flying-end.ensures.value) in
    c.loop.invariant.1 t ∙ ap (λ (n : ℕ). land_many n (record { log = c.args.ledger.now; landing = c.args.landing.now; trouble = t })) all

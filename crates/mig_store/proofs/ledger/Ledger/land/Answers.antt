use Rattle.mig_store.proofs.Common.{CellBytes, Contains, Event, Flight, Held, Lands, List, Log, StoreCall, [], ap, arith, change_at, ended, firsts, flights_remove, flying, get_or, held_at, land}
use Rattle.mig_store.proofs.Common.{length, length-append, moment_of, remove, seen_all, subst, sym, ◌++◌, ◌<◌, ◌∙◌, ◌∷◌, ◌≡◌}
use Rattle.mig_store.proofs.EntryLists.{same_cells, seen_more, within_all, within_more}
use Rattle.mig_store.proofs.Logs.{logged}
use Rattle.mig_store.proofs.Steps.{landed_moment, landed_flights}
use Rattle.mig_store.proofs.ledger.Ledger.land.Goals as goal

pub invariant_of-self : goal.invariant_of-self
invariant_of-self c =
    let log : Log = record { first = firsts c.self.inside.held.items; calls = c.self.inside.calls.calls; room = c.self.inside.room } in
    let is = c.self.invariant.0 in
    let f : Flight = c.remove-flight.result in
    let old = c.self.inside.calls.calls in
    let new = c.note.new.self.calls in
    let lt : c.args.index < length (flying (moment_of log)) = subst (λ (l : Log). c.args.index < length (flying (moment_of l))) (sym c.self.view_is) c.requires.index in
    let at : f ≡ get_or (flying (moment_of log)) c.args.index f = c.remove-flight.ensures.value ∙ ap (λ (l : List Flight). get_or l c.args.index f) is.flights in
    let has : Contains (flying (moment_of log)) f = (c.args.index, lt, sym at) in
    let room : length log.calls < log.room = subst (λ (l : Log). length l.calls < l.room) (sym c.self.view_is) c.requires.room in (
      logged log (seen_all old c.self.inside.period c.self.inside.held.items) (seen_all new c.self.inside.period c.land_at.new.held.items)
          c.self.inside.events.items c.append.new.list.items c.self.inside.flying.items c.remove-flight.new.self.items
          (Lands f.from f.to) is room
          (c.land_at.ensures.seen new ∙ ap (λ (l : List (Held CellBytes)). change_at land f.to (held_at l)) (seen_more old (Lands f.from f.to) new c.self.inside.period c.self.inside.period c.self.inside.held.items c.note.ensures.calls c.self.invariant.2)
          ∙ ap (change_at land f.to) is.cells)
          (c.append.ensures.items ∙ ap (λ (l : List Event). l ++ ended f ∷ []) is.events)
          (c.remove-flight.ensures.items ∙ ap (λ (l : List Flight). remove l c.args.index) is.flights
          ∙ sym (landed_flights (moment_of log) is.moment f has ∙ flights_remove (flying (moment_of log)) c.args.index f is.moment.flights.apart lt at))
          (landed_moment (moment_of log) is.moment f has)
          (omega (arith, is.few_events, ap (λ (l : List Event). length l) c.append.ensures.items, length-append {A = Event}))
          (omega (arith, is.few_flights, c.remove-flight.ensures.len)) (firsts c.land_at.new.held.items) c.note.new.self.calls c.land_at.ensures.first c.note.ensures.calls,
      c.self.invariant.1 ∙ sym (same_cells c.self.inside.held.items c.land_at.new.held.items c.land_at.ensures.first),
      within_all old new (Lands f.from f.to) c.self.inside.period c.land_at.new.held.items c.note.ensures.calls (within_more (length old) c.self.inside.period c.land_at.new.held.items (c.land_at.ensures.within (length old) c.self.invariant.2)),
      c.self.invariant.3,
      omega (arith, c.self.invariant.4, ap (λ (l : List StoreCall). length l) c.note.ensures.calls, length-append c.self.inside.calls.calls (Lands f.from f.to ∷ [])),
      omega (arith, c.note.ensures.room, c.self.invariant.5),
      omega (arith, c.append.ensures.capacity, c.self.invariant.6),
      omega (arith, c.remove-flight.ensures.capacity, c.self.invariant.7),
    )

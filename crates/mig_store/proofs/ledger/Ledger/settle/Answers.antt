use Rattle.mig_store.proofs.Common.{Cell, CellBytes, Held, List, Log, Option, StoreCall, Synced, [], ap, arith, firsts, flying, held_at, length, length-append, moment_of, option_map, refl, seen_all}
use Rattle.mig_store.proofs.Common.{settle, subst, sym, ◌+◌, ◌<◌, ◌∙◌, ◌∷◌, ◌≡◌}
use Rattle.mig_store.proofs.CellLists.{held_at-map}
use Rattle.mig_store.proofs.EntryLists.{seen_more, seen_next, within_all, within_more, within_next}
use Rattle.mig_store.proofs.Logs.{logged}
use Rattle.mig_store.proofs.Steps.{synced_moment}
use Rattle.mig_store.proofs.ledger.Ledger.settle.Goals as goal

pub invariant_of-self : goal.invariant_of-self
invariant_of-self c =
    let log : Log = record { first = firsts c.self.inside.held.items; calls = c.self.inside.calls.calls; room = c.self.inside.room } in
    let is = c.self.invariant.0 in
    let old = c.self.inside.calls.calls in
    let new = c.note.new.self.calls in
    let none : flying (moment_of log) ≡ [] = subst (λ (l : Log). flying (moment_of l) ≡ []) (sym c.self.view_is) c.requires.none in
    let room : length log.calls < log.room = subst (λ (l : Log). length l.calls < l.room) (sym c.self.view_is) c.requires.room in (
      logged log (seen_all old c.self.inside.period c.self.inside.held.items) (seen_all new (c.self.inside.period + 1) c.self.inside.held.items) c.self.inside.events.items c.self.inside.events.items c.self.inside.flying.items c.self.inside.flying.items
          Synced is room
          (ap (λ (l : List (Held CellBytes)). held_at l) (seen_more old Synced new c.self.inside.period (c.self.inside.period + 1) c.self.inside.held.items c.note.ensures.calls c.self.invariant.2 ∙ seen_next old (length old) c.self.inside.period c.self.inside.held.items c.self.invariant.2) ∙ (λ i cell. held_at-map settle (seen_all old c.self.inside.period c.self.inside.held.items) cell i) ∙ ap {B = Cell → Option CellBytes} (λ (cells : Cell → Option CellBytes) (cell : Cell). option_map settle (cells cell)) is.cells)
          is.events is.flights (synced_moment (moment_of log) is.moment none) (omega (arith, is.few_events)) (omega (arith, is.few_flights)) (firsts c.self.inside.held.items) c.note.new.self.calls refl c.note.ensures.calls,
      c.self.invariant.1,
      within_all old new Synced (c.self.inside.period + 1) c.self.inside.held.items c.note.ensures.calls (within_more (length old) (c.self.inside.period + 1) c.self.inside.held.items (within_next (length old) c.self.inside.period c.self.inside.held.items c.self.invariant.2)),
      omega arith,
      omega (arith, c.self.invariant.4, ap (λ (l : List StoreCall). length l) c.note.ensures.calls, length-append c.self.inside.calls.calls (Synced ∷ [])),
      omega (arith, c.note.ensures.room, c.self.invariant.5),
      c.self.invariant.6,
      c.self.invariant.7,
    )

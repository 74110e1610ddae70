use Rattle.mig_store.proofs.Common.{AreWithin, CellBytes, Held, IsMoment, IsSourceOf, IsTargetOf, List, Log, StoreCall, Wrote, [], after_call, ap, arith, ask, change_at, firsts, flying, held_at}
use Rattle.mig_store.proofs.Common.{length, length-append, moment_of, seen_all, subst, sym, ℕ, ◌+◌, ◌<◌, ◌∙◌, ◌∷◌, ◌≡◌}
use Rattle.mig_store.proofs.EntryLists.{asked_last, same_cells, seen_more, within_all}
use Rattle.mig_store.proofs.Logs.{logged}
use Rattle.mig_store.proofs.Steps.{wrote_moment}
use Rattle.mig_store.proofs.ledger.Ledger.write.Goals as goal

pub invariant_of-self : goal.invariant_of-self
invariant_of-self c =
    let log : Log = record { first = firsts c.self.inside.held.items; calls = c.self.inside.calls.calls; room = c.self.inside.room } in
    let is = c.self.invariant.0 in
    let old = c.self.inside.calls.calls in
    let new = c.note.new.self.calls in
    let place : c.len-place.result ≡ length old = c.len-place.ensures in
    let call : StoreCall = Wrote c.args.cell.now c.args.bytes.now c.args.done in
    let moment : IsMoment (after_call (moment_of log) (Wrote c.args.cell.now c.args.bytes.now c.args.done)) =
    (wrote_moment (moment_of log) is.moment c.args.cell.now c.args.bytes.now c.args.done c.requires.length
    (subst (λ (l : Log). ¬ IsTargetOf (flying (moment_of l)) c.args.cell.now) (sym c.self.view_is) c.requires.not_target)
    (subst (λ (l : Log). ¬ IsSourceOf (flying (moment_of l)) c.args.cell.now) (sym c.self.view_is) c.requires.not_source)) in
    let room : length log.calls < log.room = subst (λ (l : Log). length l.calls < l.room) (sym c.self.view_is) c.requires.room in (
      logged log (seen_all old c.self.inside.period c.self.inside.held.items) (seen_all new c.self.inside.period c.ask_at.new.held.items) c.self.inside.events.items c.self.inside.events.items c.self.inside.flying.items c.self.inside.flying.items
          (Wrote c.args.cell.now c.args.bytes.now c.args.done) is room
          (c.ask_at.ensures.seen new ∙ ap (λ (b : List ℕ). change_at (ask b c.args.done) c.args.cell.now (held_at (seen_all new c.self.inside.period c.self.inside.held.items))) (asked_last old new call c.len-place.result c.note.ensures.calls place)
          ∙ ap (λ (l : List (Held CellBytes)). change_at (ask c.args.bytes.now c.args.done) c.args.cell.now (held_at l)) (seen_more old call new c.self.inside.period c.self.inside.period c.self.inside.held.items c.note.ensures.calls c.self.invariant.2)
          ∙ ap (change_at (ask c.args.bytes.now c.args.done) c.args.cell.now) is.cells)
          is.events is.flights moment (omega (arith, is.few_events)) (omega (arith, is.few_flights)) (firsts c.ask_at.new.held.items) c.note.new.self.calls c.ask_at.ensures.first c.note.ensures.calls,
      c.self.invariant.1 ∙ sym (same_cells c.self.inside.held.items c.ask_at.new.held.items c.ask_at.ensures.first),
      within_all old new call c.self.inside.period c.ask_at.new.held.items c.note.ensures.calls (subst (λ (n : ℕ). AreWithin (n + 1) c.self.inside.period c.ask_at.new.held.items) place (c.ask_at.ensures.within (subst (λ (n : ℕ). AreWithin n c.self.inside.period c.self.inside.held.items) (sym place) c.self.invariant.2))),
      c.self.invariant.3,
      omega (arith, c.self.invariant.4, ap (λ (l : List StoreCall). length l) c.note.ensures.calls, length-append c.self.inside.calls.calls (Wrote c.args.cell.now c.args.bytes.now c.args.done ∷ [])),
      omega (arith, c.note.ensures.room, c.self.invariant.5),
      c.self.invariant.6,
      c.self.invariant.7,
    )

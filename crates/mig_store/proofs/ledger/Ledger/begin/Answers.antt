use Rattle.mig_store.proofs.Common.{AreWithin, Bool, CellBytes, Copies, Event, Flight, Held, IsMoment, IsSome, IsSourceOf, IsTargetOf, List, Log}
use Rattle.mig_store.proofs.Common.{Some, StoreCall, [], after_call, after_events, ap, arith, ask, began, cell_len, change_at, cond, false, firsts}
use Rattle.mig_store.proofs.Common.{flights_began, flying, held_at, length, length-append, moment_of, reads, refl, seen_all, subst, sym, true, ℕ}
use Rattle.mig_store.proofs.Common.{◌++◌, ◌+◌, ◌<◌, ◌∙◌, ◌∷◌, ◌≡◌, ◌≤◌}
use Rattle.mig_store.proofs.EntryLists.{asked_last, same_cells, seen_more, within_all}
use Rattle.mig_store.proofs.Logs.{logged, shown-is, shown-some}
use Rattle.mig_store.proofs.Sources.{source, source_read, source_held, source_long, source_pushed}
use Rattle.mig_store.proofs.Steps.{asked_moment}
use Rattle.mig_store.proofs.ledger.Ledger.begin.Goals as goal

-- what is in flight, if a copy began or none
flies : (events : List Event) (f : Flight) (d : Bool)
    → cond d (after_events [] events ++ f ∷ []) (after_events [] events) ≡ after_events [] (cond d (events ++ began f ∷ []) events)
flies events f true = sym (flights_began [] events f)
flies events f false = refl

one_at_most : {A : Type 0} (l : List A) (x : A) (d : Bool) → length (cond d (l ++ x ∷ []) l) ≤ length l + 1
one_at_most l x true = omega (arith, length-append l (x ∷ []))
one_at_most l x false = omega arith

pub invariant_of-self : goal.invariant_of-self
invariant_of-self c =
    let log : Log = record { first = firsts c.self.inside.held.items; calls = c.self.inside.calls.calls; room = c.self.inside.room } in
    let is = c.self.invariant.0 in
    let f : Flight = c.args.flight in
    let old = c.self.inside.calls.calls in
    let new = c.note_copy.new.calls.calls in
    let place : c.len-place.result ≡ length old = c.len-place.ensures in
    let told : IsSome (reads (moment_of log) f.from) = subst (λ (l : Log). IsSome (reads (moment_of l) f.from)) (sym c.self.view_is) c.requires.source in
    let bytes = source log c.self.inside.period c.self.inside.held.items is.cells f.from told in
    let read : reads (moment_of log) f.from ≡ Some bytes = source_read log c.self.inside.period c.self.inside.held.items is.cells f.from told in
    let noted : new ≡ old ++ Copies f.from f.to bytes c.args.done ∷ [] =
    source_held log c.self.inside.period c.self.inside.held.items is.cells f.from told (λ b. new ≡ old ++ Copies f.from f.to b c.args.done ∷ []) c.deref.result.now c.deref.ensures.value c.note_copy.ensures.calls in
    let fits : length bytes ≡ cell_len f.to = source_long log c.self.inside.period c.self.inside.held.items is.cells f.from told is.moment ∙ c.requires.length in
    let call : StoreCall = Copies f.from f.to bytes c.args.done in
    let m = moment_of log in
    let moment : IsMoment (after_call (moment_of log) (Copies f.from f.to bytes c.args.done)) =
    (asked_moment (moment_of log) is.moment f bytes c.args.done fits c.requires.flight
    (subst (λ (l : Log). ¬ IsTargetOf (flying (moment_of l)) f.from) (sym c.self.view_is) c.requires.from_still)
    (subst (λ (l : Log). ¬ IsTargetOf (flying (moment_of l)) f.to) (sym c.self.view_is) c.requires.not_target)
    (subst (λ (l : Log). ¬ IsSourceOf (flying (moment_of l)) f.to) (sym c.self.view_is) c.requires.not_source)
    (shown-is (m.cells f.from) bytes read)
    (shown-some (m.cells f.to) (subst (λ (l : Log). IsSome (reads (moment_of l) f.to)) (sym c.self.view_is) c.requires.target))) in
    let room : length log.calls < log.room = subst (λ (l : Log). length l.calls < l.room) (sym c.self.view_is) c.requires.room in
    let flew = c.take_off.ensures in (
      logged log (seen_all old c.self.inside.period c.self.inside.held.items) (seen_all new c.self.inside.period c.ask_at.new.held.items)
          c.self.inside.events.items c.take_off.new.events.items c.self.inside.flying.items c.take_off.new.flying.items
          (Copies f.from f.to bytes c.args.done) is room
          (c.ask_at.ensures.seen new ∙ ap (λ (b : List ℕ). change_at (ask b false) f.to (held_at (seen_all new c.self.inside.period c.self.inside.held.items))) (asked_last old new call c.len-place.result noted place)
          ∙ ap (λ (l : List (Held CellBytes)). change_at (ask bytes false) f.to (held_at l)) (seen_more old call new c.self.inside.period c.self.inside.period c.self.inside.held.items noted c.self.invariant.2)
          ∙ ap (change_at (ask bytes false) f.to) is.cells)
          (flew.events ∙ ap (λ (l : List Event). cond c.args.done (l ++ began f ∷ []) l) is.events)
          (flew.flying ∙ ap (λ (l : List Flight). cond c.args.done (l ++ f ∷ []) l) is.flights ∙ flies m.events f c.args.done)
          moment
          (omega (arith, is.few_events, ap (λ (l : List Event). length l) flew.events, one_at_most c.self.inside.events.items (began f) c.args.done))
          (omega (arith, is.few_flights, ap (λ (l : List Flight). length l) flew.flying, one_at_most c.self.inside.flying.items f c.args.done))
          (firsts c.ask_at.new.held.items) c.note_copy.new.calls.calls c.ask_at.ensures.first noted,
      c.self.invariant.1 ∙ sym (same_cells c.self.inside.held.items c.ask_at.new.held.items c.ask_at.ensures.first),
      within_all old new call c.self.inside.period c.ask_at.new.held.items noted (subst (λ (n : ℕ). AreWithin (n + 1) c.self.inside.period c.ask_at.new.held.items) place (c.ask_at.ensures.within (subst (λ (n : ℕ). AreWithin n c.self.inside.period c.self.inside.held.items) (sym place) c.self.invariant.2))),
      c.self.invariant.3,
      omega (arith, c.self.invariant.4, ap (λ (l : List StoreCall). length l) noted, length-append c.self.inside.calls.calls (Copies f.from f.to bytes c.args.done ∷ [])),
      omega (arith, c.note_copy.ensures.room, c.self.invariant.5),
      omega (arith, flew.more_events, c.self.invariant.6),
      omega (arith, flew.more_flying, c.self.invariant.7),
    )

pub returns : goal.returns
returns c =
    let log : Log = record { first = firsts c.self.inside.held.items; calls = c.self.inside.calls.calls; room = c.self.inside.room } in
    let is = c.self.invariant.0 in
    let f : Flight = c.args.flight in
    let told : IsSome (reads (moment_of log) f.from) = subst (λ (l : Log). IsSome (reads (moment_of l) f.from)) (sym c.self.view_is) c.requires.source in
    let bytes = source log c.self.inside.period c.self.inside.held.items is.cells f.from told in
    let noted : c.note_copy.new.calls.calls ≡ log.calls ++ Copies f.from f.to bytes c.args.done ∷ [] =
    source_held log c.self.inside.period c.self.inside.held.items is.cells f.from told (λ b. c.note_copy.new.calls.calls ≡ log.calls ++ Copies f.from f.to b c.args.done ∷ []) c.deref.result.now c.deref.ensures.value c.note_copy.ensures.calls in
    source_pushed log c.self.inside.period c.self.inside.held.items is.cells f.from told c.args.self.now (record { first = firsts c.ask_at.new.held.items; calls = c.note_copy.new.calls.calls; room = c.self.inside.room }) c.self.view_is
    (λ b. Copies f.from f.to b c.args.done) c.ask_at.ensures.first noted refl

use Rattle.mig_store.proofs.Common.{AreWithin, Cell, CellBytes, Entry, Event, Flight, Held, Image, IsLog, List, Log, Option, [], ap, arith, cell_of, crash_entry, firsts, fresh, held_at, held_map}
use Rattle.mig_store.proofs.Common.{length, map, moment_of, option_map, picked, seen_all, subst, sym, ℕ, ◌∙◌, ◌≡◌}
use Rattle.mig_store.proofs.CellLists.{cells_of-map}
use Rattle.mig_store.proofs.Crashes.{HaveLengths, fresh_log, after_crash, crash_lengths, held_after, first_after, first_is, held_is}
use Rattle.mig_store.proofs.EntryLists.{seen_crashed, firsts_crashed, within_crashed}
use Rattle.mig_store.proofs.ledger.Ledger.crashed.Goals as goal

pub invariant_of-result : goal.invariant_of-result
invariant_of-result c =
    let pick = c.args.pick in
    let period = c.self.inside.period in
    let calls = c.self.inside.calls.calls in
    let crashed : c.crash_all.new.held.items ≡ map (held_map (crash_entry calls period pick)) c.self.inside.held.items = c.crash_all.ensures in
    let old = seen_all calls period c.self.inside.held.items in
    let items = c.crash_all.new.held.items in
    let later = c.clear.new.self.calls in
    let held = seen_all later 1 items in
    let first = firsts items in
    let log : Log = record { first = firsts c.self.inside.held.items; calls = c.self.inside.calls.calls; room = c.self.inside.room } in
    let is = c.self.invariant.0 in
    let is_held : held ≡ held_after pick old = ap (seen_all later 1) crashed ∙ seen_crashed calls period pick later c.self.inside.held.items in
    let is_first : first ≡ first_after pick old = ap firsts crashed ∙ firsts_crashed calls period pick c.self.inside.held.items in
    let cells : held_at held ≡ (λ cell. option_map fresh (held_at first cell)) =
    ap (λ (l : List (Held CellBytes)). held_at l) is_held ∙ held_is pick old ∙ ap {B = Cell → Option CellBytes} (λ (l : List (Held (List ℕ))) (cell : Cell). option_map fresh (held_at l cell)) (sym is_first) in
    let image : held_at first ≡ after_crash (moment_of log) is.moment pick =
    ap (λ (l : List (Held (List ℕ))). held_at l) is_first ∙ first_is pick old ∙ ap {B = Image} (λ (cells : Cell → Option CellBytes) (cell : Cell). option_map (picked pick) (cells cell)) is.cells in
    let lengths : HaveLengths (held_at first) = subst HaveLengths (sym image) (crash_lengths (moment_of log) is.moment pick) in (
      subst (λ (l : List Event). IsLog (record { first = first; calls = c.clear.new.self.calls; room = c.self.inside.room }) held l c.clear-3.new.self.items) (sym c.clear-2.ensures.items)
          (subst (λ (l : List Flight). IsLog (record { first = first; calls = c.clear.new.self.calls; room = c.self.inside.room }) held [] l) (sym c.clear-3.ensures.items)
          (fresh_log first held cells lengths c.self.inside.room c.clear.new.self.calls c.clear.ensures.calls)),
      c.self.invariant.1 ∙ sym (ap (λ (l : List (Held Entry)). map cell_of l) crashed ∙ cells_of-map (crash_entry calls period pick) c.self.inside.held.items),
      subst (AreWithin (length later) 1) (sym crashed) (within_crashed calls period pick (length later) c.self.inside.held.items),
      omega arith,
      omega arith,
      omega (arith, c.clear.ensures.room, c.self.invariant.5),
      omega (arith, c.clear-2.ensures.capacity, c.self.invariant.6),
      omega (arith, c.clear-3.ensures.capacity, c.self.invariant.7),
    )

pub returns-clause-first : goal.returns-clause-first
returns-clause-first c =
    let pick = c.args.pick in
    let period = c.self.inside.period in
    let calls = c.self.inside.calls.calls in
    let crashed : c.crash_all.new.held.items ≡ map (held_map (crash_entry calls period pick)) c.self.inside.held.items = c.crash_all.ensures in
    let old = seen_all calls period c.self.inside.held.items in
    let is_first : firsts c.crash_all.new.held.items ≡ first_after pick old = ap firsts crashed ∙ firsts_crashed calls period pick c.self.inside.held.items in
    ap (λ (l : List (Held (List ℕ))). held_at l) is_first ∙ first_is pick old ∙ ap {B = Image} (λ (cells : Cell → Option CellBytes) (cell : Cell). option_map (picked pick) (cells cell)) c.self.invariant.0.cells
    ∙ ap {B = Image} (λ (l : Log) (cell : Cell). option_map (picked pick) ((moment_of l).cells cell)) c.self.view_is

use Rattle.mig_store.proofs.Common.{Cell, CellBytes, Entry, Held, List, Log, None, Option, Some, ap, cell_len, firsts, held_at, moment_of, option_map, reads, subst, sym, ℕ, ◌∙◌, ◌≡◌}
use Rattle.mig_store.proofs.EntryLists.{reads_entry, reads_nothing}
use Rattle.mig_store.proofs.Logs.{shown-length}
use Rattle.mig_store.proofs.ledger.Ledger.shown.Goals as goal

abbrev shown : (cells : Cell → Option CellBytes) (cell : Cell) → Option (List ℕ)
shown cells cell = option_map (λ (c : CellBytes). c.shown) (cells cell)

gives : (c : goal.After-shown) → shown (moment_of (record { first = firsts c.self.inside.held.items; calls = c.self.inside.calls.calls; room = c.self.inside.room })).cells c.args.cell.now ≡ Some c.shown.result.now
gives c =
    ap (λ (cells : Cell → Option CellBytes). shown cells c.args.cell.now) (sym c.self.invariant.0.cells)
    ∙ reads_entry c.self.inside.calls.calls c.self.inside.period c.self.inside.held.items c.args.cell.now c.in-Some.entry.now
    (ap (λ (l : List (Held Entry)). held_at l c.args.cell.now) (sym c.deref.ensures.value) ∙ c.in-Some.ensures.some)
    ∙ ap Some (sym c.shown.ensures)

pub returns-in-Some-clause-some : goal.returns-in-Some-clause-some
returns-in-Some-clause-some c = subst (λ (l : Log). reads (moment_of l) c.args.cell.now ≡ Some c.shown.result.now) c.self.view_is (gives c)

pub returns-in-Some-clause-length : goal.returns-in-Some-clause-length
returns-in-Some-clause-length c = shown-length (cell_len c.args.cell.now) _ c.shown.result.now (gives c) (c.self.invariant.0.moment.lengths c.args.cell.now)

pub returns-in-None-clause-none : goal.returns-in-None-clause-none
returns-in-None-clause-none c = subst (λ (l : Log). reads (moment_of l) c.args.cell.now ≡ None) c.self.view_is
    (ap (λ (cells : Cell → Option CellBytes). shown cells c.args.cell.now) (sym c.self.invariant.0.cells)
    ∙ reads_nothing c.self.inside.calls.calls c.self.inside.period c.self.inside.held.items c.args.cell.now
    (ap (λ (l : List (Held Entry)). held_at l c.args.cell.now) (sym c.deref.ensures.value) ∙ c.in-None.ensures.none))

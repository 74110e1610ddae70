use Rattle.mig_store.proofs.Common.{AreDifferent, Entry, Held, IsWithinPeriod, List, ap, ask, asked_by, first_of, held_map, map-set_same, seen, slice_get, subst, sym, ℕ, ◌+◌, ◌∙◌}
use Rattle.mig_store.proofs.EntryLists.{seen_at-set, seen_at-none, set_all, within_one, within_more}
use Rattle.mig_store.proofs.contents.ask_at.Goals as goal

pub returns-in-Some : goal.returns-in-Some
returns-in-Some c =
    let held = c.args.held.now.items in
    let i = c.in-Some.i in
    let place = c.args.place in
    let period = c.args.period in
    let d = c.index_mut.result.now in
    let is = c.index_mut.ensures.value in
    let new : Held Entry = record { cell = d.cell; value = c.ask.new.self } in record {
      seen = λ calls.
          let asks = ask (asked_by (slice_get calls place)) c.args.done in
          seen_at-set calls period held c.args.cell.now i (rw (← c.requires.cells) c.in-Some.ensures.found)
          (subst AreDifferent c.requires.cells c.find.ensures.different) asks new d (ap (λ (h : Held Entry). h.cell) is)
          (c.ask.ensures.seen calls ∙ ap (λ (h : Held Entry). asks (seen calls period h.value)) is);
      first = map-set_same (held_map first_of) held i new d
          (ap {B = Held (List ℕ)} (λ (bytes : List ℕ). record { cell = d.cell; value = bytes }) c.ask.ensures.first ∙ ap (held_map first_of) is);
      within = λ within. set_all (IsWithinPeriod place period) (IsWithinPeriod (place + 1) period) (within_one place period) held i new d within
          (λ here. c.ask.ensures.within (subst (λ (h : Held Entry). IsWithinPeriod place period h.value) (sym is) here));
    }

pub returns-in-None-clause-seen : goal.returns-in-None-clause-seen
returns-in-None-clause-seen c = λ calls. seen_at-none calls c.args.period c.args.held.now.items c.args.cell.now (ask (asked_by (slice_get calls c.args.place)) c.args.done) (rw (← c.requires.cells) c.in-None.ensures.found)

pub returns-in-None-clause-within : goal.returns-in-None-clause-within
returns-in-None-clause-within c = within_more c.args.place c.args.period c.args.held.now.items

use Rattle.mig_store.proofs.Common.{AreDifferent, Entry, Held, IsWithinPeriod, List, ap, first_of, held_map, land, map-set_same, seen, subst, sym, ℕ, ◌∙◌}
use Rattle.mig_store.proofs.EntryLists.{seen_at-set, seen_at-none, set_all}
use Rattle.mig_store.proofs.contents.land_at.Goals as goal

pub returns-in-Some : goal.returns-in-Some
returns-in-Some c =
    let held = c.args.held.now.items in
    let i = c.in-Some.i in
    let period = c.args.period in
    let d = c.index_mut.result.now in
    let is = c.index_mut.ensures.value in
    let new : Held Entry = record { cell = d.cell; value = c.land.new.self } in record {
      seen = λ calls. seen_at-set calls period held c.args.cell.now i (rw (← c.requires.cells) c.in-Some.ensures.found)
          (subst AreDifferent c.requires.cells c.find.ensures.different) land new d (ap (λ (h : Held Entry). h.cell) is)
          (c.land.ensures.seen calls ∙ ap (λ (h : Held Entry). land (seen calls period h.value)) is);
      first = map-set_same (held_map first_of) held i new d
          (ap {B = Held (List ℕ)} (λ (bytes : List ℕ). record { cell = d.cell; value = bytes }) c.land.ensures.first ∙ ap (held_map first_of) is);
      within = λ count within. set_all (IsWithinPeriod count period) (IsWithinPeriod count period) (λ e here. here) held i new d within
          (λ here. c.land.ensures.within count (subst (λ (h : Held Entry). IsWithinPeriod count period h.value) (sym is) here));
    }

pub returns-in-None-clause-seen : goal.returns-in-None-clause-seen
returns-in-None-clause-seen c = λ calls. seen_at-none calls c.args.period c.args.held.now.items c.args.cell.now land (rw (← c.requires.cells) c.in-None.ensures.found)

use Rattle.mig_store.proofs.Common.{AreDifferent, ap, cell_of, held_at, map-set_same, refl, subst, sym}
use Rattle.mig_store.proofs.CellLists.{held_at-change, held_at-absent, change_at-none}
use Rattle.mig_store.proofs.held.put.Goals as goal

pub returns-in-Some-clause-cells : goal.returns-in-Some-clause-cells
returns-in-Some-clause-cells g c =
    let d = c.index_mut.result.now in
    map-set_same cell_of c.args.held.now.items c.in-Some.i (record { cell = d.cell; value = c.args.value }) d (ap (λ (h : _). h.cell) c.index_mut.ensures.value)

pub returns-in-Some-clause-held : goal.returns-in-Some-clause-held
returns-in-Some-clause-held g c =
    let d = c.index_mut.result.now in
    held_at-change c.args.held.now.items c.args.cell.now c.in-Some.i (rw (← c.requires) c.in-Some.ensures.found) (subst AreDifferent c.requires c.find.ensures.different)
    (λ old. c.args.value) (record { cell = d.cell; value = c.args.value }) d (ap (λ (h : _). h.cell) c.index_mut.ensures.value) refl

pub returns-in-None-clause-held : goal.returns-in-None-clause-held
returns-in-None-clause-held g c = λ p other. sym (change_at-none (λ old. c.args.value) c.args.cell.now (held_at c.args.held.now.items) (held_at-absent c.args.held.now.items c.args.cell.now (rw (← c.requires) c.in-None.ensures.found)) other) p

use Rattle.mig_check.proofs.Common.{IsLayout, IsTakenSet, Layout, List, Spot, after_shifts, ap, has_spot, layout_kept, layout_of, subst, sym, ◌∙◌, ◌≡◌}
use Rattle.mig_check.proofs.LayoutLists.{items_there, layout_after_round}
use Rattle.mig_check.proofs.TakenSpots.{taken_after}
use Rattle.mig_check.proofs.rounds.step.Goals as goal

next : (c : goal.After-free_sources) → layout_of c.move_items.new.spots ≡ after_shifts (layout_of c.args.spots.now) c.args.round.now
next c = ap (λ (s : List Spot). layout_of s) c.move_items.ensures
    ∙ layout_after_round c.args.spots.now c.args.round.now (items_there c.args.input.now c.args.spots.now c.args.round.now c.requires.spots c.requires.fits)

pub returns-clause-layout_after : goal.returns-clause-layout_after
returns-clause-layout_after c =
    let input = c.args.input.now in
    subst (λ (l : Layout). IsLayout input l) (sym (next c)) (layout_kept input (layout_of c.args.spots.now) c.args.round.now c.in_ok-check_round.ensures.ok c.requires.layout)

pub returns-clause-taken_after : goal.returns-clause-taken_after
returns-clause-taken_after c =
    let freed = has_spot c.free_sources.new.taken in
    subst (λ (l : Layout). IsTakenSet freed l) (sym (next c)) (taken_after c.args.input.now (layout_of c.args.spots.now) c.args.round.now c.in_ok-check_round.ensures.ok c.requires.layout
    (has_spot c.args.tables.now.taken) (has_spot c.check_round.new.tables.taken) freed c.requires.taken c.in_ok-check_round.ensures.room c.free_sources.ensures)

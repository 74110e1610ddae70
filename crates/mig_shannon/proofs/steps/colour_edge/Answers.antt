use Rattle.mig_shannon.proofs.Common.{Colouring, CopyId, IsProper, PaintsOne, PaintsOne-after, PaintsOne-exchanged, PaintsOne-painted, Recolours-exchanged, ap, arith, eqb-false, eqb-true}
use Rattle.mig_shannon.proofs.Common.{exchanges_plain, inl, inr, not_both, not_full, present_at_first, present_at_second, rules, same_copy, slice_get_within, subst, sym}
use Rattle.mig_shannon.proofs.Step.{IsFan, fan_common, free_by_walk, beside_by_walk}
use Rattle.mig_shannon.proofs.steps.colour_edge.Goals as goal

pub returns-in-Some : goal.returns-in-Some
returns-in-Some c =
    subst (λ (g : Colouring). PaintsOne c.args.board.now g c.args.edge) (sym c.paint.ensures.painted)
    (PaintsOne-painted c.args.board.now c.args.edge c.in-Some.colour (slice_get_within _ _ _ c.requires.plain))

pub unreachable-requires : goal.unreachable-requires
unreachable-requires c =
    not_full c.args.board.now c.ends.result.0 c.ends.result.1 c.args.edge (inl c.ends.ensures.value) c.requires.plain
    (omega (arith, c.requires.few c.ends.result.0 c.ends.ensures.first, c.requires.enough)) c.in_default-missing.ensures

pub unreachable-requires-in_default-missing-2 : goal.unreachable-requires-in_default-missing-2
unreachable-requires-in_default-missing-2 c =
    not_full c.args.board.now c.ends.result.1 c.ends.result.0 c.args.edge (inr c.ends.ensures.value) c.requires.plain
    (omega (arith, c.requires.few c.ends.result.1 c.ends.ensures.second, c.requires.enough)) c.in_default-missing-2.ensures

pub unreachable-requires-in_default-edge_at : goal.unreachable-requires-in_default-edge_at
unreachable-requires-in_default-edge_at c =
    not_both c.args.board.now c.ends.result.1 c.in-Some-missing.lacks c.in_default-edge_at.ensures (present_at_second c.args.board.now c.ends.result.0 c.ends.result.1 c.in-Some-missing.lacks c.in_default.ensures c.in-Some-missing.ensures.missing)

pub unreachable-requires-in_default-common-2 : goal.unreachable-requires-in_default-common-2
unreachable-requires-in_default-common-2 c =
    let g : Colouring = c.args.board.now in
    let p : IsProper g = c.ends.ensures.proper in
    let fan : IsFan g c.args.edge c.ends.result.0 c.ends.result.1 c.in-Some-missing.lacks c.in-Some-missing-2.has c.in-Some-edge_at.beside c.across-third.result =
    record { proper = p; joins = inl c.ends.ensures.value; plain = c.requires.plain; lacks = c.in-Some-missing.ensures.missing; has = c.in-Some-missing-2.ensures.missing; none = c.in_default.ensures; beside = record { joins = c.across-third.ensures.joins; colour = c.in-Some-edge_at.ensures.1.colour } } in
    fan_common g c.args.edge c.ends.result.0 c.ends.result.1 _ _ _ _ fan c.args.degree
    (c.requires.few c.ends.result.0 c.ends.ensures.first)
    (c.requires.few c.ends.result.1 c.ends.ensures.second)
    (c.requires.few c.across-third.result c.across-third.ensures.node)
    c.requires.half c.in_default-common.ensures c.in_default-common-2.ensures

pub far-requires-clause-has : goal.far-requires-clause-has
far-requires-clause-has c = present_at_first c.args.board.now c.ends.result.0 c.ends.result.1 c.in-Some-missing-2.has c.in_default.ensures c.in-Some-missing-2.ensures.missing

-- the second end's colour is present at the first and at the third node
pub exchange-requires-clause-has : goal.exchange-requires-clause-has
exchange-requires-clause-has c =
    let at_first = present_at_first c.args.board.now c.ends.result.0 c.ends.result.1 c.in-Some-missing-2.has c.in_default.ensures c.in-Some-missing-2.ensures.missing in
    let at_third = present_at_second c.args.board.now c.ends.result.1 c.across-third.result c.in-Some-missing-2.has c.in_default-common.ensures c.in-Some-missing-2.ensures.missing in
    search (rules, at_first, at_third)

pub repaint_beside-requires-then-eq : goal.repaint_beside-requires-then-eq
repaint_beside-requires-then-eq c =
    let g : Colouring = c.args.board.now in
    let fan : IsFan g c.args.edge c.ends.result.0 c.ends.result.1 c.in-Some-missing.lacks c.in-Some-missing-2.has c.in-Some-edge_at.beside c.across-third.result =
    record { proper = c.ends.ensures.proper; joins = inl c.ends.ensures.value; plain = c.requires.plain; lacks = c.in-Some-missing.ensures.missing; has = c.in-Some-missing-2.ensures.missing; none = c.in_default.ensures; beside = record { joins = c.across-third.ensures.joins; colour = c.in-Some-edge_at.ensures.1.colour } } in
    beside_by_walk g c.exchange.new.self c.args.edge c.ends.result.0 c.ends.result.1 _ _ _ _ fan c.in-Some-common-2.colour c.far.result c.exchange.result
    c.in-Some-common-2.ensures.first c.in-Some-common-2.ensures.second c.far.ensures (same_copy _ _ (eqb-true _ _ (sym c.if-eq.ensures))) c.exchange.ensures.exchanged c.exchange.ensures.proper

pub exchange-requires-else-eq-clause-has : goal.exchange-requires-else-eq-clause-has
exchange-requires-else-eq-clause-has c =
    let at_first = present_at_first c.args.board.now c.ends.result.0 c.ends.result.1 c.in-Some-missing-2.has c.in_default.ensures c.in-Some-missing-2.ensures.missing in
    let at_third = present_at_second c.args.board.now c.ends.result.1 c.across-third.result c.in-Some-missing-2.has c.in_default-common.ensures c.in-Some-missing-2.ensures.missing in
    search (rules, at_first, at_third)

pub paint-requires-else-eq-clause-plain : goal.paint-requires-else-eq-clause-plain
paint-requires-else-eq-clause-plain c = exchanges_plain c.args.board.now c.exchange-else-eq.new.self _ _ _ _ c.exchange-else-eq.ensures.exchanged c.args.edge c.requires.plain

pub paint-requires-else-eq-clause-free : goal.paint-requires-else-eq-clause-free
paint-requires-else-eq-clause-free c =
    let g : Colouring = c.args.board.now in
    let fan : IsFan g c.args.edge c.ends.result.0 c.ends.result.1 c.in-Some-missing.lacks c.in-Some-missing-2.has c.in-Some-edge_at.beside c.across-third.result =
    record { proper = c.ends.ensures.proper; joins = inl c.ends.ensures.value; plain = c.requires.plain; lacks = c.in-Some-missing.ensures.missing; has = c.in-Some-missing-2.ensures.missing; none = c.in_default.ensures; beside = record { joins = c.across-third.ensures.joins; colour = c.in-Some-edge_at.ensures.1.colour } } in
    free_by_walk g c.exchange-else-eq.new.self c.args.edge c.ends.result.0 c.ends.result.1 _ _ _ _ fan c.in-Some-common-2.colour c.far.result c.exchange-else-eq.result
    c.in-Some-common-2.ensures.first c.far.ensures (λ h. eqb-false _ _ (sym c.if-eq.ensures) (ap (λ (q : CopyId). q.0) h)) c.exchange-else-eq.ensures.exchanged

pub returns-then-eq : goal.returns-then-eq
returns-then-eq c = PaintsOne-after _ _ _ _ (Recolours-exchanged _ _ _ _ _ _ c.exchange.ensures.exchanged) c.repaint_beside-then-eq.ensures

pub returns-else-eq : goal.returns-else-eq
returns-else-eq c =
    subst (λ (g : Colouring). PaintsOne c.args.board.now g c.args.edge) (sym c.paint-else-eq.ensures.painted)
    (PaintsOne-exchanged c.args.board.now c.exchange-else-eq.new.self _ _ _ _ c.exchange-else-eq.ensures.exchanged c.args.edge c.in-Some-missing-2.has
    (slice_get_within _ _ _ (exchanges_plain c.args.board.now c.exchange-else-eq.new.self _ _ _ _ c.exchange-else-eq.ensures.exchanged c.args.edge c.requires.plain)))

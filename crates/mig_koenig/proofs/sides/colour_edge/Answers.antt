use Rattle.mig_koenig.proofs.Common.{Colouring, PaintsOne, PaintsOne-exchanged, PaintsOne-painted, both_free, exchanges_plain, inl, inr, not_full, slice_get_within, subst, sym}
use Rattle.mig_koenig.proofs.Step.{free_after}
use Rattle.mig_koenig.proofs.sides.colour_edge.Goals as goal

pub unreachable-requires : goal.unreachable-requires
unreachable-requires c =
    not_full c.args.board.now c.ends.result.0 c.ends.result.1 c.args.edge (inl c.ends.ensures.value) c.requires.plain
    (c.requires.few c.ends.result.0 c.ends.ensures.first) c.in_default.ensures

pub unreachable-requires-in_default-missing_near : goal.unreachable-requires-in_default-missing_near
unreachable-requires-in_default-missing_near c =
    not_full c.args.board.now c.ends.result.1 c.ends.result.0 c.args.edge (inr c.ends.ensures.value) c.requires.plain
    (c.requires.few c.ends.result.1 c.ends.ensures.second) c.in_default-missing_near.ensures

pub paint-requires-clause-free : goal.paint-requires-clause-free
paint-requires-clause-free c = both_free _ _ c.ends.result.0 c.ends.result.1 _ (inl c.ends.ensures.value) c.if-is_missing.ensures c.in-Some-missing_near.ensures

pub returns-then-is_missing : goal.returns-then-is_missing
returns-then-is_missing c =
    subst (λ (g : Colouring). PaintsOne c.args.board.now g c.args.edge) (sym c.paint.ensures.painted)
    (PaintsOne-painted c.args.board.now c.args.edge c.in-Some-missing_near.has (slice_get_within _ _ _ c.requires.plain))

pub paint-requires-2-clause-plain : goal.paint-requires-2-clause-plain
paint-requires-2-clause-plain c = exchanges_plain c.args.board.now c.exchange.new.self _ _ _ _ c.exchange.ensures.exchanged c.args.edge c.requires.plain

pub paint-requires-2-clause-free : goal.paint-requires-2-clause-free
paint-requires-2-clause-free c =
    free_after c.args.board.now c.exchange.new.self c.args.left c.ends.ensures.proper c.requires.sides c.ends.result.0 c.ends.result.1 _ c.in-Some-missing_near.has _ c.args.edge (inl c.ends.ensures.value)
    c.in-Some.ensures c.if-is_missing.ensures c.in-Some-missing_near.ensures c.exchange.ensures.exchanged

pub returns : goal.returns
returns c =
    subst (λ (g : Colouring). PaintsOne c.args.board.now g c.args.edge) (sym c.paint-2.ensures.painted)
    (PaintsOne-exchanged c.args.board.now c.exchange.new.self _ _ _ _ c.exchange.ensures.exchanged c.args.edge c.in-Some-missing_near.has
    (slice_get_within _ _ _ (exchanges_plain c.args.board.now c.exchange.new.self _ _ _ _ c.exchange.ensures.exchanged c.args.edge c.requires.plain)))

use Rattle.mig_shannon.proofs.Common.{Colouring, CopyId, PaintsOne, PaintsOne-exchanged, PaintsOne-painted, Recolours-exchanged, ap, both_free, eqb-false, exchanges_plain, slice_get_within}
use Rattle.mig_shannon.proofs.Common.{subst, sym}
use Rattle.mig_shannon.proofs.Open.{walk_free, first_in}
use Rattle.mig_shannon.proofs.walks.try_walk.Goals as goal

pub is_missing-requires-clause-node : goal.is_missing-requires-clause-node
is_missing-requires-clause-node c = first_in c.args.board.now c.args.edge c.args.first c.args.second c.requires.at

pub paint-requires-clause-free : goal.paint-requires-clause-free
paint-requires-clause-free c = both_free _ _ c.args.first c.args.second _ c.requires.at.joins c.if-is_missing.ensures c.requires.has

pub returns-then-is_missing-clause-tried : goal.returns-then-is_missing-clause-tried
returns-then-is_missing-clause-tried c =
    subst (λ (g : Colouring). PaintsOne c.args.board.now g c.args.edge) (sym c.paint.ensures.painted)
    (PaintsOne-painted c.args.board.now c.args.edge c.args.has (slice_get_within _ _ _ c.requires.at.plain))

pub returns-then-eq-clause-tried : goal.returns-then-eq-clause-tried
returns-then-eq-clause-tried c = Recolours-exchanged _ _ _ _ _ _ c.exchange.ensures.exchanged

pub paint-requires-2-clause-plain : goal.paint-requires-2-clause-plain
paint-requires-2-clause-plain c = exchanges_plain c.args.board.now c.exchange.new.self _ _ _ _ c.exchange.ensures.exchanged c.args.edge c.requires.at.plain

pub paint-requires-2-clause-free : goal.paint-requires-2-clause-free
paint-requires-2-clause-free c =
    walk_free c.args.board.now c.exchange.new.self c.args.edge c.args.first c.args.second c.args.lacks c.args.has c.requires c.exchange.result
    (λ h. eqb-false _ _ (sym c.if-eq.ensures) (ap (λ (q : CopyId). q.0) h)) c.exchange.ensures.exchanged

pub returns-clause-tried : goal.returns-clause-tried
returns-clause-tried c =
    subst (λ (g : Colouring). PaintsOne c.args.board.now g c.args.edge) (sym c.paint-2.ensures.painted)
    (PaintsOne-exchanged c.args.board.now c.exchange.new.self _ _ _ _ c.exchange.ensures.exchanged c.args.edge c.args.has
    (slice_get_within _ _ _ (exchanges_plain c.args.board.now c.exchange.new.self _ _ _ _ c.exchange.ensures.exchanged c.args.edge c.requires.at.plain)))

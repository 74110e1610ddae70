use Rattle.mig_shannon.proofs.Common.{PaintsOne-after, Recolours-trans}
use Rattle.mig_shannon.proofs.Open.{open_after, open_turned}
use Rattle.mig_shannon.proofs.walks.try_edge.Goals as goal

pub try_spare-requires-clause-open : goal.try_spare-requires-clause-open
try_spare-requires-clause-open c =
    open_after c.loop-try.board c.try_walk.new.board c.args.edge c.loop-try.first c.loop-try.second c.loop-try.invariant.at c.if-try_walk.ensures.tried c.if-try_walk.ensures.proper

pub returns-then-try_spare-clause-tried : goal.returns-then-try_spare-clause-tried
returns-then-try_spare-clause-tried c =
    PaintsOne-after c.args.board.now c.try_walk.new.board c.try_spare.new.board c.args.edge
    (Recolours-trans c.args.board.now c.loop-try.board c.try_walk.new.board c.loop-try.invariant.recoloured c.if-try_walk.ensures.tried) c.if-try_spare.ensures.tried

pub loop-try-preserved : goal.loop-try-preserved
loop-try-preserved c =
    let tried = Recolours-trans c.loop-try.board c.try_walk.new.board c.try_spare.new.board c.if-try_walk.ensures.tried c.if-try_spare.ensures.tried in
    let both = Recolours-trans c.loop-try.board c.try_spare.new.board c.stir.new.board tried c.stir.ensures.recolours in
    record {
      recoloured = Recolours-trans c.args.board.now c.loop-try.board c.stir.new.board c.loop-try.invariant.recoloured both;
      at = open_turned c.stir.new.board c.args.edge c.loop-try.first c.loop-try.second
          (open_after c.loop-try.board c.stir.new.board c.args.edge c.loop-try.first c.loop-try.second c.loop-try.invariant.at both c.stir.ensures.proper);
    }

use Rattle.mig_board.proofs.BoardFacts.{can_paint, written}
use Rattle.mig_board.proofs.boards.Board.paint.Goals as goal

pub put-requires : goal.put-requires
put-requires c =
    let can = can_paint c.self.inside c.self.invariant _ c.self.view_is _ _ _ c.requires.plain c.requires.free c.index.ensures in
    record { node = can.first; colour = can.colour }

pub put-requires-2 : goal.put-requires-2
put-requires-2 c =
    let can = can_paint c.self.inside c.self.invariant _ c.self.view_is _ _ _ c.requires.plain c.requires.free c.index.ensures in
    record { node = rw c.put.ensures can.second; colour = rw c.put.ensures can.colour }

pub invariant_of-self : goal.invariant_of-self
invariant_of-self c =
    let can = can_paint c.self.inside c.self.invariant _ c.self.view_is _ _ _ c.requires.plain c.requires.free c.index.ensures in
    let w = written c.self.inside c.self.invariant _ _ _ _ _ can _ _ _ _ c.put.ensures c.put-2.ensures c.of.ensures c.of-2.ensures in
    record { proper = w.0.proper; table = w.0.table; few_edges = c.self.invariant.few_edges; few_entries = w.1 }

pub returns-clause-proper : goal.returns-clause-proper
returns-clause-proper c =
    let can = can_paint c.self.inside c.self.invariant _ c.self.view_is _ _ _ c.requires.plain c.requires.free c.index.ensures in
    (written c.self.inside c.self.invariant _ _ _ _ _ can _ _ _ _ c.put.ensures c.put-2.ensures c.of.ensures c.of-2.ensures).0.proper

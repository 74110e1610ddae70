use Rattle.mig_board.proofs.BoardFacts.{can_clear, written}
use Rattle.mig_board.proofs.boards.Board.clear.Goals as goal

pub put-requires : goal.put-requires
put-requires c =
    let can = can_clear c.self.inside c.self.invariant _ c.self.view_is _ c.requires _ c.index.ensures _ c.index-2.ensures _ c.in-Some.is in
    record { node = can.first; colour = can.colour }

pub put-requires-in-Some : goal.put-requires-in-Some
put-requires-in-Some c =
    let can = can_clear c.self.inside c.self.invariant _ c.self.view_is _ c.requires _ c.index.ensures _ c.index-2.ensures _ c.in-Some.is in
    record { node = rw c.put.ensures can.second; colour = rw c.put.ensures can.colour }

pub invariant_of-self : goal.invariant_of-self
invariant_of-self c =
    let can = can_clear c.self.inside c.self.invariant _ c.self.view_is _ c.requires _ c.index.ensures _ c.index-2.ensures _ c.in-Some.is in
    let w = written c.self.inside c.self.invariant _ _ _ _ _ can _ _ _ _ c.put.ensures c.put-in-Some.ensures c.none.ensures c.none-in-Some.ensures in
    record { proper = w.0.proper; table = w.0.table; few_edges = c.self.invariant.few_edges; few_entries = w.1 }

use Rattle.mig_board.proofs.Walks.{IsUnderway}
use Rattle.mig_board.proofs.boards.Board.far.Given as goal

abbrev pub invariant-loop-step : goal.invariant-loop-step
invariant-loop-step l = IsUnderway l.self l.fn.node l.fn.lacks l.fn.has l.at l.next l.other l._step

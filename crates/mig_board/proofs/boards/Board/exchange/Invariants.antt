use Rattle.mig_board.proofs.ExchangeFacts.{IsMidway}
use Rattle.mig_board.proofs.boards.Board.exchange.Given as goal

abbrev pub invariant-loop-step : goal.invariant-loop-step
invariant-loop-step l = IsMidway l.fn.self l.self-inside l.fn.node l.fn.lacks l.fn.has l.at l.next l.other l.found l._step

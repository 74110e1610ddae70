use Rattle.mig_board.proofs.Common.{rules}
use Rattle.mig_board.proofs.places.other_of.Goals as goal

pub returns-then-eq : goal.returns-then-eq
returns-then-eq c = search rules

pub returns-else-eq : goal.returns-else-eq
returns-else-eq c = search rules

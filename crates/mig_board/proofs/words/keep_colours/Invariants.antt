use Rattle.mig_board.proofs.FullSets.{AreCut}
use Rattle.mig_board.proofs.words.keep_colours.Given as goal

abbrev pub invariant-loop-set : goal.invariant-loop-set
invariant-loop-set l = AreCut l.fn.sets l.fn.colours l.set l.words

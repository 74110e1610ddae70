use Rattle.mig_words.proofs.Common.{drop, map, ◌≢◌}
use Rattle.mig_words.proofs.Lists.{SoFar}
use Rattle.mig_words.proofs.words.differs_from.Given as goal

abbrev pub invariant-loop-other : goal.invariant-loop-other
invariant-loop-other l = SoFar (λ other. l.word ≢ other) (map (λ w. w.now) (drop l.other-index l.others)) (map (λ w. w.now) l.others)

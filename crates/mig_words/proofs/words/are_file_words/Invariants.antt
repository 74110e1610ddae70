use Rattle.mig_words.proofs.Common.{IsFileWord, drop, map}
use Rattle.mig_words.proofs.Lists.{SoFar}
use Rattle.mig_words.proofs.words.are_file_words.Given as goal

abbrev pub invariant-loop-word : goal.invariant-loop-word
invariant-loop-word l = SoFar IsFileWord (map (λ w. w.now) (drop l.word-index l.words)) (map (λ w. w.now) l.words)

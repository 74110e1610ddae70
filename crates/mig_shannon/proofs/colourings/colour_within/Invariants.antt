use Rattle.mig_shannon.proofs.Common.{Grows, IsProper, edges_left, ◌≡◌}
use Rattle.mig_shannon.proofs.colourings.colour_within.Given as goal

abbrev pub invariant-loop-pass : goal.invariant-loop-pass
invariant-loop-pass l = record { grows : Grows l.fn.board l.board; proper : IsProper l.board; left : l.left ≡ edges_left l.board }

use Rattle.mig_text.proofs.Common.{drop, round_lines, text_of_lines, ◌++◌, ◌+◌, ◌≡◌}
use Rattle.mig_text.proofs.plan_print.push_rounds.Given as goal

abbrev pub invariant-loop-round : goal.invariant-loop-round
invariant-loop-round l = record {
  numbered : l.number ≡ l.round-index + 1;
  so_far : l.out.items ++ text_of_lines (round_lines l.input (l.round-index + 1) (drop l.round-index l.rounds)) ≡ l.initial.out.items ++ text_of_lines (round_lines l.input 1 l.rounds);
}

-- The text of a plan has a line for each shift, and so at least as many bytes as the plan has shifts.
use Rattle.mig_text.proofs.Common.{InputLists, List, PlanText, Shift, [], ap, arith, codes, decimal, head_line, length, length-append, map, round_lines, shift_line, shifts_of, text_of_lines, words, ℕ}
use Rattle.mig_text.proofs.Common.{◌++◌, ◌+◌, ◌∷◌, ◌≡◌, ◌≤◌}
use Rattle.mig_text.proofs.PlanLengths.{text_cons, text_append}

shifts_cons : (round : List Shift) (rounds : List (List Shift)) → length (shifts_of (round ∷ rounds)) ≡ length round + length (shifts_of rounds)
shifts_cons round rounds = length-append round (shifts_of rounds)

module _ (input : InputLists) where
  one_each : (round : List Shift) → length round ≤ length (text_of_lines (map (shift_line input) round))
  one_each [] = omega arith
  one_each (s ∷ round) = omega (arith, text_cons (shift_line input s) (map (shift_line input) round), one_each round)

  rounds_each : (r : ℕ) (rounds : List (List Shift)) → length (shifts_of rounds) ≤ length (text_of_lines (round_lines input r rounds))
  rounds_each r [] = omega arith
  rounds_each r (round ∷ rounds) =
      omega (
        arith,
        shifts_cons round rounds,
        text_cons (head_line r (length round)) (map (shift_line input) round ++ round_lines input (r + 1) rounds),
        text_append (map (shift_line input) round) (round_lines input (r + 1) rounds),
        one_each round,
        rounds_each (r + 1) rounds,
      )

  pub shifts_fit : (plan : List (List Shift)) (bytes : List ℕ) → PlanText input plan bytes → length (shifts_of plan) ≤ length bytes
  shifts_fit plan bytes text =
      let total : List ℕ = words (codes "rounds" ∷ decimal (length plan) ∷ []) in
      omega (
        arith,
        ap length text.lines,
        text_cons (codes "migration-plan 1") (total ∷ round_lines input 1 plan ++ codes "end" ∷ []),
        text_cons total (round_lines input 1 plan ++ codes "end" ∷ []),
        text_append (round_lines input 1 plan) (codes "end" ∷ []),
        rounds_each 1 plan,
      )

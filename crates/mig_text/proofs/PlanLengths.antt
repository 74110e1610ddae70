-- How long the text of a plan is.
use Rattle.mig_text.proofs.Common.{All, AllByRecursion, InputLists, IsInput, List, MAX_ROUNDS, PlanText, Shift, ShiftFits, [], ap, arith, codes, decimal, disk_name, head_line, item_name, length}
use Rattle.mig_text.proofs.Common.{length-append, length-decimal-le, map, no_disk, recursion_from_All, round_lines, shift_line, text_of_lines, words, ℕ, ◌*◌, ◌++◌, ◌+◌, ◌<◌, ◌^◌, ◌∙◌, ◌∷◌, ◌≡◌}
use Rattle.mig_text.proofs.Common.{◌≤◌}

pub text_cons : (l : List ℕ) (ls : List (List ℕ)) → length (text_of_lines (l ∷ ls)) ≡ length l + 1 + length (text_of_lines ls)
text_cons l ls = omega (arith, length-append (l ++ 10 ∷ []) (text_of_lines ls), length-append l (10 ∷ []))

pub text_append : (ls ms : List (List ℕ)) → length (text_of_lines (ls ++ ms)) ≡ length (text_of_lines ls) + length (text_of_lines ms)
text_append [] ms = omega arith
text_append (l ∷ ls) ms = omega (arith, text_cons l (ls ++ ms), text_cons l ls, text_append ls ms)

pub word_cons : (w v : List ℕ) (ws : List (List ℕ)) → length (words (w ∷ v ∷ ws)) ≡ length w + 1 + length (words (v ∷ ws))
word_cons w v ws = omega (arith, length-append w (32 ∷ words (v ∷ ws)))

-- the shifts of the rounds
abbrev pub shifts_in : List (List Shift) → ℕ
shifts_in [] = 0
shifts_in (round ∷ rounds) = length round + shifts_in rounds

module _ (input : InputLists) (valid : IsInput input) where
  shift_length : (s : Shift) → ShiftFits input s → length (shift_line input s) ≤ 110
  shift_length s fits =
      let item : length (item_name input s.item.0) ≤ 32 = (valid.named_items s.item.0 [] fits.item).short in
      let from : length (disk_name input s.from.disk.0) ≤ 32 = (valid.named_disks s.from.disk.0 no_disk fits.from_disk).short in
      let to : length (disk_name input s.to.disk.0) ≤ 32 = (valid.named_disks s.to.disk.0 no_disk fits.to_disk).short in
      let a : length (decimal s.from.slot) ≤ 5 = length-decimal-le 5 s.from.slot (omega arith) (omega (arith, fits.from_slot)) (omega (arith, fits.from_slot)) in
      let b : length (decimal s.to.slot) ≤ 5 = length-decimal-le 5 s.to.slot (omega arith) (omega (arith, fits.to_slot)) (omega (arith, fits.to_slot)) in
      omega (
        arith,
        word_cons (item_name input s.item.0) (disk_name input s.from.disk.0) (decimal s.from.slot ∷ disk_name input s.to.disk.0 ∷ decimal s.to.slot ∷ []),
        word_cons (disk_name input s.from.disk.0) (decimal s.from.slot) (disk_name input s.to.disk.0 ∷ decimal s.to.slot ∷ []),
        word_cons (decimal s.from.slot) (disk_name input s.to.disk.0) (decimal s.to.slot ∷ []),
        word_cons (disk_name input s.to.disk.0) (decimal s.to.slot) [],
      )

  shifts_length : (round : List Shift) → AllByRecursion (ShiftFits input) round → length (text_of_lines (map (shift_line input) round)) ≤ 111 * length round
  shifts_length [] h = omega arith
  shifts_length (s ∷ round) h = omega (arith, text_cons (shift_line input s) (map (shift_line input) round), shift_length s h.0, shifts_length round h.1)

  head_length : (r n c : ℕ) → r < 10 ^ 6 → length (decimal n) ≤ c → length (head_line r n) ≤ 13 + c
  head_length r n c small fits =
      omega (arith, word_cons (codes "round") (decimal r) (decimal n ∷ []), word_cons (decimal r) (decimal n) [], length-decimal-le 6 r (omega arith) small (omega arith))

  rounds_length : (c r : ℕ) (rounds : List (List Shift)) → r + length rounds < 10 ^ 6 → AllByRecursion (λ (round : List Shift). (length (decimal (length round)) ≤ c) × AllByRecursion (ShiftFits input) round) rounds
      → length (text_of_lines (round_lines input r rounds)) ≤ (14 + c) * length rounds + 111 * shifts_in rounds
  rounds_length c r [] small h = omega arith
  rounds_length c r (round ∷ rounds) small h =
      let head : List ℕ = head_line r (length round) in
      let one : length head ≤ 13 + c = head_length r (length round) c (omega arith) h.0.0 in
      let these : length (text_of_lines (map (shift_line input) round)) ≤ 111 * length round = shifts_length round h.0.1 in
      let rest : length (text_of_lines (round_lines input (r + 1) rounds)) ≤ (14 + c) * length rounds + 111 * shifts_in rounds = rounds_length c (r + 1) rounds (omega arith) h.1 in
      let whole : length (text_of_lines (round_lines input r (round ∷ rounds))) ≡ length head + 1 + (length (text_of_lines (map (shift_line input) round)) + length (text_of_lines (round_lines input (r + 1) rounds))) =
      text_cons head (map (shift_line input) round ++ round_lines input (r + 1) rounds) ∙ ap (λ n. length head + 1 + n) (text_append (map (shift_line input) round) (round_lines input (r + 1) rounds)) in
      omega (arith, whole, one, these, rest)

  -- the text of a plan has at most this length, where the counts of its rounds have at most c digits
  pub plan_length : (c : ℕ) (plan : List (List Shift)) (bytes : List ℕ) → All (λ (round : List Shift). length (decimal (length round)) ≤ c) plan → PlanText input plan bytes
      → length bytes ≤ 35 + (14 + c) * length plan + 111 * shifts_in plan
  plan_length c plan bytes short text =
      let total : List ℕ = words (codes "rounds" ∷ decimal (length plan) ∷ []) in
      let few : length plan ≤ MAX_ROUNDS = text.fits.few_rounds in
      let rounds = rounds_length c 1 plan (omega arith) (recursion_from_All _ plan (λ k d h. (short k d h, recursion_from_All (ShiftFits input) _ (text.fits.shifts k d h)))) in
      omega (
        arith,
        ap length text.lines,
        text_cons (codes "migration-plan 1") (total ∷ round_lines input 1 plan ++ codes "end" ∷ []),
        text_cons total (round_lines input 1 plan ++ codes "end" ∷ []),
        text_append (round_lines input 1 plan) (codes "end" ∷ []),
        word_cons (codes "rounds") (decimal (length plan)) [],
        length-decimal-le 6 (length plan) (omega arith) (omega arith) (omega arith),
        rounds,
      )

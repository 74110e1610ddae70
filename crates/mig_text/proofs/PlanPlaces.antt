-- The lines of a plan fit their places.
use Rattle.mig_text.proofs.Common.{AllByRecursion, End, FitsAlong, Head, InputLists, IsInput, IsLine, Lacks-decimal, Last, List, MAX_FILE_BYTES, MAX_ROUNDS, MAX_SHIFTS, Move, Over, PlanFits, PlanNext}
use Rattle.mig_text.proofs.Common.{PlanPlace, PlanText, Shift, ShiftFits, Title, Total, [], add-zero, ap, append_assoc, are_fitting, arith, before_rounds, before_shifts, cases_lt, codes, decimal}
use Rattle.mig_text.proofs.Common.{decimal_injective, head_line, inl, inr, length, map, pieces, plan_lacks, plan_lines, refl, round_lines, rounds_word_lacks, same_words, shift_line, subst, suc}
use Rattle.mig_text.proofs.Common.{sym, words, ℕ, ◌++◌, ◌+◌, ◌<◌, ◌∙◌, ◌∷◌, ◌≡◌, ◌≤◌}
use Rattle.mig_text.proofs.Places.{Leads-append, no_misfit, pieces_of_lines}
use Rattle.std.proofs.lemmas.List.{append_cancel_left}

same_total : (m n : ℕ) → m ≤ MAX_ROUNDS → n ≤ MAX_ROUNDS → words (codes "rounds" ∷ decimal m ∷ []) ≡ words (codes "rounds" ∷ decimal n ∷ []) → m ≡ n
same_total m n a b e =
    let w : codes "rounds" ∷ decimal m ∷ [] ≡ codes "rounds" ∷ decimal n ∷ [] = same_words (codes "rounds") (codes "rounds") (decimal m ∷ []) (decimal n ∷ [])
    (rounds_word_lacks, (Lacks-decimal 32 m (omega arith) (omega arith), tt)) (rounds_word_lacks, (Lacks-decimal 32 n (omega arith) (omega arith), tt)) e in
    decimal_injective m n (omega arith) (omega arith) cc

-- a byte list that goes on where two fronts are the same
-- the count of a head's line, whatever the number of the round
same_head : (r m n : ℕ) → head_line r m ≡ head_line r n → decimal m ≡ decimal n
same_head r m n e =
    let f = append_cancel_left (codes "round" ++ 32 ∷ []) (decimal r ++ 32 ∷ decimal m) (decimal r ++ 32 ∷ decimal n) e in
    let g : 32 ∷ decimal m ≡ 32 ∷ decimal n = append_cancel_left (decimal r) (32 ∷ decimal m) (32 ∷ decimal n) f in
    cc

-- a piece at a place has one place after it
pub one_next : (input : InputLists) (a : PlanPlace) (piece : List ℕ) (b c : PlanPlace) → PlanNext input a piece b → PlanNext input a piece c → b ≡ c
one_next input Title piece b c h k = h.1 ∙ sym k.1
one_next input Total piece b c h k = h.1.2 ∙ ap (before_rounds 1) (same_total h.0 k.0 h.1.0 k.1.0 (sym h.1.1 ∙ k.1.1)) ∙ sym k.1.2
one_next input (Head r left) piece b c h k =
    let d : decimal h.0 ≡ decimal k.0 = same_head r h.0 k.0 (sym h.1.1 ∙ k.1.1) in
    h.1.2 ∙ ap (λ n. before_shifts n r left) (decimal_injective h.0 k.0 (omega (arith, h.1.0)) (omega (arith, k.1.0)) d) ∙ sym k.1.2
one_next input (Move more r left) piece b c h k = h.1.2 ∙ sym k.1.2
one_next input End piece b c h k = h.1 ∙ sym k.1
one_next input Last piece b c h k = h.1 ∙ sym k.1
one_next input Over piece b c h k = absurd h

pub shifts_lead : (input : InputLists) (shifts : List Shift) (r left : ℕ) → AllByRecursion (ShiftFits input) shifts
    → FitsAlong (PlanNext input) (before_shifts (length shifts) r left) (map (shift_line input) shifts) (before_rounds (r + 1) left)
shifts_lead input [] r left h = refl
shifts_lead input (s ∷ shifts) r left h = (before_shifts (length shifts) r left, ((s, (h.0, refl, refl)), shifts_lead input shifts r left h.1))

-- a round's lines
pub round_leads : (input : InputLists) (round : List Shift) (r left : ℕ) → length round ≤ MAX_SHIFTS → AllByRecursion (ShiftFits input) round
    → FitsAlong (PlanNext input) (Head r left) (head_line r (length round) ∷ map (shift_line input) round) (before_rounds (r + 1) left)
round_leads input round r left few h = (before_shifts (length round) r left, ((length round, (few, refl, refl)), shifts_lead input round r left h))

pub rounds_lead : (input : InputLists) (rounds : List (List Shift)) (r more : ℕ) → AllByRecursion (λ round. (length round ≤ MAX_SHIFTS) × AllByRecursion (ShiftFits input) round) rounds
    → FitsAlong (PlanNext input) (before_rounds r (length rounds + more)) (round_lines input r rounds) (before_rounds (r + length rounds) more)
rounds_lead input [] r more h = let a : r + 0 ≡ r = omega arith in let b : more ≡ 0 + more = omega arith in (λ i. before_rounds (a i) (b i))
rounds_lead input (round ∷ rounds) r more h =
    let e : suc (length rounds) + more ≡ suc (length rounds + more) = omega arith in
    let f : (r + 1) + length rounds ≡ r + suc (length rounds) = omega arith in
    subst (λ n. FitsAlong (PlanNext input) (before_rounds r n) (round_lines input r (round ∷ rounds)) (before_rounds (r + suc (length rounds)) more)) (sym e)
    (Leads-append (PlanNext input) (Head r (length rounds + more)) (before_rounds (r + 1) (length rounds + more)) (before_rounds (r + suc (length rounds)) more)
    (head_line r (length round) ∷ map (shift_line input) round) (round_lines input (r + 1) rounds)
    (round_leads input round r (length rounds + more) h.0.0 h.0.1)
    (subst (λ n. FitsAlong (PlanNext input) (before_rounds (r + 1) (length rounds + more)) (round_lines input (r + 1) rounds) (before_rounds n more)) f (rounds_lead input rounds (r + 1) more h.1)))

pub end_leads : (input : InputLists) → FitsAlong (PlanNext input) End (codes "end" ∷ [] ∷ []) Over
end_leads input = (Last, ((refl, refl), (Over, ((refl, refl), refl))))

pub plan_leads : (input : InputLists) (plan : List (List Shift)) → IsInput input → PlanFits input plan → FitsAlong (PlanNext input) Title (plan_lines input plan ++ [] ∷ []) Over
plan_leads input plan valid fits = (
  Total,
  (
    (refl, refl),
    (
      before_rounds 1 (length plan),
      (
        (length plan, (fits.few_rounds, refl, refl)),
        subst (λ t. FitsAlong (PlanNext input) (before_rounds 1 (length plan)) t Over) (sym (append_assoc (round_lines input 1 plan) (codes "end" ∷ []) ([] ∷ [])))
            (Leads-append (PlanNext input) (before_rounds 1 (length plan)) End Over (round_lines input 1 plan) (codes "end" ∷ [] ∷ [])
            (subst (λ n. FitsAlong (PlanNext input) (before_rounds 1 n) (round_lines input 1 plan) End) (add-zero (length plan)) (rounds_lead input plan 1 0 (are_fitting input valid plan fits)))
            (end_leads input)),
      ),
    ),
  ),
)

-- the pieces of a spelling fit
pub text_leads : (input : InputLists) (plan : List (List Shift)) (bytes : List ℕ) → IsInput input → PlanText input plan bytes → FitsAlong (PlanNext input) Title (pieces bytes) Over
text_leads input plan bytes valid text =
    subst (λ t. FitsAlong (PlanNext input) Title t Over)
    (sym (ap pieces text.lines ∙ pieces_of_lines (plan_lines input plan) (plan_lacks input valid plan text.fits.few_rounds (are_fitting input valid plan text.fits))))
    (plan_leads input plan valid text.fits)

pub line_no_plan : (input : InputLists) (bytes : List ℕ) (n : ℕ) → IsInput input → IsLine (PlanNext input) Title Over bytes n → (plan : List (List Shift)) → PlanText input plan bytes → MAX_FILE_BYTES < length bytes
line_no_plan input bytes n valid line plan text =
    elim (cases_lt MAX_FILE_BYTES (length bytes)) [
      | inl long ↦ long
      | inr short ↦ absurd (no_misfit (PlanNext input) (one_next input) Title Over (pieces bytes) n (text_leads input plan bytes valid text) (line.short short))
    ]

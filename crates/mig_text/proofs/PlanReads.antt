-- The reading of a plan, part by part.
use Rattle.mig_text.proofs.Common.{All, All-push, AllByRecursion, AreRoundsRead, End, EndsWrong, Err, Head, IfLine, IfOk, IsCountUpTo, IsHeadLine, IsInput, IsLine, IsMisfit, IsMiss, IsPlanOpened}
use Rattle.mig_text.proofs.Common.{FitsAlong, InputLists, IsRoundPart, IsRoundRead, IsShiftLine, IsStop, Last, Left, List, MAX_FILE_BYTES, MAX_ROUNDS, MAX_SHIFTS, Move, Ok, Over, PlanFits, PlanLine}
use Rattle.mig_text.proofs.Common.{PlanNext, PlanText, Result, Shift, ShiftFits, Stops, TextError, Title, Took, TookAll, Total, [], after_line, ap, append-nil, append_assoc, arith, before_rounds}
use Rattle.mig_text.proofs.Common.{before_shifts, codes, decimal, head_line, inl, inr, join_with_byte, join_with_byte-slice_split, length, length-append, map, map-append, pieces, plan_lines}
use Rattle.mig_text.proofs.Common.{recursion_from_All, refl, round_lines, shift_line, subst, suc, sym, text_of_lines, words, ℕ, ◌++◌, ◌+◌, ◌-◌, ◌<◌, ◌∙◌, ◌∷◌, ◌≡◌, ◌≢◌, ◌≤◌}
use Rattle.mig_text.proofs.PlanPlaces.{rounds_lead, line_no_plan}
use Rattle.mig_text.specs.declared.errors.TextError.TheVariants as text_error
use Rattle.mig_text.proofs.Stops.{took_one, took_both, took_next, miss_stops, later_stops}

module _ (input : InputLists) where
  pub title_stops : (old : Left) (e : TextError) → IsMiss (λ piece. piece ≡ codes "migration-plan 1") old e → IsStop (PlanNext input) Title Over old e
  title_stops old e m = miss_stops (PlanNext input) Title Over (λ piece. piece ≡ codes "migration-plan 1") old e (λ q. absurd cc) (λ piece next n. n.0) m

  pub total_stops : (old now : Left) (e : TextError) → Took old (codes "migration-plan 1") now → IsMiss (IsCountUpTo (codes "rounds") MAX_ROUNDS) now e → IsStop (PlanNext input) Title Over old e
  total_stops old now e t m =
      later_stops (PlanNext input) Title Total Over old now (codes "migration-plan 1" ∷ []) e (Total, ((refl, refl), refl)) (took_one old now _ t)
      (miss_stops (PlanNext input) Total Over (IsCountUpTo (codes "rounds") MAX_ROUNDS) now e (λ q. absurd cc) (λ piece next n. (n.0, (n.1.0, n.1.1))) m)

  pub end_stops : (old : Left) (e : TextError) → IsMiss (λ piece. piece ≡ codes "end") old e → IsStop (PlanNext input) End Over old e
  end_stops old e m = miss_stops (PlanNext input) End Over (λ piece. piece ≡ codes "end") old e (λ q. absurd cc) (λ piece next n. n.0) m

  pub last_stops : (old now : Left) (e : TextError) → Took old (codes "end") now → IsMiss (λ piece. piece ≡ []) now e → IsStop (PlanNext input) End Over old e
  last_stops old now e t m =
      later_stops (PlanNext input) End Last Over old now (codes "end" ∷ []) e (Last, ((refl, refl), refl)) (took_one old now _ t)
      (miss_stops (PlanNext input) Last Over (λ piece. piece ≡ []) now e (λ q. absurd cc) (λ piece next n. n.0) m)

  over_misses : (pieces : List (List ℕ)) → pieces ≢ [] → Stops (PlanNext input) Over Over pieces
  over_misses [] some = λ q. some refl
  over_misses (piece ∷ rest) some = λ next n. n

  pub over_stops : (old a b : Left) (e : TextError) → Took old (codes "end") a → Took a [] b → e ≡ text_error.Line (b.taken + 1) → b.pieces ≢ [] → IsStop (PlanNext input) End Over old e
  over_stops old a b e t u is some =
      later_stops (PlanNext input) End Over Over old b (codes "end" ∷ [] ∷ []) e (Last, ((refl, refl), (Over, ((refl, refl), refl)))) (took_next old a b (codes "end" ∷ []) [] (took_one old a _ t) u)
      (subst (IsStop (PlanNext input) Over Over b) (sym is) (1, (refl, record { before = []; after = b.pieces; place = Over; cut = refl; fit = refl; stops = over_misses b.pieces some; number = omega arith })))

  pub end_wrong_stops : (old : Left) (e : TextError) → EndsWrong old e → IsStop (PlanNext input) End Over old e
  end_wrong_stops old e (inl m) = end_stops old e m
  end_wrong_stops old e (inr (inl s)) = last_stops old s.0 e s.1.0 s.1.1
  end_wrong_stops old e (inr (inr s)) = over_stops old s.0 s.1.0 e s.1.1.0 s.1.1.1 s.1.1.2 s.1.1.3

  pub head_stops : (r : ℕ) (old : Left) (e : TextError) → IsMiss (IsHeadLine r) old e → (left : ℕ) → IsStop (PlanNext input) (Head r left) Over old e
  head_stops r old e m left = miss_stops (PlanNext input) (Head r left) Over (IsHeadLine r) old e (λ q. absurd cc) (λ piece next n. (n.0, (n.1.0, n.1.1))) m

  -- the head of a round and its first shifts lead to the next
  shifts_lead_on : (shifts : List Shift) (more r left : ℕ) → AllByRecursion (ShiftFits input) shifts
      → FitsAlong (PlanNext input) (before_shifts (length shifts + suc more) r left) (map (shift_line input) shifts) (Move more r left)
  shifts_lead_on [] more r left h = let e : suc more ≡ 0 + suc more = omega arith in ap (λ n. before_shifts n r left) e
  shifts_lead_on (s ∷ shifts) more r left h =
      let e : suc (length shifts + suc more) ≡ suc (length shifts) + suc more = omega arith in
      subst (λ n. FitsAlong (PlanNext input) (before_shifts n r left) (map (shift_line input) (s ∷ shifts)) (Move more r left)) e
      (before_shifts (length shifts + suc more) r left, ((s, (h.0, refl, refl)), shifts_lead_on shifts more r left h.1))

  part_leads : (r n more left : ℕ) (shifts : List Shift) → n ≤ MAX_SHIFTS → n ≡ length shifts + suc more → All (ShiftFits input) shifts
      → FitsAlong (PlanNext input) (Head r left) (head_line r n ∷ map (shift_line input) shifts) (Move more r left)
  part_leads r n more left shifts few e h = (
    before_shifts n r left,
    (
      (n, (few, refl, refl)),
      subst (λ m. FitsAlong (PlanNext input) (before_shifts m r left) (map (shift_line input) shifts) (Move more r left)) (sym e) (shifts_lead_on shifts more r left (recursion_from_All _ shifts h)),
    ),
  )

  pub shift_stops : (r n done : ℕ) (shifts : List Shift) (old now : Left) (e : TextError) → IsRoundPart input r n done shifts old now → done < n → n ≤ MAX_SHIFTS → IsMiss (IsShiftLine input) now e
      → (left : ℕ) → IsStop (PlanNext input) (Head r left) Over old e
  shift_stops r n done shifts old now e part less few m left =
      let more : ℕ = n - done - 1 in
      let sum : n ≡ length shifts + suc more = omega (arith, part.count) in
      later_stops (PlanNext input) (Head r left) (Move more r left) Over old now (head_line r n ∷ map (shift_line input) shifts) e (part_leads r n more left shifts few sum part.fitting) part.took
      (miss_stops (PlanNext input) (Move more r left) Over (IsShiftLine input) now e (λ q. absurd cc) (λ piece next k. (k.0, (k.1.0, k.1.1))) m)

  pub part_more : (r n done : ℕ) (shifts : List Shift) (s : Shift) (old now new : Left) → IsRoundPart input r n done shifts old now → ShiftFits input s → Took now (shift_line input s) new
      → IsRoundPart input r n (done + 1) (shifts ++ s ∷ []) old new
  part_more r n done shifts s old now new part fits t = record {
    count = omega (arith, part.count, length-append shifts (s ∷ []));
    fitting = All-push (ShiftFits input) shifts s part.fitting fits;
    took = subst (λ ls. TookAll old (head_line r n ∷ ls) new) (sym (map-append (shift_line input) shifts (s ∷ [])))
        (took_next old now new (head_line r n ∷ map (shift_line input) shifts) (shift_line input s) part.took t);
  }

  -- one more round goes last
  round_lines_push : (r : ℕ) (rounds : List (List Shift)) (round : List Shift)
      → round_lines input r (rounds ++ round ∷ []) ≡ round_lines input r rounds ++ head_line (r + length rounds) (length round) ∷ map (shift_line input) round
  round_lines_push r [] round = let e : r ≡ r + 0 = omega arith in append-nil (head_line r (length round) ∷ map (shift_line input) round) ∙ ap (λ n. head_line n (length round) ∷ map (shift_line input) round) e
  round_lines_push r (first ∷ rounds) round =
      let e : (r + 1) + length rounds ≡ r + suc (length rounds) = omega arith in
      ap (λ t. head_line r (length first) ∷ map (shift_line input) first ++ t) (round_lines_push (r + 1) rounds round ∙ ap (λ n. round_lines input (r + 1) rounds ++ head_line n (length round) ∷ map (shift_line input) round) e)
      ∙ ap (λ t. head_line r (length first) ∷ t) (sym (append_assoc (map (shift_line input) first) (round_lines input (r + 1) rounds) (head_line (r + suc (length rounds)) (length round) ∷ map (shift_line input) round)))

  pub rounds_more : (k : ℕ) (rounds : List (List Shift)) (round : List Shift) (old now new : Left) → AreRoundsRead input k rounds old now → IsRoundRead input (k + 1) round now new
      → AreRoundsRead input (k + 1) (rounds ++ round ∷ []) old new
  rounds_more k rounds round old now new so_far one =
      let e : k + 1 ≡ 1 + length rounds = omega (arith, so_far.count) in
      record {
        count = omega (arith, so_far.count, length-append rounds (round ∷ []));
        few_shifts = All-push (λ (r : List Shift). length r ≤ MAX_SHIFTS) rounds round so_far.few_shifts one.few;
        fitting = All-push (All (ShiftFits input)) rounds round so_far.fitting one.fitting;
        took = subst (λ ls. TookAll old ls new) (sym (round_lines_push 1 rounds round))
            (took_both old now new (round_lines input 1 rounds) (head_line (1 + length rounds) (length round) ∷ map (shift_line input) round) so_far.took
            (subst (λ n. TookAll now (head_line n (length round) ∷ map (shift_line input) round) new) e one.took));
      }

  abbrev AreFitting : List (List Shift) → Type 0
  AreFitting rounds = AllByRecursion (λ (round : List Shift). (length round ≤ MAX_SHIFTS) × AllByRecursion (ShiftFits input) round) rounds

  are_fitting : (rounds : List (List Shift)) → All (λ (round : List Shift). length round ≤ MAX_SHIFTS) rounds → All (All (ShiftFits input)) rounds → AreFitting rounds
  are_fitting rounds few fits = recursion_from_All _ rounds (λ k d h. (few k d h, recursion_from_All (ShiftFits input) _ (fits k d h)))

  pub round_stops : (k total : ℕ) (rounds : List (List Shift)) (old now : Left) (e : TextError) → AreRoundsRead input k rounds old now → k < total
      → ((left : ℕ) → IsStop (PlanNext input) (Head (k + 1) left) Over now e) → IsStop (PlanNext input) (before_rounds 1 total) Over old e
  round_stops k total rounds old now e so_far less s =
      let left : ℕ = total - k - 1 in
      let sum : length rounds + suc left ≡ total = omega (arith, so_far.count) in
      let at : 1 + length rounds ≡ k + 1 = omega (arith, so_far.count) in
      later_stops (PlanNext input) (before_rounds 1 total) (Head (k + 1) left) Over old now (round_lines input 1 rounds) e
      (subst (λ n. FitsAlong (PlanNext input) (before_rounds 1 n) (round_lines input 1 rounds) (Head (k + 1) left)) sum
      (subst (λ r. FitsAlong (PlanNext input) (before_rounds 1 (length rounds + suc left)) (round_lines input 1 rounds) (Head r left)) at
      (rounds_lead input rounds 1 (suc left) (are_fitting rounds so_far.few_shifts so_far.fitting))))
      so_far.took (s left)

  opening_leads : (total : ℕ) → total ≤ MAX_ROUNDS → FitsAlong (PlanNext input) Title (codes "migration-plan 1" ∷ words (codes "rounds" ∷ decimal total ∷ []) ∷ []) (before_rounds 1 total)
  opening_leads total few = (Total, ((refl, refl), (before_rounds 1 total, ((total, (few, refl, refl)), refl))))

  pub rounds_stop : (total : ℕ) (old now : Left) (e : TextError) → IsPlanOpened total old now → IsStop (PlanNext input) (before_rounds 1 total) Over now e → IsStop (PlanNext input) Title Over old e
  rounds_stop total old now e opened s = later_stops (PlanNext input) Title (before_rounds 1 total) Over old now _ e (opening_leads total opened.few) opened.took s

  pub closing_stops : (total : ℕ) (rounds : List (List Shift)) (old a b : Left) (e : TextError) → IsPlanOpened total old a → AreRoundsRead input total rounds a b → IsStop (PlanNext input) End Over b e
      → IsStop (PlanNext input) Title Over old e
  closing_stops total rounds old a b e opened read s =
      let sum : length rounds + 0 ≡ total = omega (arith, read.count) in
      rounds_stop total old a e opened
      (later_stops (PlanNext input) (before_rounds 1 total) End Over a b (round_lines input 1 rounds) e
      (subst (λ n. FitsAlong (PlanNext input) (before_rounds 1 n) (round_lines input 1 rounds) End) sum (rounds_lead input rounds 1 0 (are_fitting rounds read.few_shifts read.fitting)))
      read.took s)

-- lines and an empty piece, joined by LF, are the text of the lines
joined : (ls : List (List ℕ)) → join_with_byte 10 (ls ++ [] ∷ []) ≡ text_of_lines ls
joined [] = refl
joined (l ∷ []) = sym (append-nil (l ++ 10 ∷ []))
joined (l ∷ m ∷ ls) = ap (λ t. l ++ 10 ∷ t) (joined (m ∷ ls)) ∙ sym (after_line l (text_of_lines (m ∷ ls)))

pub text_from_pieces : (bytes : List ℕ) (ls : List (List ℕ)) → pieces bytes ≡ ls ++ [] ∷ [] → bytes ≡ text_of_lines ls
text_from_pieces bytes ls e = sym (join_with_byte-slice_split 10 bytes) ∙ ap (join_with_byte 10) e ∙ joined ls

-- what a stop says of the whole text
pub plan_line : (input : InputLists) (bytes : List ℕ) (e : TextError) → IsInput input → length bytes ≤ MAX_FILE_BYTES → IsStop (PlanNext input) Title Over (record { taken = 0; pieces = pieces bytes }) e → IfLine (PlanLine input bytes) e
plan_line input bytes text_error.Memory valid short s = tt
plan_line input bytes (text_error.Line n) valid short s =
    let same : s.0 ≡ n = omega (arith, s.1.0) in
    let line : IsLine (PlanNext input) Title Over bytes n = record { long = λ l. absurd (omega arith); short = λ _. subst (IsMisfit (PlanNext input) Title Over (pieces bytes)) same s.1.1 } in
    record { no_plan = line_no_plan input bytes n valid line; line = line }

-- the value of a text whose lines were read
pub plan_text : (input f : InputLists) (bytes : List ℕ) (old : Left) (r : Result (List (List Shift)) TextError) → f ≡ input → old ≡ record { taken = 0; pieces = pieces bytes }
    → IfOk r (PlanFits f) → IfOk r (λ plan. old.pieces ≡ plan_lines f plan ++ [] ∷ []) → IfOk r (λ plan. PlanText input plan bytes)
plan_text input f bytes old (Ok plan) e l fits lines = record {
  fits = subst (λ q. PlanFits q plan) e fits;
  lines = text_from_pieces bytes (plan_lines input plan) (sym (λ k. (l k).pieces) ∙ lines ∙ ap (λ q. plan_lines q plan ++ [] ∷ []) e);
}
plan_text input f bytes old (Err e) is l fits lines = tt

-- Bytes are the spelling of at most one plan.
use Rattle.mig_base.proofs.Common.{AllByRecursion, AllPairs, Disk, InputLists, IsInput, IsName, List, MAX_ROUNDS, MAX_SHIFTS, PlanFits, PlanText, Shift, ShiftFits, [], ap, append_assoc, arith}
use Rattle.mig_base.proofs.Common.{cases_order, codes, decimal, decimal_injective, disk_name, false, get_or, inl, inr, is_name_byte, item_name, length, length-map, list_all, map, nat_eq}
use Rattle.mig_base.proofs.Common.{nat_tests, no_disk, not, plan_lines, recursion_from_All, refl, round_lines, shift_line, sym, true, words, ℕ, ◌++◌, ◌+◌, ◌<◌, ◌^◌, ◌∙◌, ◌∷◌, ◌≡◌, ◌≢◌, ◌≤◌}
use Rattle.mig_base.proofs.Separators.{Lacks, same_lines, same_words, Lacks-words, Lacks-decimal, same_front}

-- a byte of a name isn't a blank or an end of a line
Lacks-name_by : (c : ℕ) → is_name_byte c ≡ false → (xs : List ℕ) → AllByRecursion (λ b. is_name_byte b ≡ true) xs → Lacks c xs
Lacks-name_by c other [] h = tt
Lacks-name_by c other (x ∷ xs) h = (λ e. let g : is_name_byte c ≡ true = ap is_name_byte (sym e) ∙ h.0 in cc, Lacks-name_by c other xs h.1)

Lacks-name : (c : ℕ) → is_name_byte c ≡ false → (xs : List ℕ) → IsName xs → Lacks c xs
Lacks-name c other xs h = Lacks-name_by c other xs (recursion_from_All _ xs h.plain)

-- what differs at each two places is at one place alone
pub same_place : {X Y : Type 0} (f : X → Y) (xs : List X) (d : X) (i j : ℕ) → AllPairs (λ a b. f a ≢ f b) xs → i < length xs → j < length xs → f (get_or xs i d) ≡ f (get_or xs j d) → i ≡ j
same_place f xs d i j apart hi hj e =
    elim (cases_order i j) [
      | inl same ↦ same
      | inr (inl less) ↦ absurd (apart i j d less hj e)
      | inr (inr more) ↦ absurd (apart j i d more hi (sym e))
    ]

pub round_lacks : Lacks 32 (codes "round")
round_lacks = (λ e. omega arith, (λ e. omega arith, (λ e. omega arith, (λ e. omega arith, (λ e. omega arith, tt)))))

-- the fixed words have no blank and no end of a line
pub lacks_test : (c : ℕ) (xs : List ℕ) → list_all (λ z. not (nat_eq z c)) xs ≡ true → Lacks c xs
lacks_test c [] h = tt
lacks_test c (x ∷ xs) h = (λ e. grind (arith, nat_tests), lacks_test c xs (grind (arith, nat_tests)))

round_lacks_end : Lacks 10 (codes "round")
round_lacks_end = lacks_test 10 (codes "round") refl

pub rounds_word_lacks : Lacks 32 (codes "rounds")
rounds_word_lacks = lacks_test 32 (codes "rounds") refl

pub rounds_word_lacks_end : Lacks 10 (codes "rounds")
rounds_word_lacks_end = lacks_test 10 (codes "rounds") refl

head_lacks : Lacks 10 (codes "migration-plan 1")
head_lacks = lacks_test 10 (codes "migration-plan 1") refl

pub end_lacks : Lacks 10 (codes "end")
end_lacks = lacks_test 10 (codes "end") refl

module _ (input : InputLists) (valid : IsInput input) where
  pub item_lacks : (c i : ℕ) → is_name_byte c ≡ false → i < length input.items → Lacks c (item_name input i)
  item_lacks c i other h = Lacks-name c other _ (valid.named_items i [] h)

  pub disk_lacks : (c d : ℕ) → is_name_byte c ≡ false → d < length input.disks → Lacks c (disk_name input d)
  disk_lacks c d other h = Lacks-name c other _ (valid.named_disks d _ h)

  -- the five words of a shift's line
  abbrev pub shift_words : Shift → List (List ℕ)
  shift_words s = item_name input s.item.0 ∷ disk_name input s.from.disk.0 ∷ decimal s.from.slot ∷ disk_name input s.to.disk.0 ∷ decimal s.to.slot ∷ []

  pub words_lack : (c : ℕ) → c < 48 → is_name_byte c ≡ false → (s : Shift) → ShiftFits input s → AllByRecursion (Lacks c) (shift_words s)
  words_lack c small other s fits =
      (item_lacks c _ other fits.item, (disk_lacks c _ other fits.from_disk, (Lacks-decimal c _ small (omega (arith, fits.from_slot)), (disk_lacks c _ other fits.to_disk, (Lacks-decimal c _ small (omega (arith, fits.to_slot)), tt)))))

  same_shift : (s t : Shift) → ShiftFits input s → ShiftFits input t → shift_line input s ≡ shift_line input t → s ≡ t
  same_shift s t hs ht e =
      let w : shift_words s ≡ shift_words t = same_words _ _ _ _ (words_lack 32 (omega arith) refl s hs) (words_lack 32 (omega arith) refl t ht) e in
      let item : s.item.0 ≡ t.item.0 = same_place (λ n. n) input.items [] _ _ valid.item_names hs.item ht.item cc in
      let from : s.from.disk.0 ≡ t.from.disk.0 = same_place (λ (d : Disk). d.name) input.disks no_disk _ _ valid.disk_names hs.from_disk ht.from_disk cc in
      let to : s.to.disk.0 ≡ t.to.disk.0 = same_place (λ (d : Disk). d.name) input.disks no_disk _ _ valid.disk_names hs.to_disk ht.to_disk cc in
      let from_slot : s.from.slot ≡ t.from.slot = decimal_injective _ _ (omega (arith, hs.from_slot)) (omega (arith, ht.from_slot)) cc in
      let to_slot : s.to.slot ≡ t.to.slot = decimal_injective _ _ (omega (arith, hs.to_slot)) (omega (arith, ht.to_slot)) cc in
      λ k. record { item = record { 0 = item k }; from = record { disk = record { 0 = from k }; slot = from_slot k }; to = record { disk = record { 0 = to k }; slot = to_slot k } }

  same_shifts : (xs ys : List Shift) → AllByRecursion (ShiftFits input) xs → AllByRecursion (ShiftFits input) ys → map (shift_line input) xs ≡ map (shift_line input) ys → xs ≡ ys
  same_shifts [] [] hx hy e = refl
  same_shifts [] (y ∷ ys) hx hy e = absurd cc
  same_shifts (x ∷ xs) [] hx hy e = absurd cc
  same_shifts (x ∷ xs) (y ∷ ys) hx hy e =
      let head : x ≡ y = same_shift x y hx.0 hy.0 cc in
      let tail : xs ≡ ys = same_shifts xs ys hx.1 hy.1 cc in
      cc

  -- the rounds of a plan that fits
  abbrev AreFitting : List (List Shift) → Type 0
  AreFitting rounds = AllByRecursion (λ round. (length round ≤ MAX_SHIFTS) × AllByRecursion (ShiftFits input) round) rounds

  pub same_rounds : (r : ℕ) (xs ys : List (List Shift)) → r + length xs ≤ 2 ^ 32 → length xs ≡ length ys → AreFitting xs → AreFitting ys
      → (u v : List (List ℕ)) → round_lines input r xs ++ u ≡ round_lines input r ys ++ v → xs ≡ ys
  same_rounds r [] [] small l hx hy u v e = refl
  same_rounds r [] (y ∷ ys) small l hx hy u v e = absurd (omega arith)
  same_rounds r (x ∷ xs) [] small l hx hy u v e = absurd (omega arith)
  same_rounds r (x ∷ xs) (y ∷ ys) small l hx hy u v e =
      let head : words (codes "round" ∷ decimal r ∷ decimal (length x) ∷ []) ≡ words (codes "round" ∷ decimal r ∷ decimal (length y) ∷ []) = cc in
      let same : codes "round" ∷ decimal r ∷ decimal (length x) ∷ [] ≡ codes "round" ∷ decimal r ∷ decimal (length y) ∷ [] =
      same_words (codes "round") (codes "round") (decimal r ∷ decimal (length x) ∷ []) (decimal r ∷ decimal (length y) ∷ [])
      (round_lacks, (Lacks-decimal 32 r (omega arith) (omega arith), (Lacks-decimal 32 (length x) (omega arith) (omega (arith, hx.0.0)), tt)))
      (round_lacks, (Lacks-decimal 32 r (omega arith) (omega arith), (Lacks-decimal 32 (length y) (omega arith) (omega (arith, hy.0.0)), tt))) head in
      let count : length x ≡ length y = decimal_injective _ _ (omega (arith, hx.0.0)) (omega (arith, hy.0.0)) cc in
      let tail : (map (shift_line input) x ++ round_lines input (r + 1) xs) ++ u ≡ (map (shift_line input) y ++ round_lines input (r + 1) ys) ++ v = cc in
      let both = same_front (map (shift_line input) x) (map (shift_line input) y) (round_lines input (r + 1) xs ++ u) (round_lines input (r + 1) ys ++ v) (length-map x (shift_line input) ∙ count ∙ sym (length-map y (shift_line input))) (sym (append_assoc _ _ u) ∙ tail ∙ append_assoc _ _ v) in
      let first : x ≡ y = same_shifts x y hx.0.1 hy.0.1 both.0 in
      let rest : xs ≡ ys = same_rounds (r + 1) xs ys (omega arith) (omega arith) hx.1 hy.1 u v both.1 in
      cc

  -- no line has an end of a line in it
  shift_lacks : (s : Shift) → ShiftFits input s → Lacks 10 (shift_line input s)
  shift_lacks s fits = Lacks-words 10 (shift_words s) (λ e. omega arith) (words_lack 10 (omega arith) refl s fits)

  pub lines_append : (xs ys : List (List ℕ)) → AllByRecursion (Lacks 10) xs → AllByRecursion (Lacks 10) ys → AllByRecursion (Lacks 10) (xs ++ ys)
  lines_append [] ys h k = k
  lines_append (x ∷ xs) ys h k = (h.0, lines_append xs ys h.1 k)

  shifts_lack : (xs : List Shift) → AllByRecursion (ShiftFits input) xs → AllByRecursion (Lacks 10) (map (shift_line input) xs)
  shifts_lack [] h = tt
  shifts_lack (x ∷ xs) h = (shift_lacks x h.0, shifts_lack xs h.1)

  rounds_lack : (r : ℕ) (xs : List (List Shift)) → r + length xs ≤ 2 ^ 32 → AreFitting xs → AllByRecursion (Lacks 10) (round_lines input r xs)
  rounds_lack r [] small h = tt
  rounds_lack r (x ∷ xs) small h = (
    Lacks-words 10 (codes "round" ∷ decimal r ∷ decimal (length x) ∷ []) (λ e. omega arith)
        (round_lacks_end, (Lacks-decimal 10 r (omega arith) (omega arith), (Lacks-decimal 10 (length x) (omega arith) (omega (arith, h.0.0)), tt))),
    lines_append (map (shift_line input) x) (round_lines input (r + 1) xs) (shifts_lack x h.0.1) (rounds_lack (r + 1) xs (omega arith) h.1),
  )

  pub plan_lacks : (xs : List (List Shift)) → length xs ≤ MAX_ROUNDS → AreFitting xs → AllByRecursion (Lacks 10) (plan_lines input xs)
  plan_lacks xs few h = (
    head_lacks,
    (
      Lacks-words 10 (codes "rounds" ∷ decimal (length xs) ∷ []) (λ e. omega arith) (rounds_word_lacks_end, (Lacks-decimal 10 (length xs) (omega arith) (omega arith), tt)),
      lines_append (round_lines input 1 xs) (codes "end" ∷ []) (rounds_lack 1 xs (omega arith) h) (end_lacks, tt),
    ),
  )

  pub are_fitting : (xs : List (List Shift)) → PlanFits input xs → AreFitting xs
  are_fitting xs fits = recursion_from_All _ xs (λ k d h. (fits.few_shifts k d h, recursion_from_All (ShiftFits input) _ (fits.shifts k d h)))

  pub same_plan : (xs ys : List (List Shift)) (bytes : List ℕ) → PlanText input xs bytes → PlanText input ys bytes → xs ≡ ys
  same_plan xs ys bytes hx hy =
      let fx : AreFitting xs = are_fitting xs hx.fits in
      let fy : AreFitting ys = are_fitting ys hy.fits in
      let fewx : length xs ≤ MAX_ROUNDS = hx.fits.few_rounds in
      let fewy : length ys ≤ MAX_ROUNDS = hy.fits.few_rounds in
      let lines : plan_lines input xs ≡ plan_lines input ys = same_lines _ _ (plan_lacks xs fewx fx) (plan_lacks ys fewy fy) (sym hx.lines ∙ hy.lines) in
      let second : words (codes "rounds" ∷ decimal (length xs) ∷ []) ≡ words (codes "rounds" ∷ decimal (length ys) ∷ []) = cc in
      let w : codes "rounds" ∷ decimal (length xs) ∷ [] ≡ codes "rounds" ∷ decimal (length ys) ∷ [] =
      same_words (codes "rounds") (codes "rounds") (decimal (length xs) ∷ []) (decimal (length ys) ∷ [])
      (rounds_word_lacks, (Lacks-decimal 32 (length xs) (omega arith) (omega arith), tt)) (rounds_word_lacks, (Lacks-decimal 32 (length ys) (omega arith) (omega arith), tt)) second in
      let count : length xs ≡ length ys = decimal_injective _ _ (omega arith) (omega arith) cc in
      let rest : round_lines input 1 xs ++ codes "end" ∷ [] ≡ round_lines input 1 ys ++ codes "end" ∷ [] = cc in
      same_rounds 1 xs ys (omega arith) count fx fy (codes "end" ∷ []) (codes "end" ∷ []) rest

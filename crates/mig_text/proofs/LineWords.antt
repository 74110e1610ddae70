-- A line is read through its words.
use Rattle.mig_text.proofs.Common.{AllByRecursion, HasNoBlank, InputLists, IsInput, Lacks, Lacks-decimal, List, MAX_SHIFTS, MAX_SLOTS, MatchOption, None, Option, Shift, ShiftFits, Some, [], ap, arith}
use Rattle.mig_text.proofs.Common.{codes, decimal, disk_name, lacks_test, length, refl, round_lacks, shift_line, shift_words, slice_split, sym, words, words_lack, ℕ, ◌<◌, ◌==◌, ◌^◌, ◌∙◌, ◌∷◌}
use Rattle.mig_text.proofs.Common.{◌≡◌, ◌≢◌, ◌≤◌}
use Rattle.mig_text.proofs.Places.{split_words, words_split}

-- the words of a line
abbrev pub words_of : List ℕ → List (List ℕ)
words_of line = slice_split (λ b. b == 32) line

-- a line is these words exactly where its words are
pub line_is : (line : List ℕ) (ws : List (List ℕ)) → words_of line ≡ ws → line ≡ words ws
line_is line ws e = sym (words_split line) ∙ ap words e

pub words_are : (line w : List ℕ) (ws : List (List ℕ)) → AllByRecursion (Lacks 32) (w ∷ ws) → line ≡ words (w ∷ ws) → words_of line ≡ w ∷ ws
words_are line w ws lack e = ap words_of e ∙ split_words w ws lack

pub count_lacks : (word : List ℕ) (n : ℕ) → HasNoBlank word → n < 2 ^ 32 → AllByRecursion (Lacks 32) (word ∷ decimal n ∷ [])
count_lacks word n h small = (lacks_test 32 word h, (Lacks-decimal 32 n (omega arith) (omega arith), tt))

pub count_read : (line word : List ℕ) (most : ℕ) (r : Option ℕ) → HasNoBlank word → most < 2 ^ 32
    → MatchOption r ((n : ℕ) → n ≤ most → words_of line ≢ word ∷ decimal n ∷ []) (λ n. (n ≤ most) × (words_of line ≡ word ∷ decimal n ∷ []))
    → MatchOption r ((n : ℕ) → n ≤ most → line ≢ words (word ∷ decimal n ∷ [])) (λ n. (n ≤ most) × (line ≡ words (word ∷ decimal n ∷ [])))
count_read line word most None h small m = λ n le e. m n le (words_are line word (decimal n ∷ []) (count_lacks word n h (omega arith)) e)
count_read line word most (Some n) h small m = (m.0, line_is line _ m.1)

pub head_lack : (r n : ℕ) → r < 2 ^ 32 → n < 2 ^ 32 → AllByRecursion (Lacks 32) (codes "round" ∷ decimal r ∷ decimal n ∷ [])
head_lack r n hr hn = (round_lacks, (Lacks-decimal 32 r (omega arith) (omega arith), (Lacks-decimal 32 n (omega arith) (omega arith), tt)))

pub head_read : (line : List ℕ) (r : ℕ) (o : Option ℕ) → r < 2 ^ 32
    → MatchOption o ((n : ℕ) → n ≤ MAX_SHIFTS → words_of line ≢ codes "round" ∷ decimal r ∷ decimal n ∷ []) (λ n. (n ≤ MAX_SHIFTS) × (words_of line ≡ codes "round" ∷ decimal r ∷ decimal n ∷ []))
    → MatchOption o ((n : ℕ) → n ≤ MAX_SHIFTS → line ≢ words (codes "round" ∷ decimal r ∷ decimal n ∷ [])) (λ n. (n ≤ MAX_SHIFTS) × (line ≡ words (codes "round" ∷ decimal r ∷ decimal n ∷ [])))
head_read line r None hr m = λ n le e. m n le (words_are line (codes "round") (decimal r ∷ decimal n ∷ []) (head_lack r n hr (omega arith)) e)
head_read line r (Some n) hr m = (m.0, line_is line _ m.1)

pub shift_read : (input : InputLists) (line : List ℕ) (o : Option Shift) → IsInput input
    → MatchOption o ((s : Shift) → ShiftFits input s → words_of line ≢ shift_words input s) (λ s. ShiftFits input s × (words_of line ≡ shift_words input s))
    → MatchOption o ((s : Shift) → ShiftFits input s → line ≢ shift_line input s) (λ s. ShiftFits input s × (line ≡ shift_line input s))
shift_read input line None valid m = λ s fits e. m s fits (words_are line _ _ (words_lack input valid 32 (omega arith) refl s fits) e)
shift_read input line (Some s) valid m = (m.0, line_is line _ m.1)

-- where the words after the first spot begin with no spot
pub no_second_spot : (input : InputLists) (all : List (List ℕ)) (w : List ℕ) (rest : List (List ℕ)) (a b : List ℕ) (last : List (List ℕ)) → all ≡ w ∷ rest → rest ≡ a ∷ b ∷ last
    → ((d slot : ℕ) (more : List (List ℕ)) → d < length input.disks → slot < MAX_SLOTS → last ≢ disk_name input d ∷ decimal slot ∷ more)
    → (s : Shift) → ShiftFits input s → all ≢ shift_words input s
no_second_spot input all w rest a b last e f none s fits g = none s.to.disk.0 s.to.slot [] fits.to_disk fits.to_slot cc

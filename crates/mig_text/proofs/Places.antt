-- A text whose pieces all fit has no misfit.
use Rattle.mig_text.proofs.Common.{All-from_recursion, AllByRecursion, FitsAlong, IsMisfit, Lacks, List, Stops, [], after_line, ap, append_assoc, arith, eq-eqb, eqb, false}
use Rattle.mig_text.proofs.Common.{join_with_byte-slice_split, length, length-append, nat_tests, pieces, refl, slice_split, slice_split_at, slice_split_none, subst, sym, text_of_lines, words, ℕ}
use Rattle.mig_text.proofs.Common.{◌++◌, ◌+◌, ◌==◌, ◌∙◌, ◌∷◌, ◌≡◌, ◌≢◌}

module _ {P : Type 0} (Next : P → List ℕ → P → Type 0) where
  pub Leads-append : (a b c : P) (xs ys : List (List ℕ)) → FitsAlong Next a xs b → FitsAlong Next b ys c → FitsAlong Next a (xs ++ ys) c
  Leads-append a b c [] ys h k = subst (λ z. FitsAlong Next z ys c) h k
  Leads-append a b c (x ∷ xs) ys h k = (h.0, (h.1.0, Leads-append h.0 b c xs ys h.1.1 k))

  -- where a place and a piece have one place after them, what is left of a text that fits fits
  pub Leads-rest : ((a : P) (piece : List ℕ) (b c : P) → Next a piece b → Next a piece c → b ≡ c)
      → (a b c : P) (xs ys : List (List ℕ)) → FitsAlong Next a xs b → FitsAlong Next a (xs ++ ys) c → FitsAlong Next b ys c
  Leads-rest one a b c [] ys h k = subst (λ z. FitsAlong Next z ys c) (sym h) k
  Leads-rest one a b c (x ∷ xs) ys h k =
      let same : k.0 ≡ h.0 = one a x k.0 h.0 k.1.0 h.1.0 in
      Leads-rest one h.0 b c xs ys h.1.1 (subst (λ z. FitsAlong Next z (xs ++ ys) c) same k.1.1)

  stops_not : (over place : P) (after : List (List ℕ)) → Stops Next over place after → FitsAlong Next place after over → ⊥
  stops_not over place [] s h = s (sym h)
  stops_not over place (x ∷ xs) s h = s h.0 h.1.0

  pub no_misfit : ((a : P) (piece : List ℕ) (b c : P) → Next a piece b → Next a piece c → b ≡ c)
      → (first over : P) (text : List (List ℕ)) (n : ℕ) → FitsAlong Next first text over → IsMisfit Next first over text n → ⊥
  no_misfit one first over text n fits m =
      stops_not over m.place m.after m.stops (Leads-rest one first m.place over m.before m.after m.fit (subst (λ t. FitsAlong Next first t over) m.cut fits))

  -- a misfit of the rest is one of the whole
  pub later_misfit : (first place over : P) (front rest : List (List ℕ)) (n : ℕ) → FitsAlong Next first front place → IsMisfit Next place over rest n
      → IsMisfit Next first over (front ++ rest) (length front + n)
  later_misfit first place over front rest n h m = record {
    before = front ++ m.before;
    after = m.after;
    place = m.place;
    cut = ap (λ t. front ++ t) m.cut ∙ sym (append_assoc front m.before m.after);
    fit = Leads-append first place m.place front m.before h m.fit;
    stops = m.stops;
    number = omega (arith, m.number, length-append front m.before);
  }

-- no element is the byte
differs : (c : ℕ) (xs : List ℕ) → Lacks c xs → AllByRecursion (λ x. eqb x c ≡ false) xs
differs c [] h = tt
differs c (x ∷ xs) h = (let n : x ≢ c = h.0 in grind (arith, nat_tests), differs c xs h.1)

pub split_last : (c : ℕ) (xs : List ℕ) → Lacks c xs → slice_split (λ b. b == c) xs ≡ xs ∷ []
split_last c xs h = slice_split_none (λ b. b == c) xs (All-from_recursion (λ x. eqb x c ≡ false) xs (differs c xs h))

pub split_front : (c : ℕ) (xs ys : List ℕ) → Lacks c xs → slice_split (λ b. b == c) (xs ++ c ∷ ys) ≡ xs ∷ slice_split (λ b. b == c) ys
split_front c xs ys h = slice_split_at (λ b. b == c) xs c ys (All-from_recursion (λ x. eqb x c ≡ false) xs (differs c xs h)) (eq-eqb c c refl)

-- the pieces of lines are the lines, and an empty piece after them
pub pieces_of_lines : (ls : List (List ℕ)) → AllByRecursion (Lacks 10) ls → pieces (text_of_lines ls) ≡ ls ++ [] ∷ []
pieces_of_lines [] h = refl
pieces_of_lines (l ∷ ls) h = ap pieces (after_line l (text_of_lines ls)) ∙ split_front 10 l (text_of_lines ls) h.0 ∙ ap (λ t. l ∷ t) (pieces_of_lines ls h.1)

-- the words of a line of words are the words
pub split_words : (w : List ℕ) (ws : List (List ℕ)) → AllByRecursion (Lacks 32) (w ∷ ws) → slice_split (λ b. b == 32) (words (w ∷ ws)) ≡ w ∷ ws
split_words w [] h = split_last 32 w h.0
split_words w (v ∷ ws) h = split_front 32 w (words (v ∷ ws)) h.0 ∙ ap (λ t. w ∷ t) (split_words v ws h.1)

pub words_split : (line : List ℕ) → words (slice_split (λ b. b == 32) line) ≡ line
words_split line = join_with_byte-slice_split 32 line

-- How the lines of a drill are spelled.
use Rattle.mig_drill.proofs.Common.{Bool, ClearMark, List, Ok, Puts, SinkState, Write, [], ap, append-nil, append_assoc, arith, codes, count_by_more_no, count_by_more_yes, count_line, decimal}
use Rattle.mig_drill.proofs.Common.{false, flat_map-append, flat_map-map, from_bool, get_or, get_or-range_with_len, joined, length, map, map-append, marks_after, marks_line, puts_then}
use Rattle.mig_drill.proofs.Common.{range_with_len, refl, sets_mark, stop_line, stop_lines, subst, sym, take, take_more, text_of_lines, true, ℕ, ◌++◌, ◌+◌, ◌<◌, ◌∙◌, ◌∷◌, ◌≡◌, ◌≤◌}

-- the pieces of a line with one number
pub count_spelled : (what : List ℕ) (n : ℕ) → what ++ (codes " " ++ (decimal n ++ (codes "\n" ++ []))) ≡ text_of_lines (count_line what n ∷ [])
count_spelled what n = sym (append-nil (count_line what n ++ 10 ∷ []) ∙ append_assoc what (32 ∷ decimal n) (10 ∷ []))

-- the pieces of the line of a stop
pub marks_spelled : (n a b : ℕ)
    → codes "stop " ++ (decimal n ++ (codes " marks " ++ (decimal a ++ (codes " " ++ (decimal b ++ (codes " " ++ (decimal a ++ (codes " " ++ (decimal b ++ (codes "\n" ++ [])))))))))) ≡ text_of_lines (marks_line n a b ∷ [])
marks_spelled n a b = sym (append-nil (marks_line n a b ++ 10 ∷ []) ∙ simp (append_assoc) refl)

-- the lines of the stops, one by one
pub stops_spelled : (writes : List Write) → text_of_lines (stop_lines writes) ≡ joined (map (λ n. stop_line writes n ++ 10 ∷ []) (range_with_len 0 (length writes)))
stops_spelled writes = flat_map-map (λ line. line ++ 10 ∷ []) (stop_line writes) (range_with_len 0 (length writes)) ∙ sym (flat_map-map (λ piece. piece) (λ n. stop_line writes n ++ 10 ∷ []) (range_with_len 0 (length writes)))

-- a first line, lines between, and a last line
pub three_parts : (first : List ℕ) (between : List (List ℕ)) (last : List ℕ) → text_of_lines (first ∷ (between ++ last ∷ [])) ≡ text_of_lines (first ∷ []) ++ (text_of_lines between ++ text_of_lines (last ∷ []))
three_parts first between last =
    flat_map-append (λ line. line ++ 10 ∷ []) (first ∷ []) (between ++ last ∷ []) ∙ ap (λ (rest : List ℕ). text_of_lines (first ∷ []) ++ rest) (flat_map-append (λ line. line ++ 10 ∷ []) between (last ∷ []))

module _ (writes : List Write) (n : ℕ) (d : Write) (within : n < length writes) where
  -- a write more sets a mark, or doesn't
  pub marks_more : marks_after writes (n + 1) ≡ marks_after writes n + from_bool (sets_mark (get_or writes n d))
  marks_more = at (sets_mark (get_or writes n d)) refl
    where
      at : (b : Bool) → sets_mark (get_or writes n d) ≡ b → marks_after writes (n + 1) ≡ marks_after writes n + from_bool (sets_mark (get_or writes n d))
      at true e = count_by_more_yes sets_mark writes n d within e ∙ ap (λ (b : Bool). marks_after writes n + from_bool b) (sym e)
      at false e = count_by_more_no sets_mark writes n d within e ∙ (let z : marks_after writes n ≡ marks_after writes n + 0 = omega arith in z) ∙ ap (λ (b : Bool). marks_after writes n + from_bool b) (sym e)

  -- the line of the stop before this write
  pub line_at : (before after : ℕ) → before ≡ marks_after writes n → after ≡ marks_after writes (n + 1) → text_of_lines (marks_line n before after ∷ []) ≡ stop_line writes (get_or (range_with_len 0 (length writes)) n 0) ++ 10 ∷ []
  line_at before after is_before is_after =
      append-nil (marks_line n before after ++ 10 ∷ [])
      ∙ ap (λ (b : ℕ). marks_line n b after ++ 10 ∷ []) is_before
      ∙ ap (λ (a : ℕ). marks_line n (marks_after writes n) a ++ 10 ∷ []) is_after
      ∙ ap (λ (k : ℕ). stop_line writes k ++ 10 ∷ []) (sym (get_or-range_with_len 0 (length writes) n 0 within ∙ (let z : 0 + n ≡ n = omega arith in z)))

-- the marks that are set after a write more, as they are counted
pub after_is : (writes : List Write) (n : ℕ) → n < length writes → (marks more : ℕ) (sets : Bool) → marks ≡ marks_after writes n → more ≡ from_bool sets → sets ≡ sets_mark (get_or writes n ClearMark) → marks + more ≡ marks_after writes (n + 1)
after_is writes n within marks more sets are is tells =
    ap (λ (k : ℕ). k + more) are ∙ ap (λ (k : ℕ). marks_after writes n + k) (is ∙ ap from_bool tells) ∙ sym (marks_more writes n ClearMark within)

pub one_at_most : (sets : Bool) (more : ℕ) → more ≡ from_bool sets → more ≤ 1
one_at_most true more is = omega (arith, is)
one_at_most false more is = omega (arith, is)

-- one piece more was put
pub piece_more : {X : Type 0} (f : X → List ℕ) (xs : List X) (i : ℕ) (d : X) → i < length xs → (x y z : SinkState) → Puts (joined (map f (take i xs))) x y (Ok tt) → Puts (f (get_or xs i d)) y z (Ok tt)
    → Puts (joined (map f (take (i + 1) xs))) x z (Ok tt)
piece_more f xs i d within x y z h k = subst (λ (text : List ℕ). Puts text x z (Ok tt)) (sym next_at) (puts_then (joined (map f (take i xs))) (f (get_or xs i d)) x y z (Ok tt) h k)
  where
    next_at : joined (map f (take (i + 1) xs)) ≡ joined (map f (take i xs)) ++ f (get_or xs i d)
    next_at =
        ap (λ l. joined (map f l)) (take_more xs i d within) ∙ ap joined (map-append f (take i xs) (get_or xs i d ∷ []))
        ∙ flat_map-append (λ piece. piece) (map f (take i xs)) (f (get_or xs i d) ∷ []) ∙ ap (λ (rest : List ℕ). joined (map f (take i xs)) ++ rest) (append-nil (f (get_or xs i d)))

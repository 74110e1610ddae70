-- Texts that are put piece by piece.
use Rattle.mig_words.proofs.Common.{Blame, Err, Extends, ExtendsByPrefix, ExtendsInPart, IfSome, IsErr, List, None, Ok, Option, Puts, Result, SinkFailed, SinkState, Some, [], ap, append-nil}
use Rattle.mig_words.proofs.Common.{append_assoc, arith, blame_pieces, drop, drop-cons, false, flat_map-append, get_or, joined, length, length-append, map, map-append, subst, suc, sym, take}
use Rattle.mig_words.proofs.Common.{take-append-add, take-append-drop, take-append-le, take-length, true, ℕ, ◌++◌, ◌+◌, ◌<◌, ◌∙◌, ◌∷◌, ◌≡◌}

-- a whole text is a beginning of it
pub begins : (a : List ℕ) (x y : SinkState) → Extends a x y → ExtendsInPart a x y
begins a x y h = by x.held h
  where
    by : (o : Option (List ℕ)) → IfSome o (λ held. y.held ≡ Some (held ++ a)) → IfSome o (λ held. ExtendsByPrefix a held y.held)
    by None h = tt
    by (Some held) h = (length a, omega arith, h ∙ ap (λ (t : List ℕ). Some (held ++ t)) (sym (take-length a)))

-- a beginning of a text is one of a longer text
pub begins_more : (a b : List ℕ) (x y : SinkState) → ExtendsInPart a x y → ExtendsInPart (a ++ b) x y
begins_more a b x y h = by x.held h
  where
    by : (o : Option (List ℕ)) → IfSome o (λ held. ExtendsByPrefix a held y.held) → IfSome o (λ held. ExtendsByPrefix (a ++ b) held y.held)
    by None h = tt
    by (Some held) (n, le, e) = (n, omega (arith, le, length-append a b), e ∙ ap (λ (t : List ℕ). Some (held ++ t)) (sym (take-append-le n a b le)))

-- one text and then a beginning of another
pub then_begins : (a b : List ℕ) (x y z : SinkState) → Extends a x y → ExtendsInPart b y z → ExtendsInPart (a ++ b) x z
then_begins a b x y z h k = by x.held h
  where
    at : (held : List ℕ) → ExtendsByPrefix b (held ++ a) z.held → ExtendsByPrefix (a ++ b) held z.held
    at held (n, le, e) =
        (length a + n, omega (arith, le, length-append a b), e ∙ ap Some (append_assoc held a (take n b)) ∙ ap (λ (t : List ℕ). Some (held ++ t)) (sym (take-append-add a b n)))

    by : (o : Option (List ℕ)) → IfSome o (λ held. y.held ≡ Some (held ++ a)) → IfSome o (λ held. ExtendsByPrefix (a ++ b) held z.held)
    by None h = tt
    by (Some held) h = at held (subst (λ (o : Option (List ℕ)). IfSome o (λ held. ExtendsByPrefix b held z.held)) h k)

-- or the whole of another
pub then_extends : (a b : List ℕ) (x y z : SinkState) → Extends a x y → Extends b y z → Extends (a ++ b) x z
then_extends a b x y z h k = by x.held h
  where
    by : (o : Option (List ℕ)) → IfSome o (λ held. y.held ≡ Some (held ++ a)) → IfSome o (λ held. z.held ≡ Some (held ++ (a ++ b)))
    by None h = tt
    by (Some held) h = subst (λ (o : Option (List ℕ)). IfSome o (λ held. z.held ≡ Some (held ++ b))) h k ∙ ap Some (append_assoc held a b)

-- nothing is put
pub puts_nothing : (x : SinkState) → Puts [] x x (Ok tt)
puts_nothing x = record { extended = by x.held; in_part = tt; later = omega arith; failed = tt }
  where
    by : (o : Option (List ℕ)) → IfSome o (λ held. o ≡ Some (held ++ []))
    by None = tt
    by (Some held) = ap Some (sym (append-nil held))

-- one text, and then another
pub puts_then : (a b : List ℕ) (x y z : SinkState) (result : Result (Unit {0}) SinkFailed) → Puts a x y (Ok tt) → Puts b y z result → Puts (a ++ b) x z result
puts_then a b x y z (Ok u) h k = record { extended = then_extends a b x y z h.extended k.extended; in_part = tt; later = omega (arith, h.later, k.later); failed = tt }
puts_then a b x y z (Err e) h k = record { extended = tt; in_part = then_begins a b x y z h.extended k.in_part; later = omega (arith, h.later, k.later); failed = omega (arith, h.later, k.failed) }

-- a text that wasn't put whole, and what was to follow
pub puts_fails : (a b : List ℕ) (x y : SinkState) (e : SinkFailed) (result : Result (Unit {0}) SinkFailed) → IsErr result → Puts a x y (Err e) → Puts (a ++ b) x y result
puts_fails a b x y e (Ok u) fails h = absurd (let f : false ≡ true = fails in cc)
puts_fails a b x y e (Err f) fails h = record { extended = tt; in_part = begins_more a b x y h.in_part; later = h.later; failed = h.failed }

-- the texts before a place, the one there, and those after it
split_at : {X : Type 0} (f : X → List ℕ) (xs : List X) (i : ℕ) (d : X) → i < length xs → joined (map f xs) ≡ joined (map f (take i xs)) ++ (f (get_or xs i d) ++ joined (map f (drop (suc i) xs)))
split_at f xs i d within =
    let e : xs ≡ take i xs ++ (get_or xs i d ∷ drop (suc i) xs) = sym (take-append-drop i xs) ∙ ap (λ rest. take i xs ++ rest) (drop-cons xs i d within) in
    ap (λ l. joined (map f l)) e ∙ ap joined (map-append f (take i xs) (get_or xs i d ∷ drop (suc i) xs)) ∙ flat_map-append (λ piece. piece) (map f (take i xs)) (map f (get_or xs i d ∷ drop (suc i) xs))

-- the piece at a place wasn't put whole, after those before it were
pub piece_fails : {X : Type 0} (f : X → List ℕ) (xs : List X) (i : ℕ) (d : X) (x y z : SinkState) (e : SinkFailed) (result : Result (Unit {0}) SinkFailed) → i < length xs → IsErr result
    → Puts (joined (map f (take i xs))) x y (Ok tt) → Puts (f (get_or xs i d)) y z (Err e) → Puts (joined (map f xs)) x z result
piece_fails f xs i d x y z e result within fails h k =
    let rest = joined (map f (drop (suc i) xs)) in
    subst (λ (text : List ℕ). Puts text x z result) (sym (split_at f xs i d within)) (puts_then (joined (map f (take i xs))) (f (get_or xs i d) ++ rest) x y z result h (puts_fails (f (get_or xs i d)) rest y z e result fails k))

-- what was put is a beginning of the text
pub puts_begin : (a : List ℕ) (x y : SinkState) (result : Result (Unit {0}) SinkFailed) → Puts a x y result → ExtendsInPart a x y
puts_begin a x y (Ok u) h = begins a x y h.extended
puts_begin a x y (Err e) h = h.in_part

-- the text of a blame, once it is known which it is
pub blamed : (name : List ℕ) {x y : SinkState} {result : Result (Unit {0}) SinkFailed} {known blame : Blame} → blame ≡ known → Puts (joined (blame_pieces known name)) x y result → Puts (joined (blame_pieces blame name)) x y result
blamed name {x = x} {y = y} {result = result} is puts = subst (λ (b : Blame). Puts (joined (blame_pieces b name)) x y result) (sym is) puts

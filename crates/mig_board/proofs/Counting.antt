-- How many colours are present at a node, against its degree.
use Rattle.std.proofs.Math.Logic.{⊎_swap}
use Rattle.mig_board.proofs.Common.{Bool, Colour, Colouring, CopyId, EdgeId, HasNoCommon, IsFull, IsPresent, Joins, List, None, Option, Some, [], ap, arith, cond, count_by, degree_of, eq-eqb}
use Rattle.mig_board.proofs.Common.{eqb, eqb_tells, false, inl, inr, is_end, none-some, one, or_left, or_right, refl, same_Some, slice_get, suc, sum_by-cons, true, zero, ℕ, ◌*◌, ◌+◌, ◌<◌, ◌∙◌}
use Rattle.mig_board.proofs.Common.{◌∷◌, ◌≡◌, ◌≤◌, ◌⊎◌}

abbrev pub has_hue : ℕ → Option Colour → Bool
has_hue k None = false
has_hue k (Some c) = eqb c.0 k

abbrev pub is_plain : Option Colour → Bool
is_plain None = true
is_plain (Some c) = false

-- how many edges at v have a colour, or none, that passes the test
abbrev pub tally : (Option Colour → Bool) → CopyId → List (CopyId × CopyId) → List (Option Colour) → ℕ
tally test v [] cs = 0
tally test v (p ∷ ps) [] = 0
tally test v (p ∷ ps) (c ∷ cs) = cond (is_end v p) (cond (test c) 1 0) 0 + tally test v ps cs

-- the sum of f over the numbers below n
abbrev pub sum_to : (ℕ → ℕ) → ℕ → ℕ
sum_to f zero = 0
sum_to f (suc n) = f n + sum_to f n

pub sum_to-add : (f h : ℕ → ℕ) (n : ℕ) → sum_to (λ k. f k + h k) n ≡ sum_to f n + sum_to h n
sum_to-add f h zero = refl
sum_to-add f h (suc n) = omega (arith, sum_to-add f h n)

pub sum_to-zero : (n : ℕ) → sum_to (λ k. 0) n ≡ 0
sum_to-zero zero = refl
sum_to-zero (suc n) = omega (arith, sum_to-zero n)

pub sum_to-one : (c n : ℕ) → (sum_to (λ k. cond (eqb c k) 1 0) n ≤ 1) × (n ≤ c → sum_to (λ k. cond (eqb c k) 1 0) n ≡ 0)
sum_to-one c zero = (omega arith, λ h. refl)
sum_to-one c (suc n) =
    let r = sum_to-one c n in
    elim (eqb_tells c n) [
      | inl h ↦
          (let one : ◌≡◌ {A = ℕ} (cond (eqb c n) 1 0) 1 = ap (λ t. one t) h.0 in
          let none = r.1 (omega (arith, h.1)) in
          (omega (arith, one, none), λ m. absurd (omega (arith, h.1))))
      | inr h ↦
          (let none : ◌≡◌ {A = ℕ} (cond (eqb c n) 1 0) 0 = ap (λ t. one t) h.0 in
          (omega (arith, none, r.0), λ m. (let rest = r.1 (omega arith) in omega (arith, none, rest))))
    ]

-- the colours of one edge
hue_total : (t : Bool) (c : Option Colour) (n : ℕ) → sum_to (λ k. cond t (cond (has_hue k c) 1 0) 0) n + cond t (cond (is_plain c) 1 0) 0 ≤ cond t 1 0
hue_total true None n = omega (arith, sum_to-zero n)
hue_total true (Some c) n = omega (arith, (sum_to-one c.0 n).0)
hue_total false c n = omega (arith, sum_to-zero n)

pub tally_total : (v : CopyId) (ps : List (CopyId × CopyId)) (cs : List (Option Colour)) (n : ℕ)
    → sum_to (λ k. tally (has_hue k) v ps cs) n + tally is_plain v ps cs ≤ count_by (is_end v) ps
tally_total v [] cs n = omega (arith, sum_to-zero n)
tally_total v (p ∷ ps) [] n = omega (arith, sum_to-zero n)
tally_total v (p ∷ ps) (c ∷ cs) n =
    let e : ◌≡◌ {A = ℕ} (count_by (is_end v) (p ∷ ps)) (cond (is_end v p) 1 0 + count_by (is_end v) ps) = sum_by-cons (λ x. one (is_end v x)) p ps in
    let sums = sum_to-add (λ k. cond (is_end v p) (cond (has_hue k c) 1 0) 0) (λ k. tally (has_hue k) v ps cs) n in
    omega (arith, sums, hue_total (is_end v p) c n, tally_total v ps cs n, e)

-- ---- a colour that is present is counted

is_end_first : (v w : CopyId) → is_end v (v, w) ≡ true
is_end_first v w = or_left (eqb v.0 v.0) (eqb w.0 v.0) (eq-eqb v.0 v.0 refl)

is_end_second : (v w : CopyId) → is_end v (w, v) ≡ true
is_end_second v w = or_right (eqb w.0 v.0) (eqb v.0 v.0) (eq-eqb v.0 v.0 refl)

tally_at : (test : Option Colour → Bool) (v : CopyId) (ps : List (CopyId × CopyId)) (cs : List (Option Colour)) (i : ℕ)
    (p : CopyId × CopyId) (c : Option Colour) → slice_get ps i ≡ Some p → slice_get cs i ≡ Some c → is_end v p ≡ true
    → test c ≡ true → 1 ≤ tally test v ps cs
tally_at test v [] cs i p c hp hc he hh = absurd (none-some p hp)
tally_at test v (q ∷ ps) [] i p c hp hc he hh = absurd (none-some c hc)
tally_at test v (q ∷ ps) (d ∷ cs) zero p c hp hc he hh =
    let e : is_end v q ≡ true = ap (is_end v) (same_Some q p hp) ∙ he in
    let h : test d ≡ true = ap test (same_Some d c hc) ∙ hh in
    let one : ◌≡◌ {A = ℕ} (cond (is_end v q) (cond (test d) 1 0) 0) 1 = ap (λ t. cond {A = ℕ} t (one (test d)) 0) e ∙ ap one h in
    omega (arith, one)
tally_at test v (q ∷ ps) (d ∷ cs) (suc i) p c hp hc he hh = omega (arith, tally_at test v ps cs i p c hp hc he hh)

tally_joined : (g : Colouring) (test : Option Colour → Bool) (v w : CopyId) (e : EdgeId) (c : Option Colour) → Joins g e v w
    → slice_get g.painted e.0 ≡ Some c → test c ≡ true → 1 ≤ tally test v g.ends g.painted
tally_joined g test v w e c j had pass =
    elim j [
      | inl r ↦ tally_at test v g.ends g.painted e.0 (v, w) c r had (is_end_first v w) pass
      | inr r ↦ tally_at test v g.ends g.painted e.0 (w, v) c r had (is_end_second v w) pass
    ]

abbrev pub tally_of : Colouring → CopyId → ℕ → ℕ
tally_of g v k = tally (has_hue k) v g.ends g.painted

pub present_tally : (g : Colouring) (v : CopyId) (k : Colour) → IsPresent g v k → 1 ≤ tally_of g v k.0
present_tally g v k h = tally_joined g (has_hue k.0) v h.1 h.0 (Some k) h.2.joins h.2.colour (eq-eqb k.0 k.0 refl)

pub plain_present : (g : Colouring) (v w : CopyId) (e : EdgeId) → Joins g e v w → slice_get g.painted e.0 ≡ Some None
    → 1 ≤ tally is_plain v g.ends g.painted
plain_present g v w e j h = tally_joined g is_plain v w e None j h refl

sum_to-ge : (f : ℕ → ℕ) (c n : ℕ) → ((k : ℕ) → k < n → c ≤ f k) → c * n ≤ sum_to f n
sum_to-ge f c zero h = omega arith
sum_to-ge f c (suc n) h = omega (arith, h n (omega arith), sum_to-ge f c n (λ k m. h k (omega arith)))

-- where every colour is present and an edge has none, there are more edges than colours
pub degree_of_full : (g : Colouring) (v w : CopyId) (e : EdgeId) → Joins g e v w → slice_get g.painted e.0 ≡ Some None → IsFull g v → g.colours < degree_of g v
degree_of_full g v w e j plain full =
    omega (
      arith,
      tally_total v g.ends g.painted g.colours,
      plain_present g v w e j plain,
      sum_to-ge (tally_of g v) 1 g.colours (λ k h. present_tally g v (record { 0 = k }) (full (record { 0 = k }) h)),
    )

-- where each colour is present at two of three nodes, and an edge at the first two has none, the degrees exceed twice the colours
pub degrees_of_three : (g : Colouring) (u v w : CopyId) (e : EdgeId) → Joins g e u v → slice_get g.painted e.0 ≡ Some None → HasNoCommon g u v → HasNoCommon g u w → HasNoCommon g v w → 2 * g.colours + 2 ≤ degree_of g u + degree_of g v + degree_of g w
degrees_of_three g u v w e j plain uv uw vw =
    let each = λ (k : ℕ) (h : k < g.colours). two (record { 0 = k }) (uv (record { 0 = k }) h) (uw (record { 0 = k }) h) (vw (record { 0 = k }) h) in
    let total = sum_to-ge (λ k. tally_of g u k + (tally_of g v k + tally_of g w k)) 2 g.colours each in
    omega (
      arith,
      total,
      sum_to-add (tally_of g u) (λ k. tally_of g v k + tally_of g w k) g.colours,
      sum_to-add (tally_of g v) (tally_of g w) g.colours,
      tally_total u g.ends g.painted g.colours,
      tally_total v g.ends g.painted g.colours,
      tally_total w g.ends g.painted g.colours,
      plain_present g u v e j plain,
      plain_present g v u e (⊎_swap j) plain,
    )
  where
    two : (k : Colour) → IsPresent g u k ⊎ IsPresent g v k → IsPresent g u k ⊎ IsPresent g w k → IsPresent g v k ⊎ IsPresent g w k → 2 ≤ tally_of g u k.0 + (tally_of g v k.0 + tally_of g w k.0)
    two k uv uw vw =
        let at = λ (v : CopyId) (h : IsPresent g v k). present_tally g v k h in
        elim uv [
          | inl a ↦ elim vw [ inl b ↦ omega (arith, at u a, at v b) | inr b ↦ omega (arith, at u a, at w b) ]
          | inr a ↦ elim uw [ inl b ↦ omega (arith, at v a, at u b) | inr b ↦ omega (arith, at v a, at w b) ]
        ]

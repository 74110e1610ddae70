-- Steps of the search.
use Rattle.mig_bounds.proofs.Common.{All, ByComponent, ByDisk, BySide, ByTriple, Candidate, IsBelow, IsBestBelow, IsJointCandidate, IsTrue, List, Transfers, Transfer, [], ap, arith, between}
use Rattle.mig_bounds.proofs.Common.{cases_lt, div_ceil_times, eqb, false, get_or, inl, inr, inside, is_inside, joins, limit_sum, min, mul-le-mul_left, nat_tests, one, place, refl, set}
use Rattle.mig_bounds.proofs.Common.{set_value, subst, sum_by-add, sum_by-same_each, sym, takes_part, value, ℕ, ◌%◌, ◌&&◌, ◌*◌, ◌+◌, ◌/◌, ◌<◌, ◌||◌, ◌∷◌, ◌≡◌, ◌≢◌, ◌≤◌, ◌⊎◌}

-- a candidate below the next place is below this one, or at it
pub below_next : (c : Candidate) (x y z : ℕ) → IsBelow (place c) (1 ∷ x ∷ y ∷ (z + 1) ∷ []) → IsBelow (place c) (1 ∷ x ∷ y ∷ z ∷ []) ⊎ (c ≡ ByTriple x y z)
below_next (ByDisk v) x y z h = inl (inl (omega arith))
below_next (BySide v side) x y z h = inl (inl (omega arith))
below_next (ByComponent set) x y z h = absurd (elim h [ inl l ↦ omega (arith, l) | inr r ↦ omega (arith, r.0) ])
below_next (ByTriple p q r) x y z h = elim h [ inl l ↦ absurd (omega (arith, l)) | inr t ↦ third t.0 t.1 ]
  where
    last : ◌≡◌ {A = ℕ} 1 1 → p ≡ x → q ≡ y → IsBelow (r ∷ []) ((z + 1) ∷ []) → IsBelow (1 ∷ p ∷ q ∷ r ∷ []) (1 ∷ x ∷ y ∷ z ∷ []) ⊎ (ByTriple p q r ≡ ByTriple x y z)
    last e same_p same_q t = elim t [
      | inl l ↦ elim (cases_lt r z) [ inl lt ↦ inl (inr (e, inr (same_p, inr (same_q, inl lt)))) | inr ge ↦ inr (let same_r : r ≡ z = omega (arith, l, ge) in cc) ]
      | inr u ↦ absurd u.1
    ]

    second : ◌≡◌ {A = ℕ} 1 1 → p ≡ x → IsBelow (q ∷ r ∷ []) (y ∷ (z + 1) ∷ []) → IsBelow (1 ∷ p ∷ q ∷ r ∷ []) (1 ∷ x ∷ y ∷ z ∷ []) ⊎ (ByTriple p q r ≡ ByTriple x y z)
    second e same_p t = elim t [ inl l ↦ inl (inr (e, inr (same_p, inl l))) | inr u ↦ last e same_p u.0 u.1 ]

    third : ◌≡◌ {A = ℕ} 1 1 → IsBelow (p ∷ q ∷ r ∷ []) (x ∷ y ∷ (z + 1) ∷ []) → IsBelow (1 ∷ p ∷ q ∷ r ∷ []) (1 ∷ x ∷ y ∷ z ∷ []) ⊎ (ByTriple p q r ≡ ByTriple x y z)
    third e t = elim t [ inl l ↦ inl (inr (e, inl l)) | inr u ↦ second e u.0 u.1 ]

-- the candidates below a place are also those below another, but for some that are no better
pub IsBestBelow-moved : (graph : Transfers) (best : Candidate) (rounds : ℕ) (from to : List ℕ) → ((c : Candidate) → IsJointCandidate graph c → IsBelow (place c) to → IsBelow (place c) from ⊎ (value graph c ≤ rounds)) → IsBestBelow graph best rounds from → IsBestBelow graph best rounds to
IsBestBelow-moved graph best rounds from to covered b = record {
  candidate = b.candidate;
  value_is = b.value_is;
  greatest = λ c is below. elim (covered c is below) [ inl old ↦ b.greatest c is old | inr le ↦ le ];
  first = b.first;
}

-- no better triple stands here
pub IsBestBelow-keeps : (graph : Transfers) (best : Candidate) (rounds x y z : ℕ) → (IsJointCandidate graph (ByTriple x y z) → value graph (ByTriple x y z) ≤ rounds) → IsBestBelow graph best rounds (1 ∷ x ∷ y ∷ z ∷ []) → IsBestBelow graph best rounds (1 ∷ x ∷ y ∷ (z + 1) ∷ [])
IsBestBelow-keeps graph best rounds x y z no_better b = IsBestBelow-moved graph best rounds (1 ∷ x ∷ y ∷ z ∷ []) (1 ∷ x ∷ y ∷ (z + 1) ∷ []) (λ c is below. elim (below_next c x y z below) [
  | inl old ↦ inl old
  | inr same ↦ inr (let P : Candidate → Type 0 = λ d. IsJointCandidate graph d → value graph d ≤ rounds in subst P (sym same) no_better is)
]) b

-- a better candidate comes next
pub IsBestBelow-takes : (graph : Transfers) (best next : Candidate) (rounds more : ℕ) (from to : List ℕ) → IsJointCandidate graph next → more ≡ value graph next → rounds < more → ((c : Candidate) → IsJointCandidate graph c → IsBelow (place c) to → IsBelow (place c) from ⊎ (c ≡ next)) → ((c : Candidate) → IsBelow (place c) (place next) → IsBelow (place c) from) → IsBestBelow graph best rounds from → IsBestBelow graph next more to
IsBestBelow-takes graph best next rounds more from to is value_is better covered before b = record {
  candidate = is;
  value_is = value_is;
  greatest = λ c cand below. elim (covered c cand below) [
    | inl old ↦ omega (arith, b.greatest c cand old, better)
    | inr same ↦ omega (arith, ap (value graph) same, value_is)
  ];
  first = λ c cand below. omega (arith, b.greatest c cand (before c below), better);
}

pub div_ceil-gt : (a b n : ℕ) → 0 < b → n * b < a → n < a / b + min 1 (a % b)
div_ceil-gt a b n p h = above (a / b + min 1 (a % b)) (div_ceil_times a b p).0
  where
    above : (q : ℕ) → a ≤ q * b → n < q
    above q t = elim (cases_lt n q) [ inl l ↦ l | inr g ↦ absurd (omega (arith, h, t, mul-le-mul_left b g)) ]

-- the moves inside three disks are those between each two
three_at : (a b c l r : ℕ) → a < b → b < c → l ≢ r → one ((eqb a l || (eqb b l || (eqb c l || false))) && (eqb a r || (eqb b r || (eqb c r || false)))) ≡ (one ((eqb l a && eqb r b) || (eqb l b && eqb r a)) + one ((eqb l a && eqb r c) || (eqb l c && eqb r a))) + one ((eqb l b && eqb r c) || (eqb l c && eqb r b))
three_at a b c l r ab bc lr = grind (arith, nat_tests)

pub inside_three_is : (a b c : ℕ) (ts : List Transfer) → a < b → b < c → All (λ t. t.leaves ≢ t.reaches) ts → inside (a ∷ b ∷ c ∷ []) ts ≡ (between a b ts + between a c ts) + between b c ts
inside_three_is a b c ts ab bc apart =
    let e = sum_by-same_each (λ t. one (is_inside (a ∷ b ∷ c ∷ []) t)) (λ t. (one (joins a b t) + one (joins a c t)) + one (joins b c t)) ts (λ k d h. three_at a b c (get_or ts k d).leaves (get_or ts k d).reaches ab bc (apart k d h)) in
    omega (arith, e, sum_by-add (λ t. one (joins a b t) + one (joins a c t)) (λ t. one (joins b c t)) ts, sum_by-add (λ t. one (joins a b t)) (λ t. one (joins a c t)) ts)

-- a set's value, where half its limits is not 0
pub set_value-half : (graph : Transfers) (set : List ℕ) (sum i : ℕ) → sum ≡ limit_sum graph set → i ≡ inside set graph.transfers → 0 < sum / 2 → set_value graph set ≡ i / (sum / 2) + min 1 (i % (sum / 2))
set_value-half graph set sum i is_sum is_inside some = rw (← is_sum, ← is_inside) (rw (positive (sum / 2) some) refl)
  where
    positive : (h : ℕ) → 0 < h → eqb h 0 ≡ false
    positive h p = grind (arith, nat_tests)

-- the disks below the next place are those below this one, and this one
pub below_next_disk : (graph : Transfers) (c : Candidate) (v : ℕ) → IsJointCandidate graph c → IsBelow (place c) (0 ∷ (v + 1) ∷ []) → IsBelow (place c) (0 ∷ v ∷ []) ⊎ (c ≡ ByDisk v)
below_next_disk graph (ByDisk w) v is h = elim h [
  | inl l ↦ absurd (omega (arith, l))
  | inr t ↦ elim t.1 [
    | inl l ↦ elim (cases_lt w v) [ inl lt ↦ inl (inr (t.0, inl lt)) | inr ge ↦ inr (let same : w ≡ v = omega (arith, l, ge) in ap ByDisk same) ]
    | inr u ↦ absurd u.1
  ]
]
below_next_disk graph (BySide w side) v is h = absurd is
below_next_disk graph (ByTriple p q r) v is h = absurd (elim h [ inl l ↦ omega (arith, l) | inr t ↦ omega (arith, t.0) ])
below_next_disk graph (ByComponent set) v is h = absurd (elim h [ inl l ↦ omega (arith, l) | inr t ↦ omega (arith, t.0) ])

-- where no disk before this one takes part, no candidate is below it
pub none_below_disk : (graph : Transfers) (c : Candidate) (v : ℕ) → ((w : ℕ) → w < v → IsTrue (takes_part graph w) → ⊥) → IsJointCandidate graph c → IsBelow (place c) (0 ∷ v ∷ []) → ⊥
none_below_disk graph (ByDisk w) v none is h = elim h [ inl l ↦ omega (arith, l) | inr t ↦ elim t.1 [ inl l ↦ none w l is.1 | inr u ↦ u.1 ] ]
none_below_disk graph (BySide w side) v none is h = absurd is
none_below_disk graph (ByTriple p q r) v none is h = elim h [ inl l ↦ omega (arith, l) | inr t ↦ omega (arith, t.0) ]
none_below_disk graph (ByComponent set) v none is h = elim h [ inl l ↦ omega (arith, l) | inr t ↦ omega (arith, t.0) ]

-- the first candidate of all
pub IsBestBelow-starts : (graph : Transfers) (v rounds : ℕ) → ((w : ℕ) → w < v → IsTrue (takes_part graph w) → ⊥) → IsJointCandidate graph (ByDisk v) → rounds ≡ value graph (ByDisk v) → IsBestBelow graph (ByDisk v) rounds (0 ∷ (v + 1) ∷ [])
IsBestBelow-starts graph v rounds none is value_is = record {
  candidate = is;
  value_is = value_is;
  greatest = λ c cand below. elim (below_next_disk graph c v cand below) [
    | inl old ↦ absurd (none_below_disk graph c v none cand old)
    | inr same ↦ omega (arith, ap (value graph) same, value_is)
  ];
  first = λ c cand below. absurd (none_below_disk graph c v none cand below);
}

-- where this disk is no candidate, or no better
pub IsBestBelow-keeps_disk : (graph : Transfers) (best : Candidate) (rounds v : ℕ) → value graph (ByDisk v) ≤ rounds → IsBestBelow graph best rounds (0 ∷ v ∷ []) → IsBestBelow graph best rounds (0 ∷ (v + 1) ∷ [])
IsBestBelow-keeps_disk graph best rounds v no_better b = IsBestBelow-moved graph best rounds (0 ∷ v ∷ []) (0 ∷ (v + 1) ∷ []) (λ c is below. elim (below_next_disk graph c v is below) [
  | inl old ↦ inl old
  | inr same ↦ inr (omega (arith, ap (value graph) same, no_better))
]) b

-- the triples below the next pair are those below this one, and those that begin with it
pub below_next_pair : (c : Candidate) (x y : ℕ) → IsBelow (place c) (1 ∷ x ∷ (y + 1) ∷ []) → IsBelow (place c) (1 ∷ x ∷ y ∷ []) ⊎ ((z : ℕ) × (c ≡ ByTriple x y z))
below_next_pair (ByDisk v) x y h = inl (inl (omega arith))
below_next_pair (BySide v side) x y h = inl (inl (omega arith))
below_next_pair (ByComponent set) x y h = absurd (elim h [ inl l ↦ omega (arith, l) | inr r ↦ omega (arith, r.0) ])
below_next_pair (ByTriple p q r) x y h = elim h [ inl l ↦ absurd (omega (arith, l)) | inr t ↦ first t.0 t.1 ]
  where
    second : ◌≡◌ {A = ℕ} 1 1 → p ≡ x → IsBelow (q ∷ r ∷ []) ((y + 1) ∷ []) → IsBelow (1 ∷ p ∷ q ∷ r ∷ []) (1 ∷ x ∷ y ∷ []) ⊎ ((z : ℕ) × (ByTriple p q r ≡ ByTriple x y z))
    second e same_p t = elim t [
      | inl l ↦ elim (cases_lt q y) [ inl lt ↦ inl (inr (e, inr (same_p, inl lt))) | inr ge ↦ inr (r, let same_q : q ≡ y = omega (arith, l, ge) in cc) ]
      | inr u ↦ absurd u.1
    ]

    first : ◌≡◌ {A = ℕ} 1 1 → IsBelow (p ∷ q ∷ r ∷ []) (x ∷ (y + 1) ∷ []) → IsBelow (1 ∷ p ∷ q ∷ r ∷ []) (1 ∷ x ∷ y ∷ []) ⊎ ((z : ℕ) × (ByTriple p q r ≡ ByTriple x y z))
    first e t = elim t [ inl l ↦ inl (inr (e, inl l)) | inr u ↦ second e u.0 u.1 ]

-- no triple that begins with these two is better
pub IsBestBelow-skips : (graph : Transfers) (best : Candidate) (rounds x y : ℕ) → ((z : ℕ) → IsJointCandidate graph (ByTriple x y z) → value graph (ByTriple x y z) ≤ rounds) → IsBestBelow graph best rounds (1 ∷ x ∷ y ∷ []) → IsBestBelow graph best rounds (1 ∷ x ∷ (y + 1) ∷ [])
IsBestBelow-skips graph best rounds x y no_better b = IsBestBelow-moved graph best rounds (1 ∷ x ∷ y ∷ []) (1 ∷ x ∷ (y + 1) ∷ []) (λ c is below. elim (below_next_pair c x y below) [
  | inl old ↦ inl old
  | inr same ↦ inr (let P : Candidate → Type 0 = λ d. IsJointCandidate graph d → value graph d ≤ rounds in subst P (sym same.1) (no_better same.0) is)
]) b

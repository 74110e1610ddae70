-- Components by labels: each disk has the least disk of its component as its label.
use Rattle.mig_base.proofs.Common.{All, All-filter, AllPairs, Bool, IsClosed, IsComponent, IsTrue, List, Transfers, [], ap, arith, cases_lt, cond}
use Rattle.mig_base.proofs.Common.{eq-eqb, eqb, eqb-true, false, false≢true, AllPairs-filter, filter, filter_passes, get_or, get_or-range_with_len}
use Rattle.mig_base.proofs.Common.{has, inl, inr, length, length-range_with_len, or_right, range_with_len, refl, subst, suc, sym, takes_part, true}
use Rattle.mig_base.proofs.Common.{zero, ℕ, ◌&&◌, ◌+◌, ◌<◌, ◌||◌, ◌∙◌, ◌∷◌, ◌≡◌, ◌≤◌, ◌⊎◌}
use Rattle.mig_base.proofs.Scheduled.{range_below}

-- the disks with this label
abbrev pub class : List ℕ → ℕ → List ℕ
class labels r = filter (λ v. eqb (get_or labels v 0) r) (range_with_len 0 (length labels))

-- labels that both ends of each move share, and that closed sets cannot tell from the disk
pub record AreLabels (graph : Transfers) (labels : List ℕ) : Type 0 where
  pub len : length labels ≡ length graph.disks
  pub shared : All (λ t. (t.leaves < length labels) × (t.reaches < length labels) × (get_or labels t.leaves 0 ≡ get_or labels t.reaches 0)) graph.transfers
  pub joined : (v : ℕ) (part : List ℕ) → v < length labels → IsClosed graph part → has part v ≡ has part (get_or labels v 0)
  pub alone : (v : ℕ) → v < length labels → IsTrue (takes_part graph v) ⊎ (get_or labels v 0 ≡ v)

pub has_kept : (b : Bool) (x : ℕ) (xs : List ℕ) (v : ℕ) → has (cond b (x ∷ xs) xs) v ≡ (b && eqb x v) || has xs v
has_kept true x xs v = refl
has_kept false x xs v = refl

and_cases : (b c d : Bool) → ((b && c) || d) ≡ true → ((b ≡ true) × (c ≡ true)) ⊎ (d ≡ true)
and_cases true true d h = inl (refl, refl)
and_cases true false d h = inr h
and_cases false c d h = inr h

-- which disks a filtered range has: those that pass
pub has_true : (p : ℕ → Bool) (a n v : ℕ) → has (filter p (range_with_len a n)) v ≡ true → (a ≤ v) × (v < a + n) × (p v ≡ true)
has_true p a zero v h = absurd (false≢true h)
has_true p a (suc n) v h = elim (and_cases (p a) (eqb a v) (has (filter p (range_with_len (a + 1) n)) v) (sym (has_kept (p a) a (filter p (range_with_len (a + 1) n)) v) ∙ h)) [
  | inl w ↦ (let e = eqb-true a v w.1 in (omega arith, omega arith, ap p (sym e) ∙ w.0))
  | inr w ↦ (let r = has_true p (a + 1) n v w in (omega (arith, r.0), omega (arith, r.1), r.2))
]

pub has_filter : (p : ℕ → Bool) (a n v : ℕ) → a ≤ v → v < a + n → p v ≡ true → has (filter p (range_with_len a n)) v ≡ true
has_filter p a zero v low high pass = absurd (omega (arith, low, high))
has_filter p a (suc n) v low high pass = has_kept (p a) a (filter p (range_with_len (a + 1) n)) v ∙ elim (cases_lt a v) [
  | inl l ↦ or_right (p a && eqb a v) (has (filter p (range_with_len (a + 1) n)) v) (has_filter p (a + 1) n v (omega arith) (omega arith) pass)
  | inr g ↦ (let e : v ≡ a = omega (arith, low, g) in rw (ap p (sym e) ∙ pass) (rw (ap (λ w. eqb a w) e ∙ eq-eqb a a refl) refl))
]

pub bool_same : (b c : Bool) → (b ≡ true → c ≡ true) → (c ≡ true → b ≡ true) → b ≡ c
bool_same true c f g = sym (f refl)
bool_same false true f g = g refl
bool_same false false f g = refl

pub increasing_filter : (p : ℕ → Bool) (a n : ℕ) → AllPairs (λ y z. y < z) (filter p (range_with_len a n))
increasing_filter p a n = AllPairs-filter (λ y z. y < z) p (range_with_len a n) (λ i j d l h.
    let in_list : j < n = omega (arith, h, length-range_with_len a n) in
    omega (arith, l, get_or-range_with_len a n i d (omega (arith, l, in_list)), get_or-range_with_len a n j d in_list))

filled_set : (set : List ℕ) (v : ℕ) → has set v ≡ true → 0 < length set
filled_set [] v h = absurd (false≢true h)
filled_set (x ∷ xs) v h = omega arith

pub has_at : (set : List ℕ) (k d : ℕ) → k < length set → has set (get_or set k d) ≡ true
has_at [] k d h = absurd (omega (arith, h))
has_at (x ∷ xs) zero d h = rw (eq-eqb x x refl) refl
has_at (x ∷ xs) (suc k) d h = or_right (eqb x (get_or xs k d)) (has xs (get_or xs k d)) (has_at xs k d (omega (arith, h)))

-- a label's class is a component
pub IsComponent-class : (graph : Transfers) (labels : List ℕ) (r : ℕ) → AreLabels graph labels → r < length labels → get_or labels r 0 ≡ r → IsTrue (takes_part graph r) → IsComponent graph (class labels r)
IsComponent-class graph labels r a there root part =
    let n = length labels in
    let p : ℕ → Bool = λ v. eqb (get_or labels v 0) r in
    let range = range_with_len 0 n in
    let r_in : p r ≡ true = ap (λ v. eqb v r) root ∙ eq-eqb r r refl in
    record {
      increasing = increasing_filter p 0 n;
      filled = filled_set (class labels r) r (has_filter p 0 n r (omega arith) (omega arith) r_in);
      there = λ k d h.
          let v = get_or (class labels r) k d in
          let low = All-filter p (λ w. w < n) range (range_below n) k d h in
          let is_r = eqb-true (get_or labels v 0) r (filter_passes p range k d h) in
          (omega (arith, low, a.len), elim (a.alone v low) [ inl yes' ↦ yes' | inr alone ↦ (let P : ℕ → Type 0 = λ w. IsTrue (takes_part graph w) in subst P (sym is_r ∙ alone) part) ]);
      closed = λ k d h.
          let t = get_or graph.transfers k d in
          let s = a.shared k d h in
          bool_same (has (class labels r) t.leaves) (has (class labels r) t.reaches)
          (λ e. has_filter p 0 n t.reaches (omega arith) (omega (arith, s.1)) (ap (λ v. eqb v r) (sym s.2) ∙ (has_true p 0 n t.leaves e).2))
          (λ e. has_filter p 0 n t.leaves (omega arith) (omega (arith, s.0)) (ap (λ v. eqb v r) s.2 ∙ (has_true p 0 n t.reaches e).2));
      least = λ part' some inside closed k d h.
          let w = get_or part' 0 0 in
          let w_in = has_true p 0 n w (inside 0 0 some) in
          let has_r : has part' r ≡ true = ap (has part') (sym (eqb-true (get_or labels w 0) r w_in.2)) ∙ sym (a.joined w part' (omega (arith, w_in.1)) closed) ∙ has_at part' 0 0 some in
          let v = get_or (class labels r) k d in
          let low = All-filter p (λ w. w < n) range (range_below n) k d h in
          a.joined v part' low closed ∙ ap (has part') (eqb-true (get_or labels v 0) r (filter_passes p range k d h)) ∙ has_r;
    }

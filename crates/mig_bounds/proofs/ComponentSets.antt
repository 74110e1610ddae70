-- The components are the sets of disks with one label.
use Rattle.mig_bounds.proofs.Common.{AreLabels, Bool, ByComponent, ByDisk, BySide, ByTriple, Candidate, IsBelow, IsBestBelow, IsClosed, IsComponent, IsComponent-class, IsGraph, IsJointCandidate}
use Rattle.mig_bounds.proofs.Common.{IsLabelling, IsSubset, IsTrue, List, Transfers, Transfer, [], ap, arith, bool_same, cases_lt, count_by, eqb, eqb-true, false, false≢true, get_or, get_or-le-sum_by}
use Rattle.mig_bounds.proofs.Common.{has, has_at, has_filter, has_true, inl, inr, inside, is_inside, labelled, length, limit_sum, load, nat_tests, not, one, place, refl, set, slice_get-get_or}
use Rattle.mig_bounds.proofs.Common.{subst, sum_by-same_each, sym, takes_part, touches, true, value, ℕ, ◌%◌, ◌&&◌, ◌+◌, ◌<◌, ◌||◌, ◌∙◌, ◌∷◌, ◌≡◌, ◌≤◌, ◌⊎◌}
use Rattle.mig_bounds.proofs.Steps.{IsBestBelow-moved, IsBestBelow-takes}
use Rattle.mig_bounds.proofs.IncreasingLists.{has_all, has_head, first-le, same_increasing}

-- the disks with a label are those that have it
pub has_labelled : (labels : List ℕ) (r v : ℕ) → v < length labels → has (labelled labels r) v ≡ eqb (get_or labels v 0) r
has_labelled labels r v h =
    let p : ℕ → Bool = λ w. eqb (get_or labels w 0) r in
    bool_same (has (labelled labels r) v) (p v) (λ e. (has_true p 0 (length labels) v e).2) (λ e. has_filter p 0 (length labels) v (omega arith) (omega (arith, h)) e)

shared_at : (graph : Transfers) (labels : List ℕ) (k : ℕ) (d : Transfer) → IsLabelling graph labels (length graph.transfers) → k < length graph.transfers → get_or labels (get_or graph.transfers k d).leaves 0 ≡ get_or labels (get_or graph.transfers k d).reaches 0
shared_at graph labels k d is h = is.shared k (get_or graph.transfers k d) h (slice_get-get_or graph.transfers k d h)

-- the moves between them are those that leave one of them
pub inside_labelled : (graph : Transfers) (labels : List ℕ) (r : ℕ) → IsGraph graph → IsLabelling graph labels (length graph.transfers) → inside (labelled labels r) graph.transfers ≡ count_by (λ t. eqb (get_or labels t.leaves 0) r) graph.transfers
inside_labelled graph labels r valid is = sum_by-same_each (λ t. one (is_inside (labelled labels r) t)) (λ t. one (eqb (get_or labels t.leaves 0) r)) graph.transfers (λ k d h.
    let t = get_or graph.transfers k d in
    let leaves = has_labelled labels r t.leaves (omega (arith, valid.leaves_there k d h, is.len)) in
    let reaches = has_labelled labels r t.reaches (omega (arith, valid.reaches_there k d h, is.len)) ∙ ap (λ l. eqb l r) (sym (shared_at graph labels k d is h)) in
    ap one (both (has (labelled labels r) t.leaves) (has (labelled labels r) t.reaches) (eqb (get_or labels t.leaves 0) r) leaves reaches))
  where
    both : (a b c : Bool) → a ≡ c → b ≡ c → (a && b) ≡ c
    both true b c e f = f
    both false b c e f = e

-- a disk that takes no part is a closed set
lonely_closed : (graph : Transfers) (v : ℕ) → takes_part graph v ≡ false → IsClosed graph (v ∷ [])
lonely_closed graph v lonely k d h =
    let t = get_or graph.transfers k d in
    let none : one (touches v t) ≤ 0 = omega (arith, get_or-le-sum_by (λ (s : Transfer). one (touches v s)) graph.transfers k d h, unloaded (load v graph.transfers) lonely) in
    let ends = untouched (eqb v t.leaves) (eqb v t.reaches) none in
    ap (λ b. b || false) (ends.0 ∙ sym ends.1)
  where
    unloaded : (n : ℕ) → not (eqb n 0) ≡ false → n ≡ 0
    unloaded n h = grind (arith, nat_tests)

    untouched : (a b : Bool) → one (a || b) ≤ 0 → (a ≡ false) × (b ≡ false)
    untouched true b h = absurd (omega (arith, h))
    untouched false true h = absurd (omega (arith, h))
    untouched false false h = (refl, refl)

has_one : (v w : ℕ) → has (v ∷ []) w ≡ true → v ≡ w
has_one v w h = in_test (eqb v w) refl h
  where
    in_test : (b : Bool) → eqb v w ≡ b → (b || false) ≡ true → v ≡ w
    in_test true e t = eqb-true v w e
    in_test false e t = absurd (false≢true t)

pub are_labels : (graph : Transfers) (labels : List ℕ) → IsGraph graph → IsLabelling graph labels (length graph.transfers) → AreLabels graph labels
are_labels graph labels valid is = record {
  len = is.len;
  shared = λ k d h. (omega (arith, valid.leaves_there k d h, is.len), omega (arith, valid.reaches_there k d h, is.len), shared_at graph labels k d is h);
  joined = λ v part h closed. is.alike v part h closed;
  alone = λ v h. by_part v h (takes_part graph v) refl;
}
  where
    by_part : (v : ℕ) → v < length labels → (b : Bool) → takes_part graph v ≡ b → IsTrue (takes_part graph v) ⊎ (get_or labels v 0 ≡ v)
    by_part v h true e = inl e
    by_part v h false e = inr (sym (has_one v (get_or labels v 0) (sym (is.alike v (v ∷ []) h (lonely_closed graph v e)) ∙ has_head v [])))

-- a component is the set of the disks whose label is its least disk
pub record IsLabelled (graph : Transfers) (labels : List ℕ) (set : List ℕ) (r : ℕ) : Type 0 where
  pub there : r < length labels
  pub root : get_or labels r 0 ≡ r
  pub part : IsTrue (takes_part graph r)
  pub same : set ≡ labelled labels r

pub component_labelled : (graph : Transfers) (labels set : List ℕ) → IsGraph graph → IsLabelling graph labels (length graph.transfers) → IsComponent graph set → IsLabelled graph labels set (get_or set 0 0)
component_labelled graph labels [] valid is component = absurd (omega (arith, component.filled))
component_labelled graph labels (w ∷ rest) valid is component =
    let set : List ℕ = w ∷ rest in
    let r = get_or labels w 0 in
    let w_there : w < length labels = omega (arith, (component.there 0 0 component.filled).0, is.len) in
    let r_there : r < length labels = omega (arith, is.least w w_there, w_there) in
    let has_r : has set r ≡ true = sym (is.alike w set w_there component.closed) ∙ has_head w rest in
    let r_part : IsTrue (takes_part graph r) = (has_all (λ v. (v < length graph.disks) × IsTrue (takes_part graph v)) set r component.there has_r).1 in
    let class = IsComponent-class graph labels r (are_labels graph labels valid is) r_there (is.root w w_there) r_part in
    let p : ℕ → Bool = λ v. eqb (get_or labels v 0) r in
    let is_part : IsSubset (labelled labels r) set = λ k d h.
    let v = get_or (labelled labels r) k d in
    let found = has_true p 0 (length labels) v (has_at (labelled labels r) k d h) in
    is.alike v set (omega (arith, found.1)) component.closed ∙ ap (has set) (eqb-true (get_or labels v 0) r found.2) ∙ has_r in
    let w_is : r ≡ w = omega (arith, is.least w w_there, first-le w rest r component.increasing has_r) in
    subst (λ v. IsLabelled graph labels set v) w_is (record {
      there = r_there;
      root = is.root w w_there;
      part = r_part;
      same = same_increasing set (labelled labels r) component.increasing class.increasing (λ v. bool_same (has set v) (has (labelled labels r) v)
          (λ e. has_all (λ x. IsTrue (has (labelled labels r) x)) set v (component.least (labelled labels r) class.filled is_part class.closed) e)
          (λ e. has_all (λ x. IsTrue (has set x)) (labelled labels r) v is_part e));
    })

-- the components below the next place are those below this one, and that of this label
pub below_next_component : (graph : Transfers) (labels : List ℕ) (c : Candidate) (r : ℕ) → IsGraph graph → IsLabelling graph labels (length graph.transfers) → IsJointCandidate graph c → IsBelow (place c) (2 ∷ (r + 1) ∷ [])
    → IsBelow (place c) (2 ∷ r ∷ []) ⊎ ((get_or labels r 0 ≡ r) × IsTrue (takes_part graph r) × (c ≡ ByComponent (labelled labels r)))
below_next_component graph labels (ByDisk v) r valid is cand h = inl (inl (omega arith))
below_next_component graph labels (BySide v side) r valid is cand h = inl (inl (omega arith))
below_next_component graph labels (ByTriple x y z) r valid is cand h = inl (inl (omega arith))
below_next_component graph labels (ByComponent set) r valid is cand h = elim h [
  | inl l ↦ absurd (omega (arith, l))
  | inr t ↦ elim t.1 [
    | inl l ↦ elim (cases_lt (get_or set 0 0) r) [
      | inl lt ↦ inl (inr (t.0, inl lt))
      | inr ge ↦ (let at : get_or set 0 0 ≡ r = omega (arith, l, ge) in
          let found = subst (λ v. IsLabelled graph labels set v) at (component_labelled graph labels set valid is cand.0) in
          inr (found.root, found.part, ap ByComponent found.same))
    ]
    | inr u ↦ absurd u.1
  ]
]

-- the least of the disks of a label is the label
pub first_labelled : (graph : Transfers) (labels : List ℕ) (r : ℕ) → IsGraph graph → IsLabelling graph labels (length graph.transfers) → r < length labels → get_or labels r 0 ≡ r → IsTrue (takes_part graph r) → get_or (labelled labels r) 0 0 ≡ r
first_labelled graph labels r valid is there root part =
    let class = IsComponent-class graph labels r (are_labels graph labels valid is) there root part in
    let found = component_labelled graph labels (labelled labels r) valid is class in
    let w = get_or (labelled labels r) 0 0 in
    let p : ℕ → Bool = λ v. eqb (get_or labels v 0) r in
    let in_class = has_true p 0 (length labels) w (has_at (labelled labels r) 0 0 class.filled) in
    sym found.root ∙ eqb-true (get_or labels w 0) r in_class.2

-- no better component has this label
pub IsBestBelow-keeps_label : (graph : Transfers) (labels : List ℕ) (best : Candidate) (rounds r : ℕ) → IsGraph graph → IsLabelling graph labels (length graph.transfers)
    → (get_or labels r 0 ≡ r → IsTrue (takes_part graph r) → IsJointCandidate graph (ByComponent (labelled labels r)) → value graph (ByComponent (labelled labels r)) ≤ rounds)
    → IsBestBelow graph best rounds (2 ∷ r ∷ []) → IsBestBelow graph best rounds (2 ∷ (r + 1) ∷ [])
IsBestBelow-keeps_label graph labels best rounds r valid is no_better before = IsBestBelow-moved graph best rounds (2 ∷ r ∷ []) (2 ∷ (r + 1) ∷ []) (λ c cand below. elim (below_next_component graph labels c r valid is cand below) [
  | inl old ↦ inl old
  | inr found ↦ inr (let P : Candidate → Type 0 = λ d. IsJointCandidate graph d → value graph d ≤ rounds in subst P (sym found.2) (no_better found.0 found.1) cand)
]) before

-- a better one has
pub IsBestBelow-takes_label : (graph : Transfers) (labels : List ℕ) (best : Candidate) (rounds more r : ℕ) → IsGraph graph → IsLabelling graph labels (length graph.transfers) → r < length labels → get_or labels r 0 ≡ r → IsTrue (takes_part graph r)
    → limit_sum graph (labelled labels r) % 2 ≡ 1 → more ≡ value graph (ByComponent (labelled labels r)) → rounds < more
    → IsBestBelow graph best rounds (2 ∷ r ∷ []) → IsBestBelow graph (ByComponent (labelled labels r)) more (2 ∷ (r + 1) ∷ [])
IsBestBelow-takes_label graph labels best rounds more r valid is there root part odd value_is better before =
    IsBestBelow-takes graph best (ByComponent (labelled labels r)) rounds more (2 ∷ r ∷ []) (2 ∷ (r + 1) ∷ [])
    (IsComponent-class graph labels r (are_labels graph labels valid is) there root part, odd)
    value_is
    better
    (λ c cand below. elim (below_next_component graph labels c r valid is cand below) [ inl old ↦ inl old | inr found ↦ inr found.2 ])
    (λ c below. subst (λ v. IsBelow (place c) (2 ∷ v ∷ [])) (first_labelled graph labels r valid is there root part) below)
    before

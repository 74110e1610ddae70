-- What `follow` keeps.
use Rattle.mig_euler.proofs.Common.{AllInRange, AllPassed, Bool, DiskId, EdgeId, IsTrail, IsWaiting, List, None, Option, PassedBelow, Some, [], ap, arith, bit, cases_eq, false, get_or}
use Rattle.mig_euler.proofs.Common.{get_or-set_other, get_or-set_same, inl, inr, is, length, length-set, ne_eqb, none-some, pair_head, pair_tail, refl, same_Some, same_disk, set, slice_get}
use Rattle.mig_euler.proofs.Common.{slice_get-get_or, slice_get-set_other, slice_get_within, some_pair_parts, subst, suc, sym, total, true, waits, zero, ℕ, ◌<◌, ◌∙◌, ◌∷◌, ◌≡◌, ◌≢◌, ◌≤◌, ◌⊎◌}
use Rattle.mig_euler.proofs.Trail.{IsTrail-more, total-set}

plain_not_set : (ds : List (Option Bool)) (i : ℕ) (d : Bool) → slice_get (set ds i (Some d)) i ≡ Some None → ⊥
plain_not_set [] i d h = none-some None h
plain_not_set (x ∷ ds) zero d h = none-some d (sym (same_Some (Some d) None h))
plain_not_set (x ∷ ds) (suc i) d h = plain_not_set ds i d h

-- how many edges wait
abbrev pub counted : DiskId × DiskId → Option Bool → ℕ
counted p None = 1
counted p (Some d) = 0

abbrev pub waiting : List (DiskId × DiskId) → List (Option Bool) → ℕ
waiting ends ds = total counted ends ds

pub record IsFollowing (ends : List (DiskId × DiskId)) (old now : List (Option Bool)) (from : List ℕ) (s at : DiskId) : Type 0 where
  pub trail : IsTrail ends old now s at
  pub passed : AllPassed ends now from
  pub in_range : at.0 < length from

pub waiting_falls : (ends : List (DiskId × DiskId)) (ds : List (Option Bool)) (i : ℕ) (p : DiskId × DiskId) (d : Bool) → slice_get ends i ≡ Some p → slice_get ds i ≡ Some None → waiting ends (set ds i (Some d)) < waiting ends ds
waiting_falls ends ds i p d hp hd = omega (arith, total-set counted ends ds i p None (Some d) hp hd)

-- where every edge has been passed, none waits
total-zero : (v : DiskId) (ps : List (DiskId × DiskId)) (ds : List (Option Bool)) → ((i : ℕ) (p : DiskId × DiskId) → slice_get ps i ≡ Some p → slice_get ds i ≡ Some None → (p.0 ≢ v) × (p.1 ≢ v)) → total (waits v) ps ds ≡ 0
total-zero v [] ds h = refl
total-zero v (p ∷ ps) [] h = refl
total-zero v (p ∷ ps) (Some d ∷ ds) h = omega (arith, total-zero v ps ds (λ i q hp hd. h (suc i) q hp hd))
total-zero v (p ∷ ps) (None ∷ ds) h =
    let here = h 0 p refl refl in
    let one : is v p.0 ≡ 0 = ap bit (ne_eqb p.0.0 v.0 (λ e. here.0 (same_disk p.0 v e))) in
    let two : is v p.1 ≡ 0 = ap bit (ne_eqb p.1.0 v.0 (λ e. here.1 (same_disk p.1 v e))) in
    omega (arith, one, two, total-zero v ps ds (λ i q hp hd. h (suc i) q hp hd))

-- a direction given leaves passed what was passed
pub AllPassed-set : (ends : List (DiskId × DiskId)) (ds : List (Option Bool)) (from : List ℕ) (i : ℕ) (d : Bool) → AllPassed ends ds from → AllPassed ends (set ds i (Some d)) from
AllPassed-set ends ds from i d a =
    record {
      bound = a.bound;
      passed = λ v e h w. a.passed v e h (record { plain = still e w.plain; at = w.at });
    }
  where
    still : (e : EdgeId) → slice_get (set ds i (Some d)) e.0 ≡ Some None → slice_get ds e.0 ≡ Some None
    still e h = elim (cases_eq e.0 i) [
      | inl s ↦ absurd (plain_not_set ds i d (subst (λ n. slice_get (set ds i (Some d)) n ≡ Some None) s h))
      | inr n ↦ sym (slice_get-set_other ds i e.0 (Some d) n) ∙ h
    ]

-- where all places are passed, none waits
pub none_waits : (ends : List (DiskId × DiskId)) (ds : List (Option Bool)) (v : DiskId) (n : ℕ) → length ends ≤ n → PassedBelow ends ds v n → total (waits v) ends ds ≡ 0
none_waits ends ds v n h passed =
    total-zero v ends ds (λ i p hp hd. (
      (λ e. passed (record { 0 = i }) (omega (arith, h, slice_get_within ends i p hp)) (record { plain = hd; at = (p.1, inl (hp ∙ ap (λ (q : DiskId). Some (q, p.1)) e)) })),
      (λ e. passed (record { 0 = i }) (omega (arith, h, slice_get_within ends i p hp)) (record { plain = hd; at = (p.0, inr (hp ∙ ap (λ (q : DiskId). Some (p.0, q)) e)) })),
    ))

-- the place of one disk moves on
pub AllPassed-moved : (ends : List (DiskId × DiskId)) (ds : List (Option Bool)) (from : List ℕ) (v : DiskId) (n : ℕ) → v.0 < length from → AllPassed ends ds from → n ≤ length ends → PassedBelow ends ds v n → AllPassed ends ds (set from v.0 n)
AllPassed-moved ends ds from v n within a bound passed =
    record {
      bound = λ w. elim (cases_eq w.0 v.0) [
        | inl s ↦ subst (λ m. get_or (set from v.0 n) m 0 ≤ length ends) (sym s) (subst (λ m. m ≤ length ends) (sym (get_or-set_same from v.0 n 0 within)) bound)
        | inr o ↦ subst (λ m. m ≤ length ends) (sym (get_or-set_other from v.0 w.0 n 0 o)) (a.bound w)
      ];
      passed = λ w. elim (cases_eq w.0 v.0) [
        | inl s ↦ subst (λ (q : DiskId). PassedBelow ends ds q (get_or (set from v.0 n) q.0 0)) (same_disk v w (sym s)) (subst (λ m. PassedBelow ends ds v m) (sym (get_or-set_same from v.0 n 0 within)) passed)
        | inr o ↦ subst (λ m. PassedBelow ends ds w m) (sym (get_or-set_other from v.0 w.0 n 0 o)) (a.passed w)
      ];
    }

-- an edge that waits at a disk has it as an end
pub waits_end : (ends : List (DiskId × DiskId)) (ds : List (Option Bool)) (v : DiskId) (i : ℕ) (p : DiskId × DiskId) → i < length ends → IsWaiting ends ds v (record { 0 = i }) → ((get_or ends i p).0 ≡ v) ⊎ ((get_or ends i p).1 ≡ v)
waits_end ends ds v i p h w =
    let row : slice_get ends i ≡ Some (get_or ends i p) = slice_get-get_or ends i p h in
    elim w.at.1 [
      | inl x ↦ inl (some_pair_parts (get_or ends i p).0 v (get_or ends i p).1 w.at.0 (sym row ∙ x)).0
      | inr x ↦ inr (some_pair_parts (get_or ends i p).0 w.at.0 (get_or ends i p).1 v (sym row ∙ x)).1
    ]

head_in_range : (ends : List (DiskId × DiskId)) (n : ℕ) → AllInRange ends n → (i : ℕ) (p : DiskId × DiskId) (d : Bool) (w : DiskId) → slice_get ends i ≡ Some p → pair_head p d ≡ w → w.0 < n
head_in_range ends n h i p true w row is_w = subst (λ (q : DiskId). q.0 < n) is_w (h (record { 0 = i }) p row).1
head_in_range ends n h i p false w row is_w = subst (λ (q : DiskId). q.0 < n) is_w (h (record { 0 = i }) p row).0

pub following_more : (ends : List (DiskId × DiskId)) (old now : List (Option Bool)) (from : List ℕ) (s at w : DiskId) → AllInRange ends (length from) → IsFollowing ends old now from s at → (i : ℕ) (p : DiskId × DiskId) (d : Bool) → i < length ends → PassedBelow ends now at i → IsWaiting ends now at (record { 0 = i }) → pair_tail (get_or ends i p) d ≡ at → pair_head (get_or ends i p) d ≡ w →
    IsFollowing ends old (set now i (Some d)) (set from at.0 i) s w
following_more ends old now from s at w range x i p d h passed waits ht hw =
    let row : slice_get ends i ≡ Some (get_or ends i p) = slice_get-get_or ends i p h in
    record {
      trail = IsTrail-more ends old now s at w x.trail i (get_or ends i p) d row waits.plain ht hw;
      passed = AllPassed-set ends now (set from at.0 i) i d (AllPassed-moved ends now from at i x.in_range x.passed (omega arith) passed);
      in_range = subst (λ m. w.0 < m) (sym (length-set from at.0 i)) (head_in_range ends (length from) range i (get_or ends i p) d w row hw);
    }

pub follow_falls : (ends : List (DiskId × DiskId)) (now : List (Option Bool)) (v : DiskId) (i : ℕ) (p : DiskId × DiskId) (d : Bool) → i < length ends → IsWaiting ends now v (record { 0 = i }) → waiting ends (set now i (Some d)) < waiting ends now
follow_falls ends now v i p d h waits = waiting_falls ends now i (get_or ends i p) d (slice_get-get_or ends i p h) waits.plain

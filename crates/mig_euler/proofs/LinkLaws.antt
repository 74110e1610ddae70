-- Going from an edge of a disk to its next one.
use Rattle.mig_euler.proofs.Common.{AllInRange, AllPassed, AreFirst, AreLinksFrom, Bool, DiskId, EdgeId, IsNextAt, IsWaiting, List, None, Option, PassedBelow, Some, ap, arith, cases_eq, cases_lt}
use Rattle.mig_euler.proofs.Common.{get_or, get_or-set_other, get_or-set_same, get_or_past, inl, inr, length, length-set, link_at, pair_at, same_Some, same_edge, set, slice_get, slice_get-get_or}
use Rattle.mig_euler.proofs.Common.{slice_get_within, subst, suc, sym, take, total, waits, zero, ℕ, ◌+◌, ◌-◌, ◌<◌, ◌∙◌, ◌≡◌, ◌≢◌, ◌≤◌}
use Rattle.mig_euler.proofs.Waiting.{waits_found}
use Rattle.mig_euler.proofs.Odd.{total_take, waits_zero}

at_pair : (ends : List (DiskId × DiskId)) (e : ℕ) (p : DiskId × DiskId) → slice_get ends e ≡ Some p → pair_at ends e ≡ p
at_pair ends e p row = same_Some (pair_at ends e) p (sym (slice_get-get_or ends e (record { 0 = 0 }, record { 0 = 0 }) (slice_get_within ends e p row)) ∙ row)

not_waiting : (ends : List (DiskId × DiskId)) (ds : List (Option Bool)) (v : DiskId) (e : EdgeId) → ((pair_at ends e.0).0 ≢ v) × ((pair_at ends e.0).1 ≢ v) → IsWaiting ends ds v e → ⊥
not_waiting ends ds v e away w = elim w.at.1 [
  | inl row ↦ away.0 (ap (λ (p : DiskId × DiskId). p.0) (at_pair ends e.0 (v, w.at.0) row))
  | inr row ↦ away.1 (ap (λ (p : DiskId × DiskId). p.1) (at_pair ends e.0 (w.at.0, v) row))
]

pub PassedBelow-next : (ends : List (DiskId × DiskId)) (ds : List (Option Bool)) (v : DiskId) (i n : ℕ) → PassedBelow ends ds v i → (IsWaiting ends ds v (record { 0 = i }) → ⊥) → IsNextAt ends v (i + 1) n → PassedBelow ends ds v n
PassedBelow-next ends ds v i n below here x e h w =
    elim (cases_lt e.0 i) [
      | inl lt ↦ below e lt w
      | inr ge ↦ elim (cases_eq e.0 i) [
        | inl s ↦ here (subst (λ (q : EdgeId). IsWaiting ends ds v q) (same_edge e (record { 0 = i }) s) w)
        | inr ne ↦ not_waiting ends ds v e (x.none e.0 (omega (arith, ge, ne)) h) w
      ]
    ]

-- edges that do not wait add nothing
skip : (v : DiskId) (ps : List (DiskId × DiskId)) (ds : List (Option Bool)) (d : Option Bool) (a k : ℕ) → length ds ≡ length ps → a + k ≤ length ps → ((j : ℕ) → a ≤ j → j < a + k → waits v (pair_at ps j) (get_or ds j d) ≡ 0) → total (waits v) (take (a + k) ps) (take (a + k) ds) ≡ total (waits v) (take a ps) (take a ds)
skip v ps ds d a zero len within none = let e : a + 0 ≡ a = omega arith in ap (λ n. total (waits v) (take n ps) (take n ds)) e
skip v ps ds d a (suc k) len within none =
    let e : a + suc k ≡ suc (a + k) = omega arith in
    ap (λ n. total (waits v) (take n ps) (take n ds)) e ∙ omega (arith, total_take (waits v) ps ds (a + k) (record { 0 = 0 }, record { 0 = 0 }) d (omega arith) (omega arith), none (a + k) (omega arith) (omega arith), skip v ps ds d a k len (omega arith) (λ j l h. none j l (omega arith)))

skip_to : (v : DiskId) (ps : List (DiskId × DiskId)) (ds : List (Option Bool)) (d : Option Bool) (a n : ℕ) → length ds ≡ length ps → a ≤ n → n ≤ length ps → ((j : ℕ) → a ≤ j → j < n → waits v (pair_at ps j) (get_or ds j d) ≡ 0) → total (waits v) (take n ps) (take n ds) ≡ total (waits v) (take a ps) (take a ds)
skip_to v ps ds d a n len l within none =
    let e : a + (n - a) ≡ n = omega arith in
    ap (λ m. total (waits v) (take m ps) (take m ds)) (sym e) ∙ skip v ps ds d a (n - a) len (omega arith) (λ j g h. none j g (omega (arith, h)))

pub total-next : (v : DiskId) (ps : List (DiskId × DiskId)) (ds : List (Option Bool)) (i n : ℕ) → length ds ≡ length ps → IsNextAt ps v (i + 1) n → total (waits v) (take n ps) (take n ds) ≡ total (waits v) (take (i + 1) ps) (take (i + 1) ds)
total-next v ps ds i n len x =
    skip_to v ps ds None (i + 1) n len x.from x.within (λ j g h. waits_zero v (pair_at ps j) (get_or ds j None) (λ w. elim w.1 [ inl e ↦ (x.none j g h).0 e | inr e ↦ (x.none j g h).1 e ]))

pub total-passed : (v : DiskId) (ps : List (DiskId × DiskId)) (ds : List (Option Bool)) (n : ℕ) → length ds ≡ length ps → n ≤ length ps → PassedBelow ps ds v n → total (waits v) (take n ps) (take n ds) ≡ 0
total-passed v ps ds n len within passed =
    skip_to v ps ds None 0 n len (omega arith) within (λ j g h. waits_zero v (pair_at ps j) (get_or ds j None) (λ w. passed (record { 0 = j }) h (waits_found ps ds v j (record { 0 = 0 }, record { 0 = 0 }) None (omega (arith, h, within)) len w)))

-- ---- the links, from the last edge to the first

next_here : (ends : List (DiskId × DiskId)) (v : DiskId) (k : ℕ) → k < length ends → IsNextAt ends v k k
next_here ends v k h = record { from = omega arith; within = omega (arith, h); none = λ j l m. absurd (omega (arith, l, m)) }

pub first_more : (ends : List (DiskId × DiskId)) (first : List ℕ) (k : ℕ) → k < length ends → AreFirst ends (k + 1) first → AreFirst ends k (set (set first (pair_at ends k).0.0 k) (pair_at ends k).1.0 k)
first_more ends first k h a v hv =
    let p = pair_at ends k in
    let mid = set first p.0.0 k in
    let len = length-set mid p.1.0 k in
    let len' = length-set first p.0.0 k in
    elim (cases_eq v.0 p.1.0) [
      | inl e ↦ subst (λ m. IsNextAt ends v k m) (sym (ap (λ m. get_or (set mid p.1.0 k) m 0) e ∙ get_or-set_same mid p.1.0 k 0 (omega (arith, hv, len, e)))) (next_here ends v k h)
      | inr ne ↦ subst (λ m. IsNextAt ends v k m) (sym (get_or-set_other mid p.1.0 v.0 k 0 ne)) (elim (cases_eq v.0 p.0.0) [
        | inl e ↦ subst (λ m. IsNextAt ends v k m) (sym (ap (λ m. get_or mid m 0) e ∙ get_or-set_same first p.0.0 k 0 (omega (arith, hv, len, len', e)))) (next_here ends v k h)
        | inr off ↦ subst (λ m. IsNextAt ends v k m) (sym (get_or-set_other first p.0.0 v.0 k 0 off))
            (let x = a v (omega (arith, hv, len, len')) in
            record {
              from = omega (arith, x.from);
              within = x.within;
              none = λ j l m. elim (cases_eq j k) [
                | inl s ↦ ((λ e. off (ap (λ (q : DiskId). q.0) (sym e) ∙ ap (λ n. (pair_at ends n).0.0) s)), (λ e. ne (ap (λ (q : DiskId). q.0) (sym e) ∙ ap (λ n. (pair_at ends n).1.0) s)))
                | inr o ↦ x.none j (omega (arith, l, o)) m
              ];
            })
      ])
    ]

pub links_more : (ends : List (DiskId × DiskId)) (links : List (ℕ × ℕ)) (first : List ℕ) (k : ℕ) (n : ℕ × ℕ) → k < length ends → AllInRange ends (length first) → n.0 ≡ get_or first (pair_at ends k).0.0 0 → n.1 ≡ get_or first (pair_at ends k).1.0 0 → AreFirst ends (k + 1) first → AreLinksFrom ends (k + 1) links → AreLinksFrom ends k (set links k n)
links_more ends links first k n h range is_one is_two f a =
    let p = pair_at ends k in
    let row = slice_get-get_or ends k (record { 0 = 0 }, record { 0 = 0 }) h in
    let there = range (record { 0 = k }) p row in
    record {
      len = length-set links k n ∙ a.len;
      first = λ e l m. elim (cases_eq e k) [
        | inl s ↦ subst (λ i. IsNextAt ends (pair_at ends i).0 (i + 1) (link_at (set links k n) i).0) (sym s) (subst (λ (q : ℕ × ℕ). IsNextAt ends p.0 (k + 1) q.0) (sym (get_or-set_same links k n (0, 0) (omega (arith, h, a.len)))) (subst (λ i. IsNextAt ends p.0 (k + 1) i) (sym is_one) (f p.0 there.0)))
        | inr ne ↦ subst (λ (q : ℕ × ℕ). IsNextAt ends (pair_at ends e).0 (e + 1) q.0) (sym (get_or-set_other links k e n (0, 0) ne)) (a.first e (omega (arith, l, ne)) m)
      ];
      second = λ e l m. elim (cases_eq e k) [
        | inl s ↦ subst (λ i. IsNextAt ends (pair_at ends i).1 (i + 1) (link_at (set links k n) i).1) (sym s) (subst (λ (q : ℕ × ℕ). IsNextAt ends p.1 (k + 1) q.1) (sym (get_or-set_same links k n (0, 0) (omega (arith, h, a.len)))) (subst (λ i. IsNextAt ends p.1 (k + 1) i) (sym is_two) (f p.1 there.1)))
        | inr ne ↦ subst (λ (q : ℕ × ℕ). IsNextAt ends (pair_at ends e).1 (e + 1) q.1) (sym (get_or-set_other links k e n (0, 0) ne)) (a.second e (omega (arith, l, ne)) m)
      ];
    }

pub passed_first : (ends : List (DiskId × DiskId)) (ds : List (Option Bool)) (first : List ℕ) → AreFirst ends 0 first → AllPassed ends ds first
passed_first ends ds first a =
    record {
      bound = λ v. elim (cases_lt v.0 (length first)) [ inl l ↦ (a v l).within | inr l ↦ omega (arith, get_or_past first v.0 0 l) ];
      passed = λ v e h w. elim (cases_lt v.0 (length first)) [ inl l ↦ not_waiting ends ds v e ((a v l).none e.0 (omega arith) h) w | inr l ↦ absurd (omega (arith, h, get_or_past first v.0 0 l)) ];
    }

pub ends_in : (ends : List (DiskId × DiskId)) (n k : ℕ) → AllInRange ends n → k < length ends → ((pair_at ends k).0.0 < n) × ((pair_at ends k).1.0 < n)
ends_in ends n k range h = range (record { 0 = k }) (pair_at ends k) (slice_get-get_or ends k (record { 0 = 0 }, record { 0 = 0 }) h)

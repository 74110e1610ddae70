-- Trails that direct edges one after the other.
use Rattle.mig_euler.proofs.Common.{Bool, DiskId, IsBalanced, IsTrail, List, None, Option, Some, [], ap, arith, bit, cases_eq, enters, eq-eqb, false, inl, inr, is, leaves, length-set, ne_eqb}
use Rattle.mig_euler.proofs.Common.{none-some, pair_head, pair_tail, refl, same_Some, same_disk, set, slice_get, suc, sym, total, true, waits, zero, ℕ, ◌%◌, ◌+◌, ◌∙◌, ◌∷◌, ◌≡◌, ◌≢◌, ◌≤◌, ◌⊎◌}

-- a total after one direction is set
pub total-set : (f : DiskId × DiskId → Option Bool → ℕ) (ps : List (DiskId × DiskId)) (ds : List (Option Bool)) (i : ℕ) (p : DiskId × DiskId) (d e : Option Bool) → slice_get ps i ≡ Some p → slice_get ds i ≡ Some d → total f ps (set ds i e) + f p d ≡ total f ps ds + f p e
total-set f [] ds i p d e hp hd = absurd (none-some p hp)
total-set f (q ∷ ps) [] i p d e hp hd = absurd (none-some d hd)
total-set f (q ∷ ps) (c ∷ ds) zero p d e hp hd =
    let one : f q e ≡ f p e = ap (λ r. f r e) (same_Some q p hp) in
    let two : f q c ≡ f p d = ap (λ r. f r c) (same_Some q p hp) ∙ ap (λ r. f p r) (same_Some c d hd) in
    omega (arith, one, two)
total-set f (q ∷ ps) (c ∷ ds) (suc i) p d e hp hd = omega (arith, total-set f ps ds i p d e hp hd)

-- the edge at i leads from t to w
pub IsTrail-more : (ps : List (DiskId × DiskId)) (old now : List (Option Bool)) (s t w : DiskId) → IsTrail ps old now s t → (i : ℕ) (p : DiskId × DiskId) (d : Bool) → slice_get ps i ≡ Some p → slice_get now i ≡ Some None → pair_tail p d ≡ t → pair_head p d ≡ w → IsTrail ps old (set now i (Some d)) s w
IsTrail-more ps old now s t w x i p d hp hd ht hw =
    record {
      len = length-set now i (Some d) ∙ x.len;
      flow = λ v. (
          let a = total-set (leaves v) ps now i p None (Some d) hp hd in
          let b = total-set (enters v) ps now i p None (Some d) hp hd in
          let c : is v (pair_tail p d) ≡ is v t = ap (is v) ht in
          let e : is v (pair_head p d) ≡ is v w = ap (is v) hw in
          omega (arith, a, b, c, e, x.flow v));
      parity = λ v. (
          let a = total-set (waits v) ps now i p None (Some d) hp hd in
          let c : is v (pair_tail p d) ≡ is v t = ap (is v) ht in
          let e : is v (pair_head p d) ≡ is v w = ap (is v) hw in
          omega (arith, a, c, e, both v p d, x.parity v));
      fewer = λ v. (let a = total-set (waits v) ps now i p None (Some d) hp hd in omega (arith, a, x.fewer v));
    }
  where
    both : (v : DiskId) (p : DiskId × DiskId) (d : Bool) → is v p.0 + is v p.1 ≡ is v (pair_tail p d) + is v (pair_head p d)
    both v p true = refl
    both v p false = omega arith

-- ---- between the trails

is_cases : (v w : DiskId) → ((v ≡ w) × (is v w ≡ 1)) ⊎ ((v ≢ w) × (is v w ≡ 0))
is_cases v w =
    elim (cases_eq w.0 v.0) [
      | inl h ↦ inl (same_disk v w (sym h), ap bit (eq-eqb w.0 v.0 h))
      | inr h ↦ inr ((λ e. h (ap (λ (q : DiskId). q.0) (sym e))), ap bit (ne_eqb w.0 v.0 h))
    ]

-- the facts at one disk
pub record IsEvenAt (ps : List (DiskId × DiskId)) (ds : List (Option Bool)) (v : DiskId) : Type 0 where
  pub out_most : total (leaves v) ps ds ≤ total (enters v) ps ds + 1
  pub in_most : total (enters v) ps ds ≤ total (leaves v) ps ds + 1
  pub odd : total (waits v) ps ds % 2 ≡ 1 → total (leaves v) ps ds ≡ total (enters v) ps ds

even_at : (ps : List (DiskId × DiskId)) (old now : List (Option Bool)) (s t v : DiskId) → IsBalanced ps old → IsTrail ps old now s t → total (waits t) ps now ≡ 0 → (total (waits s) ps old % 2 ≡ 1) ⊎ ((v : DiskId) → total (waits v) ps old % 2 ≡ 0) → IsEvenAt ps now v
even_at ps old now s t v e x stuck which =
    elim (is_cases s t) [
      | inl same ↦
          (let one : is v s ≡ is v t = ap (is v) same.0 in
          record {
            out_most = omega (arith, x.flow v, e.out_most v, e.in_most v, one);
            in_most = omega (arith, x.flow v, e.out_most v, e.in_most v, one);
            odd = λ h. (let same_parity : total (waits v) ps old % 2 ≡ 1 = omega (arith, h, one, x.parity v) in omega (arith, x.flow v, one, e.odd v same_parity));
          })
      | inr differ ↦
          (let at_t : is t t ≡ 1 = elim (is_cases t t) [ inl a ↦ a.1 | inr a ↦ absurd (a.0 refl) ] in
          let not_s : is t s ≡ 0 = elim (is_cases t s) [ inl a ↦ absurd (differ.0 (sym a.0)) | inr a ↦ a.1 ] in
          let odd_t : total (waits t) ps old % 2 ≡ 1 = omega (arith, x.parity t, stuck, at_t, not_s) in
          let odd_s : total (waits s) ps old % 2 ≡ 1 = elim which [ inl h ↦ h | inr h ↦ absurd (omega (arith, h t, odd_t)) ] in
          elim (is_cases v t) [
            | inl a ↦
                (let is_s : is v s ≡ 0 = ap (λ (q : DiskId). is q s) a.0 ∙ not_s in
                let old_v : total (leaves v) ps old ≡ total (enters v) ps old = e.odd v (ap (λ (q : DiskId). total (waits q) ps old % 2) a.0 ∙ odd_t) in
                let none : total (waits v) ps now ≡ 0 = ap (λ (q : DiskId). total (waits q) ps now) a.0 ∙ stuck in
                record {
                  out_most = omega (arith, x.flow v, old_v, is_s, a.1);
                  in_most = omega (arith, x.flow v, old_v, is_s, a.1);
                  odd = λ h. absurd (omega (arith, h, none));
                })
            | inr a ↦ elim (is_cases v s) [
              | inl b ↦
                  (let old_parity : total (waits v) ps old % 2 ≡ 1 = ap (λ (q : DiskId). total (waits q) ps old % 2) b.0 ∙ odd_s in
                  let old_v : total (leaves v) ps old ≡ total (enters v) ps old = e.odd v old_parity in
                  record {
                    out_most = omega (arith, x.flow v, old_v, a.1, b.1);
                    in_most = omega (arith, x.flow v, old_v, a.1, b.1);
                    odd = λ h. absurd (omega (arith, h, x.parity v, old_parity, a.1, b.1));
                  })
              | inr b ↦
                  record {
                    out_most = omega (arith, x.flow v, e.out_most v, e.in_most v, a.1, b.1);
                    in_most = omega (arith, x.flow v, e.out_most v, e.in_most v, a.1, b.1);
                    odd = λ h. (let same_parity : total (waits v) ps old % 2 ≡ 1 = omega (arith, h, a.1, b.1, x.parity v) in omega (arith, x.flow v, a.1, b.1, e.odd v same_parity));
                  }
            ]
          ])
    ]

-- a trail that ends where no edge waits keeps this, if it began at a disk where an odd number waits, or there is none
pub IsBalanced-trail : (ps : List (DiskId × DiskId)) (old now : List (Option Bool)) (s t : DiskId) → IsBalanced ps old → IsTrail ps old now s t → total (waits t) ps now ≡ 0 → (total (waits s) ps old % 2 ≡ 1) ⊎ ((v : DiskId) → total (waits v) ps old % 2 ≡ 0) → IsBalanced ps now
IsBalanced-trail ps old now s t e x stuck which =
    record {
      out_most = λ v. (even_at ps old now s t v e x stuck which).out_most;
      in_most = λ v. (even_at ps old now s t v e x stuck which).in_most;
      odd = λ v. (even_at ps old now s t v e x stuck which).odd;
    }

-- where an even number waits, an even number waits after the trail
pub even_kept : (ps : List (DiskId × DiskId)) (old now : List (Option Bool)) (s t v : DiskId) → IsTrail ps old now s t → total (waits t) ps now ≡ 0 → total (waits v) ps old % 2 ≡ 0 → (total (waits s) ps old % 2 ≡ 1) ⊎ ((v : DiskId) → total (waits v) ps old % 2 ≡ 0) → total (waits v) ps now % 2 ≡ 0
even_kept ps old now s t v x stuck even which =
    elim (is_cases v t) [
      | inl a ↦ omega (arith, ap (λ (q : DiskId). total (waits q) ps now) a.0, stuck)
      | inr a ↦ elim (is_cases v s) [
        | inl b ↦
            (let at_s : total (waits v) ps old ≡ total (waits s) ps old = ap (λ (q : DiskId). total (waits q) ps old) b.0 in
            let ts : is t s ≡ 0 = elim (is_cases t s) [ inl c ↦ absurd (a.0 (b.0 ∙ sym c.0)) | inr c ↦ c.1 ] in
            let tt' : is t t ≡ 1 = elim (is_cases t t) [ inl c ↦ c.1 | inr c ↦ absurd (c.0 refl) ] in
            elim which [
              | inl h ↦ absurd (omega (arith, h, even, at_s))
              | inr h ↦ absurd (omega (arith, h t, x.parity t, stuck, ts, tt'))
            ])
        | inr b ↦ omega (arith, x.parity v, even, a.1, b.1)
      ]
    ]

-- where the trail began with an odd number waiting, an even number waits after it
pub odd_ended : (ps : List (DiskId × DiskId)) (old now : List (Option Bool)) (s t : DiskId) → IsTrail ps old now s t → total (waits t) ps now ≡ 0 → total (waits s) ps old % 2 ≡ 1 → total (waits s) ps now % 2 ≡ 0
odd_ended ps old now s t x stuck odd =
    elim (is_cases s t) [
      | inl a ↦ omega (arith, ap (λ (q : DiskId). total (waits q) ps now) a.0, stuck)
      | inr a ↦ (let ss : is s s ≡ 1 = elim (is_cases s s) [ inl c ↦ c.1 | inr c ↦ absurd (c.0 refl) ] in omega (arith, x.parity s, odd, a.1, ss))
    ]

-- ---- before and after

pub IsBalanced-none : (ps : List (DiskId × DiskId)) (ds : List (Option Bool)) → ((v : DiskId) → (total (leaves v) ps ds ≡ 0) × (total (enters v) ps ds ≡ 0)) → IsBalanced ps ds
IsBalanced-none ps ds h = record { out_most = λ v. omega (arith, (h v).0); in_most = λ v. omega (arith, (h v).1); odd = λ v m. (h v).0 ∙ sym (h v).1 }

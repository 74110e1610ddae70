-- All edges directed.
use Rattle.mig_euler.proofs.Common.{AllInRange, AllPassed, Bool, DiskId, EndsTrail, IsBalanced, IsBalancedSoFar, List, None, Option, Some, [], ap}
use Rattle.mig_euler.proofs.Common.{arith, bit, cases_eq, cases_lt, cond, enters, eq-eqb, eqb, false, inl, inr, is, leaves, length, length-replicate}
use Rattle.mig_euler.proofs.Common.{map, ne_eqb, pair_head, pair_tail, pair_transfer, points_forward, refl, replicate, same_disk, subst, suc}
use Rattle.mig_euler.proofs.Common.{sum_by-cons, sym, total, true, waits, zero, ℕ, ◌%◌, ◌+◌, ◌<◌, ◌∙◌, ◌∷◌, ◌≡◌, ◌≤◌, ◌⊎◌}
use Rattle.mig_base.specs.Directions as base
use Rattle.mig_euler.proofs.Trail.{IsBalanced-trail, even_kept, odd_ended, IsBalanced-none}

-- ---- where no edge waits anywhere, the counts are those of the directions

same_tail : (p : DiskId × DiskId) (d : Bool) → base.tail_of (pair_transfer p) d ≡ (pair_tail p d).0
same_tail p true = refl
same_tail p false = refl

same_head : (p : DiskId × DiskId) (d : Bool) → base.head_of (pair_transfer p) d ≡ (pair_head p d).0
same_head p true = refl
same_head p false = refl

itself : (w : DiskId) → is w w ≡ 1
itself w = ap bit (eq-eqb w.0 w.0 refl)

out_is : (v : DiskId) (ps : List (DiskId × DiskId)) (ds : List (Option Bool)) → ((w : DiskId) → total (waits w) ps ds ≡ 0) → length ds ≡ length ps → base.out_of (map pair_transfer ps) (map points_forward ds) v.0 ≡ total (leaves v) ps ds
out_is v [] ds h len = refl
out_is v (p ∷ ps) [] h len = refl
out_is v (p ∷ ps) (Some d ∷ ds) h len =
    omega (
      arith,
      sum_by-cons (λ n. cond (eqb n v.0) 1 0) (base.tail_of (pair_transfer p) d) (base.tails (map pair_transfer ps) (map points_forward ds)),
      ap {B = ℕ} (λ n. cond (eqb n v.0) 1 0) (same_tail p d),
      out_is v ps ds (λ w. omega (arith, h w)) (omega arith),
    )
out_is v (p ∷ ps) (None ∷ ds) h len = absurd (omega (arith, h p.0, itself p.0))

in_is : (v : DiskId) (ps : List (DiskId × DiskId)) (ds : List (Option Bool)) → ((w : DiskId) → total (waits w) ps ds ≡ 0) → length ds ≡ length ps → base.in_of (map pair_transfer ps) (map points_forward ds) v.0 ≡ total (enters v) ps ds
in_is v [] ds h len = refl
in_is v (p ∷ ps) [] h len = refl
in_is v (p ∷ ps) (Some d ∷ ds) h len =
    omega (
      arith,
      sum_by-cons (λ n. cond (eqb n v.0) 1 0) (base.head_of (pair_transfer p) d) (base.heads (map pair_transfer ps) (map points_forward ds)),
      ap {B = ℕ} (λ n. cond (eqb n v.0) 1 0) (same_head p d),
      in_is v ps ds (λ w. omega (arith, h w)) (omega arith),
    )
in_is v (p ∷ ps) (None ∷ ds) h len = absurd (omega (arith, h p.0, itself p.0))

Balances-settled : (ps : List (DiskId × DiskId)) (ds : List (Option Bool)) → IsBalanced ps ds → ((w : DiskId) → total (waits w) ps ds ≡ 0) → length ds ≡ length ps → base.Balances (map pair_transfer ps) (map points_forward ds)
Balances-settled ps ds e h len =
    record {
      out_most = λ v. (let d : DiskId = record { 0 = v } in omega (arith, out_is d ps ds h len, in_is d ps ds h len, e.out_most d));
      in_most = λ v. (let d : DiskId = record { 0 = v } in omega (arith, out_is d ps ds h len, in_is d ps ds h len, e.in_most d));
    }

-- no edge waits at a disk that is out of range
out_of_range : (ps : List (DiskId × DiskId)) (ds : List (Option Bool)) (n : ℕ) → AllInRange ps n → (v : DiskId) → n ≤ v.0 → total (waits v) ps ds ≡ 0
out_of_range [] ds n h v far = refl
out_of_range (p ∷ ps) [] n h v far = refl
out_of_range (p ∷ ps) (Some d ∷ ds) n h v far = omega (arith, out_of_range ps ds n (λ e q r. h (record { 0 = suc e.0 }) q r) v far)
out_of_range (p ∷ ps) (None ∷ ds) n h v far =
    let r = h (record { 0 = 0 }) p refl in
    let one : is v p.0 ≡ 0 = ap bit (ne_eqb p.0.0 v.0 (λ e. absurd (omega (arith, e, far, r.0)))) in
    let two : is v p.1 ≡ 0 = ap bit (ne_eqb p.1.0 v.0 (λ e. absurd (omega (arith, e, far, r.1)))) in
    omega (arith, one, two, out_of_range ps ds n (λ e q s. h (record { 0 = suc e.0 }) q s) v far)

-- one trail more
pub ready_after : (ends : List (DiskId × DiskId)) (old now : List (Option Bool)) (from from' : List ℕ) (s : DiskId) → IsBalancedSoFar ends old from → EndsTrail ends old now s → AllPassed ends now from' → length from' ≡ length from → (total (waits s) ends old % 2 ≡ 1) ⊎ ((v : DiskId) → total (waits v) ends old % 2 ≡ 0) → IsBalancedSoFar ends now from'
ready_after ends old now from from' s r e passed len which =
    record {
      len = e.trail.len ∙ r.len;
      in_range = subst (λ n. AllInRange ends n) (sym len) r.in_range;
      passed = passed;
      even = IsBalanced-trail ends old now s e.end r.even e.trail e.stuck which;
    }

pub below_disk : (P : DiskId → Type 0) (i : ℕ) → ((v : DiskId) → v.0 < i → P v) → P (record { 0 = i }) → (v : DiskId) → v.0 < i + 1 → P v
below_disk P i below here v h =
    elim (cases_eq v.0 i) [
      | inl e ↦ subst P (sym (same_disk v (record { 0 = i }) e)) here
      | inr ne ↦ below v (omega arith)
    ]

pub even_after : (ends : List (DiskId × DiskId)) (old now : List (Option Bool)) (i : ℕ) → EndsTrail ends old now (record { 0 = i }) → total (waits (record { 0 = i })) ends old % 2 ≡ 1 → ((v : DiskId) → v.0 < i → total (waits v) ends old % 2 ≡ 0) → (v : DiskId) → v.0 < i + 1 → total (waits v) ends now % 2 ≡ 0
even_after ends old now i e odd below =
    below_disk (λ (v : DiskId). total (waits v) ends now % 2 ≡ 0) i
    (λ v h. even_kept ends old now (record { 0 = i }) e.end v e.trail e.stuck (below v h) (inl odd))
    (odd_ended ends old now (record { 0 = i }) e.end e.trail e.stuck odd)

-- from the disks in range to all
pub everywhere : (ends : List (DiskId × DiskId)) (ds : List (Option Bool)) (n : ℕ) → AllInRange ends n → ((v : DiskId) → v.0 < n → total (waits v) ends ds ≡ 0) → (v : DiskId) → total (waits v) ends ds ≡ 0
everywhere ends ds n range h v = elim (cases_lt v.0 n) [ inl l ↦ h v l | inr g ↦ out_of_range ends ds n range v g ]

pub even_everywhere : (ends : List (DiskId × DiskId)) (ds : List (Option Bool)) (n : ℕ) → AllInRange ends n → ((v : DiskId) → v.0 < n → total (waits v) ends ds % 2 ≡ 0) → (v : DiskId) → total (waits v) ends ds % 2 ≡ 0
even_everywhere ends ds n range h v = elim (cases_lt v.0 n) [ inl l ↦ h v l | inr g ↦ omega (arith, out_of_range ends ds n range v g) ]

-- at the beginning
none_directed : (v : DiskId) (ps : List (DiskId × DiskId)) (n : ℕ) → (total (leaves v) ps (replicate n None) ≡ 0) × (total (enters v) ps (replicate n None) ≡ 0)
none_directed v [] n = (refl, refl)
none_directed v (p ∷ ps) zero = (refl, refl)
none_directed v (p ∷ ps) (suc n) = let r = none_directed v ps n in (omega (arith, r.0), omega (arith, r.1))

pub ready_first : (ends : List (DiskId × DiskId)) (n : ℕ) (first : List ℕ) → n ≡ length ends → AllInRange ends (length first) → AllPassed ends (replicate n None) first → IsBalancedSoFar ends (replicate n None) first
ready_first ends n first len range passed = record { len = length-replicate n None ∙ len; in_range = range; passed = passed; even = IsBalanced-none ends (replicate n None) (λ v. none_directed v ends n) }

pub settled_balances : (ends : List (DiskId × DiskId)) (ds : List (Option Bool)) (out : List Bool) → IsBalanced ends ds → ((w : DiskId) → total (waits w) ends ds ≡ 0) → length ds ≡ length ends → out ≡ map points_forward ds → base.Balances (map pair_transfer ends) out
settled_balances ends ds out e h len is_out = subst (λ (q : List Bool). base.Balances (map pair_transfer ends) q) (sym is_out) (Balances-settled ends ds e h len)

-- Counting the edges that wait at a disk.
use Rattle.mig_euler.proofs.Common.{All, Bool, DiskId, List, MatchBool, None, Option, Some, [], add-one, ap, arith, bit, eq-eqb, false, get_or, inl, inr, is, length, ne_eqb, not, refl, same_disk}
use Rattle.mig_euler.proofs.Common.{subst, suc, sym, take, total, true, waits, zero, ℕ, ◌%◌, ◌+◌, ◌<◌, ◌∙◌, ◌∷◌, ◌≡◌, ◌≢◌, ◌⊎◌}

pub total_take : (f : DiskId × DiskId → Option Bool → ℕ) (ps : List (DiskId × DiskId)) (ds : List (Option Bool)) (i : ℕ) (p : DiskId × DiskId) (d : Option Bool) → i < length ps → i < length ds → total f (take (suc i) ps) (take (suc i) ds) ≡ total f (take i ps) (take i ds) + f (get_or ps i p) (get_or ds i d)
total_take f [] ds i p d h m = absurd (omega arith)
total_take f (q ∷ ps) [] i p d h m = absurd (omega arith)
total_take f (q ∷ ps) (c ∷ ds) zero p d h m = omega arith
total_take f (q ∷ ps) (c ∷ ds) (suc i) p d h m = omega (arith, total_take f ps ds i p d (omega arith) (omega arith))

is_one : (v w : DiskId) → v ≡ w → is v w ≡ 1
is_one v w h = ap bit (eq-eqb w.0 v.0 (ap (λ (q : DiskId). q.0) (sym h)))

is_zero : (v w : DiskId) → v ≢ w → is v w ≡ 0
is_zero v w h = ap bit (ne_eqb w.0 v.0 (λ e. h (same_disk v w (sym e))))

waits_one : (v : DiskId) (p : DiskId × DiskId) (d : Option Bool) → p.0 ≢ p.1 → (d ≡ None) × ((p.0 ≡ v) ⊎ (p.1 ≡ v)) → waits v p d ≡ 1
waits_one v p d apart h =
    ap (waits v p) h.0 ∙
    elim h.1 [
      | inl e ↦ omega (arith, is_one v p.0 (sym e), is_zero v p.1 (λ x. apart (e ∙ x)))
      | inr e ↦ omega (arith, is_one v p.1 (sym e), is_zero v p.0 (λ x. apart (sym x ∙ sym e)))
    ]

pub waits_zero : (v : DiskId) (p : DiskId × DiskId) (d : Option Bool) → ((d ≡ None) × ((p.0 ≡ v) ⊎ (p.1 ≡ v)) → ⊥) → waits v p d ≡ 0
waits_zero v p (Some b) h = refl
waits_zero v p None h = omega (arith, is_zero v p.0 (λ e. h (refl, inl (sym e))), is_zero v p.1 (λ e. h (refl, inr (sym e))))

flip : (odd : Bool) (n m : ℕ) → m ≡ n + 1 → MatchBool odd (n % 2 ≡ 1) (n % 2 ≡ 0) → MatchBool (not odd) (m % 2 ≡ 1) (m % 2 ≡ 0)
flip true n m e h = omega (arith, e, h)
flip false n m e h = omega (arith, e, h)

keep : (odd : Bool) (n m : ℕ) → m ≡ n → MatchBool odd (n % 2 ≡ 1) (n % 2 ≡ 0) → MatchBool odd (m % 2 ≡ 1) (m % 2 ≡ 0)
keep odd n m e h = subst (λ q. MatchBool odd (q % 2 ≡ 1) (q % 2 ≡ 0)) (sym e) h

pub odd_yes : (ps : List (DiskId × DiskId)) (ds : List (Option Bool)) (v : DiskId) (i : ℕ) (p : DiskId × DiskId) (d : Option Bool) (odd : Bool) → i < length ps → length ds ≡ length ps → All (λ p. p.0 ≢ p.1) ps → (get_or ds i d ≡ None) × (((get_or ps i p).0 ≡ v) ⊎ ((get_or ps i p).1 ≡ v)) →
    MatchBool odd (total (waits v) (take i ps) (take i ds) % 2 ≡ 1) (total (waits v) (take i ps) (take i ds) % 2 ≡ 0) →
    MatchBool (not odd) (total (waits v) (take (i + 1) ps) (take (i + 1) ds) % 2 ≡ 1) (total (waits v) (take (i + 1) ps) (take (i + 1) ds) % 2 ≡ 0)
odd_yes ps ds v i p d odd h len apart w m =
    rw add-one (flip odd _ _ (total_take (waits v) ps ds i p d h (omega (arith, h, len)) ∙ ap (λ n. total (waits v) (take i ps) (take i ds) + n) (waits_one v (get_or ps i p) (get_or ds i d) (apart i p h) w)) m)

pub odd_no : (ps : List (DiskId × DiskId)) (ds : List (Option Bool)) (v : DiskId) (i : ℕ) (p : DiskId × DiskId) (d : Option Bool) (odd : Bool) → i < length ps → length ds ≡ length ps → ((get_or ds i d ≡ None) × (((get_or ps i p).0 ≡ v) ⊎ ((get_or ps i p).1 ≡ v)) → ⊥) →
    MatchBool odd (total (waits v) (take i ps) (take i ds) % 2 ≡ 1) (total (waits v) (take i ps) (take i ds) % 2 ≡ 0) →
    MatchBool odd (total (waits v) (take (i + 1) ps) (take (i + 1) ds) % 2 ≡ 1) (total (waits v) (take (i + 1) ps) (take (i + 1) ds) % 2 ≡ 0)
odd_no ps ds v i p d odd h len w m =
    let more = total_take (waits v) ps ds i p d h (omega (arith, h, len)) in
    let none = waits_zero v (get_or ps i p) (get_or ds i d) w in
    rw add-one (keep odd _ _ (omega (arith, more, none)) m)

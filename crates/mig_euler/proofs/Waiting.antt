-- Edges that wait for a direction.
use Rattle.mig_euler.proofs.Common.{Bool, DiskId, IsWaiting, List, None, Option, Some, ap, arith, get_or, inl, inr, length, same_Some, slice_get}
use Rattle.mig_euler.proofs.Common.{slice_get-get_or, some_pair_parts, sym, ℕ, ◌<◌, ◌∙◌, ◌≡◌, ◌⊎◌}

pub waits_found : (ends : List (DiskId × DiskId)) (ds : List (Option Bool)) (v : DiskId) (i : ℕ) (p : DiskId × DiskId) (d : Option Bool) → i < length ends → length ds ≡ length ends → ((get_or ds i d ≡ None) × (((get_or ends i p).0 ≡ v) ⊎ ((get_or ends i p).1 ≡ v))) → IsWaiting ends ds v (record { 0 = i })
waits_found ends ds v i p d h len w =
    let row : slice_get ends i ≡ Some (get_or ends i p) = slice_get-get_or ends i p h in
    let way : slice_get ds i ≡ Some (get_or ds i d) = slice_get-get_or ds i d (omega (arith, h, len)) in
    record {
      plain = way ∙ ap (λ (q : Option Bool). Some q) w.0;
      at = elim w.1 [
        | inl x ↦ ((get_or ends i p).1, inl (row ∙ ap (λ (q : DiskId). Some (q, (get_or ends i p).1)) x))
        | inr x ↦ ((get_or ends i p).0, inr (row ∙ ap (λ (q : DiskId). Some ((get_or ends i p).0, q)) x))
      ];
    }

pub waits_none : (ends : List (DiskId × DiskId)) (ds : List (Option Bool)) (v : DiskId) (i : ℕ) (p : DiskId × DiskId) (d : Option Bool) → i < length ends → length ds ≡ length ends → ((get_or ds i d ≡ None) × (((get_or ends i p).0 ≡ v) ⊎ ((get_or ends i p).1 ≡ v)) → ⊥) → IsWaiting ends ds v (record { 0 = i }) → ⊥
waits_none ends ds v i p d h len never w =
    let row : slice_get ends i ≡ Some (get_or ends i p) = slice_get-get_or ends i p h in
    let way : slice_get ds i ≡ Some (get_or ds i d) = slice_get-get_or ds i d (omega (arith, h, len)) in
    never (
      same_Some (get_or ds i d) None (sym way ∙ w.plain),
      elim w.at.1 [
        | inl x ↦ inl (some_pair_parts (get_or ends i p).0 v (get_or ends i p).1 w.at.0 (sym row ∙ x)).0
        | inr x ↦ inr (some_pair_parts (get_or ends i p).0 w.at.0 (get_or ends i p).1 v (sym row ∙ x)).1
      ],
    )

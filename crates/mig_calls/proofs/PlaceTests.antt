-- Whether files are the same.
use Rattle.mig_calls.proofs.Common.{Disk, Journal, Place, ap, bytes_eq, cases_Bool, false, false_from_ne_true, false≢true, inl, inr, is_place, other_text, refl, same_text, sym, true, ◌∙◌, ◌≡◌}

pub is_place-true : (p q : Place) → is_place p q ≡ true → p ≡ q
is_place-true (Disk d) (Disk e) is = ap Disk (same_text d e (sym is))
is_place-true Journal Journal is = refl
is_place-true (Disk d) Journal is = absurd (false≢true is)
is_place-true Journal (Disk e) is = absurd (false≢true is)

pub is_place-itself : (p : Place) → is_place p p ≡ true
is_place-itself (Disk d) = elim (cases_Bool (bytes_eq d d)) [
  | inl is ↦ is
  | inr not ↦ absurd (other_text d d (sym not) refl)
]
is_place-itself Journal = refl

pub is_place-same : (p q : Place) → p ≡ q → is_place p q ≡ true
is_place-same p q same = ap (is_place p) (sym same) ∙ is_place-itself p

pub is_place-other : (p q : Place) → ¬ (p ≡ q) → is_place p q ≡ false
is_place-other p q other = false_from_ne_true _ (λ is. other (is_place-true p q is))

-- The fields of a row beside those that are wanted.
use Rattle.mig_csv.proofs.Common.{Bor, IsTrue, List, Row, [], ap, arith, cases_lt, ext_get_or, false, false≢true, get_or, get_or-map, length}
use Rattle.mig_csv.proofs.Common.{length-map, map, nat_eq, nat_list_eq_equiv, not, not-false, not-true, pointwise, same_text, slice_get}
use Rattle.mig_csv.proofs.Common.{slice_get-get_or, subst, sym, true, unwrap_or, ℕ, ◌+◌, ◌<◌, ◌∙◌, ◌≡◌}

abbrev pub field_at : Row → ℕ → List ℕ
field_at r i = unwrap_or (slice_get r i) []

abbrev none : Bor (List ℕ)
none = record { ref_ptr = (0, 0); now = [] }

abbrev pub texts : List (Bor (List ℕ)) → List (List ℕ)
texts wanted = map (λ f. f.now) wanted

text_at : (wanted : List (Bor (List ℕ))) (k : ℕ) → k < length wanted → get_or (texts wanted) k [] ≡ (get_or wanted k none).now
text_at wanted k h = get_or-map (λ (f : Bor (List ℕ)). f.now) wanted k none [] h

at_place : (r : Row) (k : ℕ) → k < length r → get_or r k [] ≡ field_at r k
at_place r k h = sym (ap (λ o. unwrap_or o []) (slice_get-get_or r k [] h))

-- the first n fields are the wanted ones
abbrev pub Agree : Row → List (Bor (List ℕ)) → ℕ → Type 0
Agree r wanted n = (k : ℕ) → k < n → field_at r k ≡ (get_or wanted k none).now

pub agree_more : (r : Row) (wanted : List (Bor (List ℕ))) (n : ℕ) → Agree r wanted n → not (pointwise nat_eq (field_at r n) (get_or wanted n none).now) ≡ false → Agree r wanted (n + 1)
agree_more r wanted n before same k h = grind (arith, cases_lt, same_text, not-false, pointwise)

pub agree_all : (r : Row) (wanted : List (Bor (List ℕ))) → length r ≡ length wanted → Agree r wanted (length wanted) → r ≡ texts wanted
agree_all r wanted len agree = ext_get_or [] r (texts wanted) (len ∙ sym (length-map wanted (λ (f : Bor (List ℕ)). f.now)))
    (λ k h. at_place r k h ∙ agree k (omega (arith, h, len)) ∙ sym (text_at wanted k (omega (arith, h, len))))

-- a field that isn't the wanted one
pub disagree : (r : Row) (wanted : List (Bor (List ℕ))) (n : ℕ) → n < length wanted → not (pointwise nat_eq (field_at r n) (get_or wanted n none).now) ≡ true → r ≡ texts wanted → IsTrue false
disagree r wanted n there differs e =
    let len : length (texts wanted) ≡ length wanted = length-map wanted (λ (f : Bor (List ℕ)). f.now) in
    let same : field_at r n ≡ (get_or wanted n none).now = ap (λ (q : Row). field_at q n) e ∙ sym (at_place (texts wanted) n (omega (arith, there, len))) ∙ text_at wanted n there in
    let alike : pointwise nat_eq (field_at r n) (get_or wanted n none).now ≡ true = subst (λ (x : List ℕ). pointwise nat_eq x (get_or wanted n none).now ≡ true) (sym same) (nat_list_eq_equiv.refl (get_or wanted n none).now) in
    absurd (false≢true (sym (not-true (pointwise nat_eq (field_at r n) (get_or wanted n none).now) differs) ∙ alike))

-- The words of numbers.
use Rattle.mig_text.proofs.Common.{All, FoldsDigits, IsDigitsTest, IsInRange, IsNumeralModel, IsNumeralWord, IsTrue, List, [], ap, append_assoc, arith, cases_lt, decimal, decimal-digits_value}
use Rattle.mig_text.proofs.Common.{decimal_digit, decimal_nonempty, decimal_step, digits_decimal, digits_value-decimal, first_decimal, fold, get_or, inl, inr, is_ascii_digit, length}
use Rattle.mig_text.proofs.Common.{length-decimal-le, nat_tests, number_of, numerals_by_fold, refl, subst, suc, sym, zero, ℕ, ◌%◌, ◌*◌, ◌++◌, ◌+◌, ◌-◌, ◌/◌, ◌<◌, ◌^◌, ◌∙◌, ◌∷◌, ◌≡◌, ◌≢◌, ◌≤◌}

abbrev AreDigits : List ℕ → Type 0
AreDigits word = All (λ c. IsTrue (is_ascii_digit c)) word

in_range : (c : ℕ) → IsTrue (is_ascii_digit c) → IsInRange 48 57 c
in_range c h = (grind (arith, nat_tests), grind (arith, nat_tests))

from_range : (c : ℕ) → IsInRange 48 57 c → IsTrue (is_ascii_digit c)
from_range c h = grind (arith, nat_tests)

one_more : (c : ℕ) (cs : List ℕ) → IsInRange 48 57 c → AreDigits cs → AreDigits (c ∷ cs)
one_more c cs k h zero d l = from_range c k
one_more c cs k h (suc i) d l = h i d (omega arith)

tells : IsDigitsTest AreDigits
tells = record {
  empty = λ k d h. absurd (omega arith);
  parts = λ c cs h. (in_range c (h 0 0 (omega arith)), λ k d l. h (suc k) d (omega arith));
  more = one_more;
}

abbrev value_from : ℕ → List ℕ → ℕ
value_from n ds = fold (λ n c. 10 * n + (c - 48)) n ds

folds : FoldsDigits value_from
folds = record {
  empty = λ n. refl;
  more = λ n c cs k. ap (λ m. value_from m cs) (omega arith);
}

own : IsNumeralModel AreDigits number_of
own = numerals_by_fold AreDigits tells value_from folds

lead_of : (n : ℕ) → n < 2 ^ 32 → get_or (decimal n) 0 0 ≡ 48 → length (decimal n) ≡ 1
lead_of zero small e = ap length (decimal_digit 0 (omega arith))
lead_of (suc n) small e = let f : 48 < get_or (decimal (suc n)) 0 0 = first_decimal (suc n) (omega arith) (omega arith) in absurd (omega arith)

-- a number is spelled by a numeral, which has its value
pub numeral_of : (n : ℕ) → n < 2 ^ 32 → IsNumeralWord (decimal n)
numeral_of n small = record {
  number = record {
    digits = digits_decimal own n (omega arith);
    some = decimal_nonempty n (omega arith);
    short = length-decimal-le 10 n (omega arith) (omega arith) (omega arith);
  };
  lead = λ zero. let one = lead_of n small zero.1 in absurd (omega (arith, zero.0, one));
}

pub value_of_decimal : (n : ℕ) → n < 2 ^ 32 → number_of (decimal n) ≡ n
value_of_decimal n small = digits_value-decimal own n (omega arith)

pub spells_value : (word : List ℕ) → IsNumeralWord word → number_of word < 2 ^ 64 → word ≡ decimal (number_of word)
spells_value word h small = sym (decimal-digits_value own word h.number.digits h.number.some alone small)
  where
    alone : get_or word 0 0 ≡ 48 → length word ≡ 1
    alone nought = elim (cases_lt 1 (length word)) [ inl more ↦ absurd (h.lead (more, nought)) | inr few ↦ omega (arith, few, h.number.some) ]

-- a word of another form spells no number, and one of this form none but its value
pub no_number : (word : List ℕ) → (IsNumeralWord word → ⊥) → (n : ℕ) → n < 2 ^ 32 → word ≢ decimal n
no_number word not_one n small e = not_one (subst IsNumeralWord (sym e) (numeral_of n small))

pub no_other : (word : List ℕ) (most : ℕ) → most < number_of word → (n : ℕ) → n ≤ most → n < 2 ^ 32 → word ≢ decimal n
no_other word most more n le small e = let v : number_of word ≡ n = ap number_of e ∙ value_of_decimal n small in omega arith

-- a text to which a number's last digit is added, after its other digits where it has others
pub last_digit : (n : ℕ) (old new : List ℕ) → n < 10 → new ≡ old ++ (48 + n % 10) ∷ [] → new ≡ old ++ decimal n
last_digit n old new small e =
    let same : n % 10 ≡ n = omega arith in
    e ∙ ap (λ d. old ++ (48 + d) ∷ []) same ∙ ap (λ ds. old ++ ds) (sym (decimal_digit n small))

pub next_digit : (n : ℕ) (old front new : List ℕ) → 10 ≤ n → n < 2 ^ 32 → front ≡ old ++ decimal (n / 10) → new ≡ front ++ (48 + n % 10) ∷ [] → new ≡ old ++ decimal n
next_digit n old front new large small f e =
    e ∙ ap (λ ds. ds ++ (48 + n % 10) ∷ []) f ∙ append_assoc old (decimal (n / 10)) ((48 + n % 10) ∷ []) ∙ ap (λ ds. old ++ ds) (sym (decimal_step n large (omega arith)))

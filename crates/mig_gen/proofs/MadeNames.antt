-- A letter and a number are a name, and no other number gives the same.
use Rattle.mig_gen.proofs.Common.{All, All-cons, All-nil, All-push, IsName, IsTrue, List, [], arith, decimal, decimal_by_steps, decimal_injective, is_ascii_alphanumeric, is_name_byte}
use Rattle.mig_gen.proofs.Common.{length-decimal-le, nat_tests, ℕ, ◌%◌, ◌+◌, ◌<◌, ◌^◌, ◌∷◌, ◌≡◌}

digit_is_plain : (k : ℕ) → k < 10 → IsTrue (is_name_byte (48 + k))
digit_is_plain k h = grind (arith, nat_tests)

letter_is_plain : (letter : ℕ) → IsTrue (is_ascii_alphanumeric letter) → IsTrue (is_name_byte letter)
letter_is_plain letter h = grind (arith, nat_tests)

abbrev ArePlain : List ℕ → Type 0
ArePlain bytes = All (λ c. IsTrue (is_name_byte c)) bytes

digits_are_plain : (n : ℕ) → n < 2 ^ 32 → ArePlain (decimal n)
digits_are_plain n small =
    let P : ℕ → Type 0 = λ c. IsTrue (is_name_byte c) in
    decimal_by_steps (λ _ ds. ArePlain ds) (λ n h. All-cons P (48 + n) [] (digit_is_plain n h) (All-nil P)) (λ n ds h k. All-push P ds (48 + n % 10) k (digit_is_plain (n % 10) (omega arith))) n (omega arith)

pub numbered_is_name : (letter n : ℕ) → IsTrue (is_ascii_alphanumeric letter) → n < 2 ^ 32 → IsName (letter ∷ decimal n)
numbered_is_name letter n h small =
    let few = length-decimal-le 10 n (omega arith) (omega arith) (omega arith) in
    record {
      some = omega arith;
      short = omega arith;
      plain = All-cons (λ c. IsTrue (is_name_byte c)) letter (decimal n) (letter_is_plain letter h) (digits_are_plain n small);
    }

pub same_number : (letter m n : ℕ) → m < 2 ^ 32 → n < 2 ^ 32 → letter ∷ decimal m ≡ letter ∷ decimal n → m ≡ n
same_number letter m n j k e = let d : decimal m ≡ decimal n = cc in decimal_injective m n (omega arith) (omega arith) d

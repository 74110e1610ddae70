-- Numbers in decimal.
use Rattle.std.specs.Prelude.{◌+◌, ◌-◌, ◌*◌, ◌≤◌, ℕ, List, All, IsTrue, fold, length}
use Rattle.std.specs.Char.{is_ascii_digit}

-- 1 to 10 ASCII digits
pub record IsNumber (bytes : List ℕ) : Type 0 where
  pub some : 1 ≤ length bytes
  pub short : length bytes ≤ 10
  pub digits : All (λ c. IsTrue (is_ascii_digit c)) bytes

-- the number that the digits, from 48 for `0` to 57 for `9`, spell in base ten
abbrev pub number_of : List ℕ → ℕ
number_of digits = fold (λ n c. 10 * n + (c - 48)) 0 digits

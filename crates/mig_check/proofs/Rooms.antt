-- Steps of the search for a target that is no free slot.
use Rattle.mig_check.proofs.Common.{Bool, Spot, arith, eqb, false, false≢true, nat_tests, same_spot, spot_by, sym, true, ℕ, ◌&&◌, ◌∙◌, ◌≡◌}

numbers_same : (a b x y : ℕ) → (eqb a b && eqb x y) ≡ true → (a ≡ b) × (x ≡ y)
numbers_same a b x y h = grind (arith, nat_tests)

numbers_equal : (a b : ℕ) → (eqb a a && eqb b b) ≡ true
numbers_equal a b = grind (arith, nat_tests)

pub spot_is : (s t : Spot) → same_spot s t ≡ true → s ≡ t
spot_is s t h = let e = numbers_same s.disk.0 t.disk.0 s.slot t.slot h in spot_by s t e.0 e.1

pub spot_itself : (s : Spot) → same_spot s s ≡ true
spot_itself s = numbers_equal s.disk.0 s.slot

pub not_both : (b : Bool) → b ≡ true → b ≡ false → ⊥
not_both b t f = false≢true (sym f ∙ t)

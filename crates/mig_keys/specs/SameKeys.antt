-- Equal spots and cells are the same.
use Rattle.mig_base.proofs.CellTests.{is_cell-true}
use Rattle.mig_base.proofs.Common.{and_parts, ap, arith, is_cell, nat_tests, refl, sym, ◌∙◌}
use Rattle.std.specs.Prelude.{true, ℕ, ◌&&◌, ◌==◌, ◌≡◌}
use Rattle.mig_base.specs.contracts.cells.CellPartialEq.TheImpl.{eq-value}
use Rattle.mig_base.specs.declared.cells.Cell.{Cell}
use Rattle.mig_base.specs.declared.cells.Cell.TheVariants.{Gate, Head, Mark, Slot}
use Rattle.mig_base.specs.declared.ids.Spot.{Spot}

pub same_spots : (a b : Spot) → (a.disk.0 == b.disk.0) && (a.slot == b.slot) ≡ true → a ≡ b
same_spots a b e =
    let (p, q) = and_parts (a.disk.0 == b.disk.0) (a.slot == b.slot) e in
    let m : a.disk.0 ≡ b.disk.0 = grind (arith, nat_tests) in
    let n : a.slot ≡ b.slot = grind (arith, nat_tests) in
    let f : ℕ → ℕ → Spot = λ x y. record { disk = record { 0 = x }; slot = y } in
    ap (λ x. f x a.slot) m ∙ ap (f b.disk.0) n

pub eq-is : (a b : Cell) → eq-value.it a b ≡ is_cell a b
eq-is (Slot d s) (Slot e t) = refl
eq-is Head Head = refl
eq-is Gate Gate = refl
eq-is (Mark m) (Mark n) = refl
eq-is _ _ = refl

pub same_cells : (a b : Cell) → eq-value.it a b ≡ true → a ≡ b
same_cells a b is = is_cell-true a b (sym (eq-is a b) ∙ is)

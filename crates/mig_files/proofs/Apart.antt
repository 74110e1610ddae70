-- No two cells share a byte.
use Rattle.mig_files.proofs.Common.{Cell, Disk, Gate, Head, IsWithin, Journal, List, Mark, Slot, ap, arith, cell_len, file_of, inl, inr, mark_at, offset_of, refl, suc, sym, zero, ℕ, ◌*◌, ◌+◌}
use Rattle.mig_files.proofs.Common.{◌<◌, ◌≡◌, ◌≤◌, ◌⊎◌}

other_file : (d : List ℕ) → Disk d ≡ Journal → ⊥
other_file d is = cc

same_disk : (d e : List ℕ) → Disk d ≡ Disk e → d ≡ e
same_disk d e is = cc

same_slot : (s t i : ℕ) → i < 4096 → 4096 * t ≤ 4096 * s + i → 4096 * s + i < 4096 * t + 4096 → s ≡ t
same_slot s t i low from below = omega arith

same_mark : (m n i : ℕ) → i < 1 → mark_at n ≤ mark_at m + i → mark_at m + i < mark_at n + 1 → m ≡ n
same_mark zero zero i low from below = refl
same_mark zero (suc n) i low from below = absurd (omega arith)
same_mark (suc m) zero i low from below = absurd (omega arith)
same_mark (suc m) (suc n) i low from below = omega arith

mark_high : (n : ℕ) → (mark_at n ≡ 256) ⊎ (1024 ≤ mark_at n)
mark_high zero = inl refl
mark_high (suc n) = inr (omega arith)

pub apart : (a b : Cell) → (a ≡ b → ⊥) → (i : ℕ) → i < cell_len a → IsWithin (file_of b) (offset_of b) (cell_len b) (file_of a) (offset_of a + i) → ⊥
apart (Slot d s) (Slot e t) not i low is =
    let disks = same_disk d e is.in_file in
    let slots = same_slot s t i low is.from is.below in
    not (λ k. Slot (disks k) (slots k))
apart (Slot d s) Head not i low is = other_file d is.in_file
apart (Slot d s) Gate not i low is = other_file d is.in_file
apart (Slot d s) (Mark n) not i low is = other_file d is.in_file
apart Head (Slot e t) not i low is = other_file e (sym is.in_file)
apart Gate (Slot e t) not i low is = other_file e (sym is.in_file)
apart (Mark m) (Slot e t) not i low is = other_file e (sym is.in_file)
apart Head Head not i low is = not refl
apart Gate Gate not i low is = not refl
apart Head Gate not i low is = omega (arith, is.from, is.below)
apart Gate Head not i low is = omega (arith, is.from, is.below)
apart Head (Mark n) not i low is = elim (mark_high n) [
  | inl is_low ↦ omega (arith, is.from, is.below)
  | inr high ↦ omega (arith, is.from, is.below)
]
apart Gate (Mark n) not i low is = elim (mark_high n) [
  | inl is_low ↦ omega (arith, is.from, is.below)
  | inr high ↦ omega (arith, is.from, is.below)
]
apart (Mark m) Head not i low is = elim (mark_high m) [
  | inl is_low ↦ omega (arith, is.from, is.below)
  | inr high ↦ omega (arith, is.from, is.below)
]
apart (Mark m) Gate not i low is = elim (mark_high m) [
  | inl is_low ↦ omega (arith, is.from, is.below)
  | inr high ↦ omega (arith, is.from, is.below)
]
apart (Mark m) (Mark n) not i low is = not (ap Mark (same_mark m n i low is.from is.below))

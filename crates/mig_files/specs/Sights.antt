-- What the cells show of items that were seen.
use Rattle.std.specs.Prelude.{◌≡◌, ◌≤◌, ◌+◌, ◌-◌, ℕ, zero, suc, Bool, true, false, IsTrue, List, [], ◌∷◌, Some, None, IfSome, if◌then◌else◌}
use Rattle.std.specs.Prelude.{length, replicate, take, refl}
use Rattle.std.proofs.Common.{sym, ◌∙◌, ap, arith}
use Rattle.std.proofs.lemmas.Bool.{false≢true}
use Rattle.std.proofs.lemmas.List.{length-append, length-replicate}
use Rattle.mig_base.specs.declared.cells.Cell.{Cell}
use Rattle.mig_base.specs.declared.cells.Cell.TheVariants.{Slot, Head, Gate, Mark}
use Rattle.mig_base.specs.Cells.{cell_len, is_slot}
use Rattle.mig_base.specs.Naming.{IsName}
use Rattle.mig_base.specs.Slots.{HasHeader, header_of}
use Rattle.mig_calls.specs.Files.{FilesState, HasBytes}
use Rattle.mig_calls.specs.Places.{file_of, offset_of}
use Rattle.mig_calls.specs.Refusals.{HoldsItem, WhereTold}
use Rattle.mig_files.specs.Derived.{cell_bytes, image_of, window}
use Rattle.mig_files.specs.Seeing.{AreHeld, seen_in}
use Rattle.mig_store.specs.Grounds.{Holds}

-- so many bytes that are the file's are the window
pub window-has : (f : ℕ → ℕ) (at n : ℕ) (bytes : List ℕ) → length bytes ≡ n → HasBytes f at n bytes → bytes ≡ window f at n
unfolding window
window-has f at zero [] len has = refl
window-has f at zero (b ∷ bytes) len has = cc
window-has f at (suc n) [] len has = cc
window-has f at (suc n) (b ∷ bytes) len has =
    let here : at + 0 ≡ at = omega arith in
    let first : b ≡ f at = has 0 (omega arith) ∙ ap f here in
    let rest : bytes ≡ window f (suc at) n = window-has f (suc at) n bytes (omega (arith, len))
    (λ i lt. let there : at + suc i ≡ suc at + i = omega arith in has (suc i) (omega arith) ∙ ap f there) in
    λ k. first k ∷ rest k

-- the first bytes of a window
window-front : (f : ℕ → ℕ) (at k n : ℕ) → k ≤ n → take k (window f at n) ≡ window f at k
unfolding window
window-front f at zero n le = refl
window-front f at (suc k) zero le = absurd (omega (arith, le))
window-front f at (suc k) (suc n) le = ap (λ (rest : List ℕ). f at ∷ rest) (window-front f (suc at) k n (omega (arith, le)))

pub header_len : (item : List ℕ) → length item ≤ 32 → length (header_of item) ≡ 34
header_len item short =
    let both = length-append item (replicate (32 - length item) 0) in
    let zeros = length-replicate {A = ℕ} (32 - length item) 0 in
    omega (arith, short, both, zeros)

pub slot_len : (cell : Cell) → IsTrue (is_slot cell) → cell_len cell ≡ 4096
slot_len (Slot d s) is = refl
slot_len Head is = absurd (false≢true is)
slot_len Gate is = absurd (false≢true is)
slot_len (Mark n) is = absurd (false≢true is)

-- what is so of a cell's bytes where its file is told is so where the cell is told
pub on_told : (s : FilesState) (cell : Cell) (P : List ℕ → Type 0) → WhereTold s cell (P (cell_bytes s.reads cell)) → IfSome (image_of s cell) P
on_told s cell P so = at (s.told (file_of cell)) so
  where
    at : (t : Bool) → (IsTrue t → P (cell_bytes s.reads cell)) → IfSome (if t then Some (cell_bytes s.reads cell) else None) P
    at true is = is refl
    at false is = tt

module _ (s : FilesState) (slot : Cell) (is : IsTrue (is_slot slot)) (item : List ℕ) (name : IsName item) where
  -- a slot shows the header of an item that it has
  pub header_is : HoldsItem s slot item → HasHeader item (cell_bytes s.reads slot)
  header_is has =
      let f = s.reads (file_of slot) in
      let fits : 34 ≤ cell_len slot = omega (arith, slot_len slot is) in
      window-front f (offset_of slot) 34 (cell_len slot) fits ∙ sym (window-has f (offset_of slot) 34 (header_of item) (header_len item name.short) has)

  pub holds_cell : WhereTold s slot (HoldsItem s slot item) → Holds (image_of s) slot item
  holds_cell holds = on_told s slot (HasHeader item) (λ told. header_is (holds told))

-- an item is still where it was seen
pub holds_seen : (s : FilesState) (seen : List (Cell × List ℕ)) → AreHeld s seen → (slot : Cell) (item : List ℕ) → IsName item → seen_in seen slot item
    → Holds (image_of s) slot item
holds_seen s seen held slot item name was = holds_cell s slot (held.slots slot item was) item name (held.holds slot item was)

-- How the ground of a fault goes through the calls that hand it on, and what cells show of it.
use Rattle.mig_files.proofs.Common.{Cell, EndsAt, Err, FilesState, HoldsItem, IfSome, Image, IsStep, IsTrue, List, None, Notes, Ok, OnErr}
use Rattle.mig_files.proofs.Common.{Option, Result, Rose, Some, WhereTold, arith, cell_bytes, cell_len, file_of, header_of, image_of}
use Rattle.mig_files.proofs.Common.{inl, inr, is_slot, length, offset_of, refl, sym, ℕ, ◌+◌, ◌∙◌, ◌≡◌, ◌≤◌, ◌⊎◌}
use Rattle.mig_base.specs.Slots.{HasHeader}
use Rattle.mig_files.specs.Derived.{window-len}
use Rattle.mig_files.specs.Grounds.{IsLastBut}
use Rattle.mig_files.specs.Sights.{on_told, slot_len}
use Rattle.mig_files.proofs.Derivation.{image_before}
use Rattle.mig_files.proofs.Headers.{first_has}
use Rattle.mig_files.proofs.Holding.{bytes_at}
use Rattle.mig_store.specs.Grounds.{Holds, IsOtherLast, Lacks}
use Rattle.mig_store.specs.Grounds as cells

pub on_err : {T E A B : Type 0} (r : Result T E) → OnErr r A → (A → B) → OnErr r B
on_err (Ok x) a f = tt
on_err (Err e) a f = f a

pub or_by : {X A B : Type 0} → X ⊎ A → (A → B) → X ⊎ B
or_by (inl x) f = inl x
or_by (inr a) f = inr (f a)

-- a fault after what was only looked at
pub fault_after : (P : Image → Type 0) {t : Notes} {a b : FilesState} {n m : ℕ} → IsStep t a b → Rose b.faults n ⊎ (Rose b.refused m × P (image_of b))
    → Rose a.faults n ⊎ (Rose a.refused m × P (image_of a))
fault_after P step (inl more) = inl (omega (arith, step.later, more))
fault_after P step (inr (more, ground)) = inr (omega (arith, step.change.refused, more), image_before P step.change ground)

-- a slot shows no item that its file hasn't there
pub lacks_cell : (s : FilesState) (slot : Cell) → IsTrue (is_slot slot) → (item : List ℕ) → WhereTold s slot (¬ HoldsItem s slot item)
    → Lacks (image_of s) slot item
lacks_cell s slot is item lacks =
    let f = s.reads (file_of slot) in
    let fits : 34 ≤ cell_len slot = omega (arith, slot_len slot is) in
    let len : cell_len slot ≤ length (cell_bytes s.reads slot) = omega (arith, window-len f (offset_of slot) (cell_len slot)) in
    on_told s slot (λ bytes. ¬ HasHeader item bytes) (λ told header.
    lacks told (first_has s slot (cell_len slot) (cell_bytes s.reads slot) (header_of item) fits len (sym header)
    (λ there. bytes_at f (offset_of slot) (cell_len slot) (cell_bytes s.reads slot) refl) told))

-- nor any where its file has no bytes
pub empty_lacks : (s : FilesState) (slot : Cell) → IsTrue (is_slot slot) → (item : List ℕ) {end : ℕ} → end ≡ 0
    → WhereTold s slot (EndsAt (s.reads (file_of slot)) end) → Lacks (image_of s) slot item
empty_lacks s slot is item none ends = lacks_cell s slot is item (λ told holds.
    absurd (omega (arith, none, holds 0 (omega arith), ends told (offset_of slot + 0) (omega (arith, none)))))

-- a slot that lacks the item which is copied to it, and is the last of its own
pub other_last : (image : Image) {seen : cells.Sights} (from to : Cell) (item : List ℕ) → Holds image from item → IsLastBut image seen to item
    → IsOtherLast image seen from to
other_last image from to item holds (last, lacks) = record { last = last; other = at (image to) last.held lacks }
  where
    there : (b : List ℕ) → HasHeader last.item b → ¬ HasHeader item b → (o : Option (List ℕ)) → IfSome o (HasHeader item)
        → IfSome o (λ bytes. ¬ HasHeader last.item bytes)
    there b held not None has = tt
    there b held not (Some f) has = λ header. not (held ∙ sym header ∙ has)

    at : (o : Option (List ℕ)) → IfSome o (HasHeader last.item) → IfSome o (λ bytes. ¬ HasHeader item bytes) → IfSome o (λ bytes. Lacks image from last.item)
    at None held not = tt
    at (Some b) held not = there b held not (image from) holds

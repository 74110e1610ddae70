-- That items are still where they were seen.
use Rattle.mig_files.proofs.Common.{AreHeld, Bool, Cell, FilesLook, FilesState, FilesWrite, HasBytes, HoldsItem, IfSome, IsFreeFor, IsHeldElsewhere, IsTrue, MayBeEmptied}
use Rattle.mig_files.proofs.Common.{KeepsSeen, List, LosesNone, LosesNoneBut, None, Some, WhereTold, ap, arith, cell_len, image_of, file_of, header_of, if◌then◌else◌, inl, inr}
use Rattle.mig_files.proofs.Common.{[], Err, Ok, OnErr, OnOk, Result, is_slot, length, offset_of, refl, seen_at, slice_index, slice_range, subst, suc, sym, zero, ℕ, ◌+◌, ◌∙◌, ◌≡◌, ◌⊎◌}
use Rattle.mig_base.proofs.CellTests.{cases_cell}
use Rattle.mig_files.specs.Derived.{cell_bytes, window}
use Rattle.mig_files.proofs.Apart.{apart}
use Rattle.mig_files.proofs.FilesSteps.{told_before, told_after}
use Rattle.mig_files.specs.Sights.{slot_len}
use Rattle.mig_files.proofs.Headers.{first_has}
use Rattle.mig_files.proofs.SeenItems.{Sights, none_some}

-- where nothing was written
pub held_looked : {a b : FilesState} {seen : Sights} → FilesLook a b → AreHeld a seen → AreHeld b seen
held_looked look held = record {
  slots = held.slots;
  holds = λ slot item is told k lt. held.holds slot item is (told_before look (file_of slot) told) k lt ∙ sym (look.bytes (file_of slot) (offset_of slot + k) (λ none. none));
}

-- where a cell was written of which nothing is known
pub held_written : {a b : FilesState} {old new : Sights} (cell : Cell) → FilesWrite (file_of cell) (offset_of cell) (cell_len cell) a b → KeepsSeen old new cell → seen_at new cell ≡ None
    → AreHeld a old → AreHeld b new
held_written {a} {b} {old} {new} cell change kept none held = record {
  slots = λ slot item is. held.slots slot item (before slot item is);
  holds = λ slot item is told k lt.
      held.holds slot item (before slot item is) (told_before change (file_of slot) told) k lt
      ∙ sym (change.bytes (file_of slot) (offset_of slot + k) (apart slot cell (other slot item is) k (omega (arith, lt, slot_len slot (held.slots slot item (before slot item is))))));
}
  where
    other : (slot : Cell) (item : List ℕ) → seen_at new slot ≡ Some item → ¬ (slot ≡ cell)
    other slot item is same = none_some (sym none ∙ ap (seen_at new) (sym same) ∙ is)

    before : (slot : Cell) (item : List ℕ) → seen_at new slot ≡ Some item → seen_at old slot ≡ Some item
    before slot item is = sym (kept slot (other slot item is)) ∙ is

some_same : {x y : List ℕ} → Some x ≡ Some y → x ≡ y
some_same same = cc

-- where an item was seen anew
pub held_noted : {s : FilesState} {old new : Sights} (slot : Cell) (item : List ℕ) → IsTrue (is_slot slot) → WhereTold s slot (HoldsItem s slot item) → KeepsSeen old new slot
    → seen_at new slot ≡ Some item → AreHeld s old → AreHeld s new
held_noted {s} {old} {new} slot item slotted holds kept noted held = record {
  slots = λ other some is. by_case other (cases_cell other slot) (λ same. subst (λ (c : Cell). IsTrue (is_slot c)) (sym same) slotted) (λ not. held.slots other some (sym (kept other not) ∙ is));
  holds = λ other some is. by_case other (cases_cell other slot)
      (λ same. subst (λ (c : Cell). WhereTold s c (HoldsItem s c some)) (sym same)
      (subst (λ (x : List ℕ). WhereTold s slot (HoldsItem s slot x)) (some_same (sym noted ∙ ap (seen_at new) (sym same) ∙ is)) holds))
      (λ not. held.holds other some (sym (kept other not) ∙ is));
}
  where
    by_case : {A : Type 0} (other : Cell) → (other ≡ slot) ⊎ (other ≡ slot → ⊥) → (other ≡ slot → A) → ((other ≡ slot → ⊥) → A) → A
    by_case other (inl same) here there = here same
    by_case other (inr not) here there = there not

-- where what was seen at a slot was forgotten
pub held_less : {s : FilesState} {old new : Sights} (slot : Cell) → KeepsSeen old new slot → seen_at new slot ≡ None → AreHeld s old → AreHeld s new
held_less {s} {old} {new} slot kept none held = record {
  slots = λ other item is. held.slots other item (before other item is);
  holds = λ other item is. held.holds other item (before other item is);
}
  where
    before : (other : Cell) (item : List ℕ) → seen_at new other ≡ Some item → seen_at old other ≡ Some item
    before other item is = sym (kept other (λ same. none_some (sym none ∙ ap (seen_at new) (sym same) ∙ is))) ∙ is

-- where one of both happened
pub held_tried : {T E : Type 0} (r : Result T E) {s : FilesState} {old new : Sights} (slot : Cell) (item : List ℕ) → IsTrue (is_slot slot) → WhereTold s slot (HoldsItem s slot item)
    → KeepsSeen old new slot → OnOk r (seen_at new slot ≡ Some item) → OnErr r (seen_at new slot ≡ None) → AreHeld s old → AreHeld s new
held_tried (Ok x) slot item slotted holds kept noted none held = held_noted slot item slotted holds kept noted held
held_tried (Err e) slot item slotted holds kept noted none held = held_less slot kept none held

-- where nothing was seen yet
pub none_held : {s : FilesState} → AreHeld s []
none_held = record { slots = λ slot item is. absurd (none_some is); holds = λ slot item is. absurd (none_some is) }

-- what was seen elsewhere is held elsewhere
pub none_lost : {s : FilesState} {seen : Sights} (slot : Cell) → AreHeld s seen → MayBeEmptied s seen slot → LosesNone s slot
none_lost slot held free item name told holds =
    let found = free item name told holds in
    (found.0, held.slots found.0 item found.1, found.2, held.holds found.0 item found.1)

pub none_lost_but : {s : FilesState} {seen : Sights} (slot : Cell) (item : List ℕ) → AreHeld s seen → IsFreeFor s seen slot item → LosesNoneBut s slot item
none_lost_but slot item held free other name not told holds =
    let found = free other name not told holds in
    (found.0, held.slots found.0 other found.1, found.2, held.holds found.0 other found.1)

-- what loses no item didn't before files were looked at
elsewhere_before : {a b : FilesState} → FilesLook a b → (item : List ℕ) (slot : Cell) → IsHeldElsewhere b item slot → IsHeldElsewhere a item slot
elsewhere_before look item slot is =
    (is.0, is.1, is.2, λ told i lt. is.3 (told_after look (file_of is.0) told) i lt ∙ look.bytes (file_of is.0) (offset_of is.0 + i) (λ none. none))

pub lost_before : {a b : FilesState} → FilesLook a b → (slot : Cell) → LosesNone b slot → LosesNone a slot
lost_before look slot none item name told holds =
    elsewhere_before look item slot (none item name (told_after look (file_of slot) told) (λ i lt. holds i lt ∙ sym (look.bytes (file_of slot) (offset_of slot + i) (λ no. no))))

pub lost_but_before : {a b : FilesState} → FilesLook a b → (slot : Cell) (item : List ℕ) → LosesNoneBut b slot item → LosesNoneBut a slot item
lost_but_before look slot item none other name not told holds =
    elsewhere_before look other slot (none other name not (told_after look (file_of slot) told) (λ i lt. holds i lt ∙ sym (look.bytes (file_of slot) (offset_of slot + i) (λ no. no))))

-- A slot that was written holds what was written

pub bytes_at : (f : ℕ → ℕ) (at n : ℕ) (bytes : List ℕ) → window f at n ≡ bytes → HasBytes f at n bytes
unfolding window
bytes_at f at zero bytes is i lt = absurd (omega (arith, lt))
bytes_at f at (suc n) bytes is zero lt =
    ap (λ (l : List ℕ). slice_index l 0) (sym is) ∙ ap f (omega arith)
bytes_at f at (suc n) bytes is (suc i) lt =
    ap (λ (l : List ℕ). slice_index l (suc i)) (sym is) ∙ bytes_at f (suc at) n (window f (suc at) n) refl i (omega (arith, lt)) ∙ ap f (omega arith)

pub holds_written : (s : FilesState) (slot : Cell) (bytes item : List ℕ) → IsTrue (is_slot slot) → length bytes ≡ cell_len slot → slice_range bytes 0 34 ≡ header_of item
    → IfSome (image_of s slot) (λ told. told ≡ bytes) → WhereTold s slot (HoldsItem s slot item)
holds_written s slot bytes item is len named written told =
    let has : HasBytes (s.reads (file_of slot)) (offset_of slot) (cell_len slot) bytes = bytes_at (s.reads (file_of slot)) (offset_of slot) (cell_len slot) bytes
    (subst (λ (t : Bool). IfSome (if t then Some (cell_bytes s.reads slot) else None) (λ told. told ≡ bytes)) told written) in
    first_has s slot (cell_len slot) bytes (header_of item) (omega (arith, slot_len slot is)) (omega (arith, len)) (sym named) (λ there. has) told

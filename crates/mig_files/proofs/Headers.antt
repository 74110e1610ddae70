-- What the first bytes of a slot say.
use Rattle.mig_files.proofs.Common.{Cell, EndsAt, Err, FilesLook, FilesState, HasBytes, HoldsItem, IfSome, IsCopy, IsElsewhere, IsFreeFor, IsName}
use Rattle.mig_files.proofs.Common.{IsSome, List, MayBeEmptied, None, Ok, OnOk, Option, Result, Some, WhereTold, ap, arith, cell_len, image_of}
use Rattle.mig_files.proofs.Common.{false≢true, file_of, header_of, length, offset_of, places, refl, replicate, rules, seen_in, slice_index}
use Rattle.mig_files.proofs.Common.{slice_range, subst, sym, take, take-append_seam, ℕ, ◌++◌, ◌+◌, ◌-◌, ◌<◌, ◌↔◌, ◌∙◌, ◌≡◌, ◌≤◌}
use Rattle.mig_files.specs.Sights.{header_len, window-has}
use Rattle.mig_files.proofs.Derivation.{cell_has}
use Rattle.mig_files.proofs.FilesSteps.{told_before, told_after, bytes_after, bytes_before}
use Rattle.mig_files.proofs.SeenItems.{Sights}

-- a slot that holds an item begins with its header
pub held_is : (s : FilesState) (slot : Cell) (first item : List ℕ) → length first ≡ 34 → length item ≤ 32 → HasBytes (s.reads (file_of slot)) (offset_of slot) 34 first
    → HoldsItem s slot item → first ≡ header_of item
held_is s slot first item len short has holds =
    window-has (s.reads (file_of slot)) (offset_of slot) 34 first len has
    ∙ sym (window-has (s.reads (file_of slot)) (offset_of slot) 34 (header_of item) (header_len item short) holds)

pub header_after : {a b : FilesState} → FilesLook a b → (slot : Cell) (n : ℕ) (first : List ℕ) → WhereTold a slot (HasBytes (a.reads (file_of slot)) (offset_of slot) n first)
    → WhereTold b slot (HasBytes (b.reads (file_of slot)) (offset_of slot) n first)
header_after look slot n first has told = bytes_after look (file_of slot) (offset_of slot) n first (has (told_before look (file_of slot) told))

pub held_by : (s : FilesState) (slot : Cell) (first item : List ℕ) → first ≡ header_of item → WhereTold s slot (HasBytes (s.reads (file_of slot)) (offset_of slot) 34 first)
    → WhereTold s slot (HoldsItem s slot item)
held_by s slot first item is has told = subst (λ (l : List ℕ). HasBytes (s.reads (file_of slot)) (offset_of slot) 34 l) is (has told)

range_at : (bytes : List ℕ) (k i : ℕ) → i < k → k ≤ length bytes → slice_index (slice_range bytes 0 k) i ≡ slice_index bytes i
range_at bytes k i lt fits = search (rules, places)

-- the first bytes of these
pub first_has : (s : FilesState) (slot : Cell) (n : ℕ) (bytes first : List ℕ) → 34 ≤ n → n ≤ length bytes → first ≡ slice_range bytes 0 34
    → WhereTold s slot (HasBytes (s.reads (file_of slot)) (offset_of slot) n bytes)
    → WhereTold s slot (HasBytes (s.reads (file_of slot)) (offset_of slot) 34 first)
first_has s slot n bytes first le fits same has told i lt =
    ap (λ (l : List ℕ). slice_index l i) same ∙ range_at bytes 34 i lt (omega (arith, le, fits)) ∙ has told i (omega (arith, lt, le))

-- with other first bytes it doesn't hold the item
pub not_held : (s : FilesState) (slot : Cell) (first item : List ℕ) → length first ≡ 34 → IsName item → ¬ (first ≡ header_of item)
    → WhereTold s slot (HasBytes (s.reads (file_of slot)) (offset_of slot) 34 first) → WhereTold s slot (¬ HoldsItem s slot item)
not_held s slot first item len name not has told holds = not (held_is s slot first item len name.short (has told) holds)

-- a whole cell that was read
pub whole_read : (s : FilesState) (cell : Cell) (n : ℕ) (bytes : List ℕ) → n ≡ cell_len cell → length bytes ≡ cell_len cell
    → WhereTold s cell (HasBytes (s.reads (file_of cell)) (offset_of cell) n bytes)
    → IfSome (image_of s cell) (λ told. bytes ≡ told)
whole_read s cell n bytes is_n len has =
    cell_has s cell bytes len (λ told. subst (λ (m : ℕ). HasBytes (s.reads (file_of cell)) (offset_of cell) m bytes) is_n (has told))
    (λ told. bytes ≡ told) refl

-- the name in a header
pub name_range : (item : List ℕ) → slice_range (header_of item) 2 (2 + length item) ≡ item
name_range item = ap (λ (n : ℕ). take n (item ++ replicate (32 - length item) 0)) (omega arith) ∙ take-append_seam item (replicate (32 - length item) 0)

pub some_of : (r : Option (List ℕ)) (bytes item : List ℕ) → (IsSome r ↔ IsName bytes) → IfSome r (λ n. n ≡ bytes) → bytes ≡ item → IsName item → r ≡ Some item
some_of None bytes item valid value same name = absurd (false≢true (valid.1 (subst IsName (sym same) name)))
some_of (Some n) bytes item valid value same name = ap Some (value ∙ same)

pub on_any : {T E A : Type 0} (r : Result T E) → A → OnOk r A
on_any (Ok x) a = a
on_any (Err e) a = tt

-- zeros past the end of a file are there already
pub emptied : (s : FilesState) (cell : Cell) (zeros : List ℕ) (end : ℕ) → length zeros ≡ cell_len cell → ((i : ℕ) → i < length zeros → slice_index zeros i ≡ 0)
    → end ≤ offset_of cell → WhereTold s cell (EndsAt (s.reads (file_of cell)) end)
    → IfSome (image_of s cell) (λ told. told ≡ zeros)
emptied s cell zeros end len all le ends =
    cell_has s cell zeros len (λ told i lt. all i (omega (arith, lt, len)) ∙ sym (ends told (offset_of cell + i) (omega (arith, le))))
    (λ told. told ≡ zeros) refl

-- what was read is what was written
pub copied : (from to : Option (List ℕ)) (bytes : List ℕ) → IfSome from (λ told. bytes ≡ told) → IfSome to (λ told. told ≡ bytes) → IsCopy from to
copied None to bytes read written = tt
copied (Some f) None bytes read written = tt
copied (Some f) (Some t) bytes read written = written ∙ read

-- a slot held the item before it was looked at
pub held_before : {a b : FilesState} → FilesLook a b → (slot : Cell) (item : List ℕ) → WhereTold b slot (HoldsItem b slot item) → WhereTold a slot (HoldsItem a slot item)
held_before look slot item holds told = bytes_before look (file_of slot) (offset_of slot) 34 (header_of item) (holds (told_after look (file_of slot) told))

-- a header names one item
pub same_item : (a b : List ℕ) → length a ≤ 32 → header_of a ≡ header_of b → a ≡ b
same_item a b short same =
    let count : length a ≡ length b = ap (λ (l : List ℕ). slice_index l 1) same in
    sym (name_range a) ∙ ap (λ (l : List ℕ). slice_range l 2 (2 + length a)) same ∙ ap (λ (n : ℕ). slice_range (header_of b) 2 (2 + n)) count ∙ name_range b

-- a slot holds the item still
pub held_after : {a b : FilesState} → FilesLook a b → (slot : Cell) (item : List ℕ) → HoldsItem a slot item → HoldsItem b slot item
held_after look slot item holds = bytes_after look (file_of slot) (offset_of slot) 34 (header_of item) holds

-- what is free was so before it was looked at
pub free_before : {a b : FilesState} → FilesLook a b → (seen : Sights) (slot : Cell) → MayBeEmptied b seen slot → MayBeEmptied a seen slot
free_before {a} {b} look seen slot free item name told holds = free item name (told_after look (file_of slot) told) (held_after look slot item holds)

-- a slot that is free is free for any item
pub free_for_any : (s : FilesState) (seen : Sights) (slot : Cell) (item : List ℕ) → MayBeEmptied s seen slot → IsFreeFor s seen slot item
free_for_any s seen slot item free other name apart told holds = free other name told holds

-- with an item's header it holds no other
pub free_for_own : (s : FilesState) (seen : Sights) (slot : Cell) (item first : List ℕ) → length first ≡ 34 → first ≡ header_of item
    → WhereTold s slot (HasBytes (s.reads (file_of slot)) (offset_of slot) 34 first) → IsFreeFor s seen slot item
free_for_own s seen slot item first len is has other name apart told holds =
    absurd (apart (same_item other item name.short (sym (held_is s slot first other len name.short (has told) holds) ∙ is)))

-- with one that was seen elsewhere it is free
pub free_by : (s : FilesState) (seen : Sights) (slot : Cell) (item first : List ℕ) → length first ≡ 34 → first ≡ header_of item
    → WhereTold s slot (HasBytes (s.reads (file_of slot)) (offset_of slot) 34 first) → IsElsewhere (seen_in seen) item slot → MayBeEmptied s seen slot
free_by s seen slot item first len is has elsewhere other name told holds =
    let same : other ≡ item = same_item other item name.short (sym (held_is s slot first other len name.short (has told) holds) ∙ is) in
    subst (λ (i : List ℕ). IsElsewhere (seen_in seen) i slot) (sym same) elsewhere

-- with no item's it is
pub free_none : (s : FilesState) (seen : Sights) (slot : Cell) (first : List ℕ) → length first ≡ 34 → ((item : List ℕ) → IsName item → ¬ (first ≡ header_of item))
    → WhereTold s slot (HasBytes (s.reads (file_of slot)) (offset_of slot) 34 first) → MayBeEmptied s seen slot
free_none s seen slot first len none has item name told holds = absurd (none item name (held_is s slot first item len name.short (has told) holds))

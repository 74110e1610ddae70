-- What was read of two slots says what their cells show.
use Rattle.mig_files.proofs.Common.{Cell, FilesState, HasBytes, IfSome, IsName, IsTrue, List, None, Option, Some, WhereTold, ap, image_of, file_of, is_slot}
use Rattle.mig_files.proofs.Common.{length, offset_of, subst, sym, take, ℕ, ◌∙◌, ◌≡◌}
use Rattle.mig_base.specs.Slots.{HasHeader}
use Rattle.mig_files.specs.Seeing.{HoldsCopy}
use Rattle.mig_files.specs.Sights.{slot_len}
use Rattle.mig_files.proofs.Headers.{whole_read}
use Rattle.mig_store.specs.Grounds.{BothHold, IsRestOf, SlotsDiffer}

-- where both cells are told
abbrev Where : (List ℕ → List ℕ → Type 0) → Option (List ℕ) → Option (List ℕ) → Type 0
Where P from to = IfSome from (λ left. IfSome to (λ copied. P left copied))

-- what is so of the bytes that were read is so of the cells
on_cells : (P : List ℕ → List ℕ → Type 0) (from to : Option (List ℕ)) (left copied : List ℕ) → IfSome from (λ told. left ≡ told) → IfSome to (λ told. copied ≡ told)
    → P left copied → Where P from to
on_cells P None to left copied is_from is_to so = tt
on_cells P (Some f) None left copied is_from is_to so = tt
on_cells P (Some f) (Some t) left copied is_from is_to so = subst (λ (l : List ℕ). P l t) is_from (subst (λ (c : List ℕ). P left c) is_to so)

-- the bytes of a slot are those that it shows
shown : (s : FilesState) (slot : Cell) (bytes : List ℕ) → IsTrue (is_slot slot) → length bytes ≡ 4096 → WhereTold s slot (HasBytes (s.reads (file_of slot)) (offset_of slot) 4096 bytes)
    → IfSome (image_of s slot) (λ told. bytes ≡ told)
shown s slot bytes is len has = whole_read s slot 4096 bytes (sym (slot_len slot is)) (len ∙ sym (slot_len slot is)) has

-- of a slot that holds no item there is no copy
copy_none : (from to : Option (List ℕ)) (left : List ℕ) → IfSome from (λ told. left ≡ told) → ((item : List ℕ) → IsName item → ¬ HasHeader item left)
    → Where (λ l copied. (item : List ℕ) → BothHold l copied item → IsRestOf l copied) from to
copy_none None to left is_from none = tt
copy_none (Some f) None left is_from none = tt
copy_none (Some f) (Some t) left is_from none = λ item both. absurd (none item both.name (ap (λ (l : List ℕ). take 34 l) is_from ∙ both.from))

module _ (s : FilesState) (from to : Cell) (slots : IsTrue (is_slot from) × IsTrue (is_slot to)) (left : List ℕ) (len : length left ≡ 4096)
    (read : WhereTold s from (HasBytes (s.reads (file_of from)) (offset_of from) 4096 left)) where
  pub no_copy : ((item : List ℕ) → IsName item → ¬ HasHeader item left) → HoldsCopy (image_of s) from to
  no_copy none = copy_none (image_of s from) (image_of s to) left (shown s from left slots.0 len read) none

  module _ (copied : List ℕ) (long : length copied ≡ 4096) (beside : WhereTold s to (HasBytes (s.reads (file_of to)) (offset_of to) 4096 copied)) where
    on_slots : (P : List ℕ → List ℕ → Type 0) → P left copied → Where P (image_of s from) (image_of s to)
    on_slots P so =
        on_cells P (image_of s from) (image_of s to) left copied (shown s from left slots.0 len read) (shown s to copied slots.1 long beside) so

    pub copy_by : IsRestOf left copied → HoldsCopy (image_of s) from to
    copy_by rest = on_slots (λ l c. (item : List ℕ) → BothHold l c item → IsRestOf l c) (λ item both. rest)

    -- the second holds another item
    pub other_copy : (item : List ℕ) → HasHeader item left → ¬ HasHeader item copied → HoldsCopy (image_of s) from to
    other_copy item has not = on_slots (λ l c. (own : List ℕ) → BothHold l c own → IsRestOf l c) (λ own both. absurd (not (both.to ∙ sym both.from ∙ has)))

    pub differ_by : (item : List ℕ) → BothHold left copied item → ¬ IsRestOf left copied → SlotsDiffer (image_of s) from to
    differ_by item both not = on_slots (λ l c. (i : List ℕ) × BothHold l c i × ¬ IsRestOf l c) (item, both, not)

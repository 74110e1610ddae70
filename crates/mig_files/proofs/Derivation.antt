-- A change of files is a change of the cells that are read off them.
use Rattle.mig_files.proofs.Common.{Bool, Cell, Changes, Ends, EndsAt, Err, Event, FilesChange, FilesLook, FilesState, FilesWrite, HasBytes, IfSome}
use Rattle.mig_files.proofs.Common.{Image, PlaceBytes, IsFilesState, IsLeftBut, IsLeftFilesBut, IsSettled, IsSettledAt, IsTrue, IsWithin, List}
use Rattle.mig_files.proofs.Common.{NoByte, NoCell, None, Ok, OnOk, Place, Result, SameBut, SameFilesBut, Some, [], ap, arith, cell_len, cell_state}
use Rattle.mig_files.proofs.Common.{cells-shape, cells_of, image_of, file_of, if◌then◌else◌, inl, inr, length, offset_of, refl, rules, subst, suc}
use Rattle.mig_files.proofs.Common.{sym, zero, ℕ, ◌+◌, ◌<◌, ◌∙◌, ◌∷◌, ◌≡◌}
use Rattle.mig_files.specs.Derived.{window}
use Rattle.mig_files.specs.Sights.{on_told, window-has}
use Rattle.mig_files.proofs.Apart.{apart}
use Rattle.mig_calls.proofs.FilesSteps.{change_then, look_change}
use Rattle.mig_files.proofs.FilesSteps.{bytes_before, told_before, told_after}

window-same : (f g : ℕ → ℕ) (at n : ℕ) → ((i : ℕ) → i < n → g (at + i) ≡ f (at + i)) → window g at n ≡ window f at n
unfolding window
window-same f g at zero same = refl
window-same f g at (suc n) same =
    let here : at + 0 ≡ at = omega arith in
    let first : g at ≡ f at = subst (λ (k : ℕ). g k ≡ f k) here (same 0 (omega arith)) in
    let rest : window g (suc at) n ≡ window f (suc at) n = window-same f g (suc at) n
    (λ i lt. let there : at + suc i ≡ suc at + i = omega arith in subst (λ (k : ℕ). g k ≡ f k) there (same (suc i) (omega arith))) in
    λ k. first k ∷ rest k

-- cells but these have none of the bytes
abbrev pub Spares : (Cell → Type 0) → (Place → ℕ → Type 0) → Type 0
Spares R P = (cell : Cell) → ¬ R cell → (i : ℕ) → i < cell_len cell → ¬ P (file_of cell) (offset_of cell + i)

pub spares_none : (R : Cell → Type 0) → Spares R NoByte
spares_none R cell out i lt none = none

pub spares_cell : (cell : Cell) → Spares (λ c. c ≡ cell) (IsWithin (file_of cell) (offset_of cell) (cell_len cell))
spares_cell cell c out i lt is = apart c cell out i lt is

module _ (R : Cell → Type 0) (P : Place → ℕ → Type 0) (spares : Spares R P) where
  pub cells_same : (told : Place → Bool) (old new : PlaceBytes) → SameFilesBut P old new → SameBut R (cells_of told old) (cells_of told new)
  cells_same told old new same = record {
    same = λ cell out. ap (λ (bytes : List ℕ). if told (file_of cell) then Some bytes else None)
        (window-same (old (file_of cell)) (new (file_of cell)) (offset_of cell) (cell_len cell) (λ i lt. same (file_of cell) (offset_of cell + i) (spares cell out i lt)));
    shape = λ cell. cells-shape told new old cell;
  }

module _ (R S : Cell → Type 0) (P Q : Place → ℕ → Type 0) (spares : Spares R P) (spared : Spares S Q) (added : List Event) (old new : FilesState) (a b : ℕ) (law : IsFilesState old)
    (change : FilesChange P Q old new) where
  left_before : (image : Image) (files : PlaceBytes) → IsLeftFilesBut Q old files → image ≡ cells_of new.told files → IsLeftBut S (cell_state old a) image
  left_before image files (before, was, same) is =
      let now : image ≡ cells_of old.told files = is ∙ ap (λ (told : Place → Bool). cells_of told files) change.told in
      (cells_of old.told before, (before, was, refl), subst (λ (all : Image). SameBut S (cells_of old.told before) all) (sym now) (cells_same S Q spared old.told before files same))

  pub lifted : Changes R S added (cell_state old a) (cell_state new b)
  lifted = record {
    told = subst (λ (told : Place → Bool). SameBut R (cells_of old.told old.reads) (cells_of told new.reads)) (sym change.told) (cells_same R P spares old.told old.reads new.reads change.bytes);
    crash = λ image left. left_before image left.0 (change.crash left.0 left.1) left.2;
    time = record {
      later = change.later;
      since = λ t image le left. elim (change.since t left.0 le left.1) [
        | inl was ↦ inl (left.0, was, left.2 ∙ ap (λ (told : Place → Bool). cells_of told left.0) change.told)
        | inr some ↦ inr (left_before image left.0 some left.2)
      ];
    };
    keeps = λ t image le left. (left.0, change.keeps t left.0 le left.1, left.2 ∙ ap (λ (told : Place → Bool). cells_of told left.0) (sym change.told));
    images = λ left. (new.reads, change.images (law.reads_left left.0 left.1), refl);
    events = refl;
  }

-- what is so of the bytes that a cell's file has there is so of the cell
pub cell_has : (s : FilesState) (cell : Cell) (bytes : List ℕ) → length bytes ≡ cell_len cell
    → (IsTrue (s.told (file_of cell)) → HasBytes (s.reads (file_of cell)) (offset_of cell) (cell_len cell) bytes)
    → (P : List ℕ → Type 0) → P bytes → IfSome (image_of s cell) P
cell_has s cell bytes len has P so =
    on_told s cell P (λ told. subst P (window-has (s.reads (file_of cell)) (offset_of cell) (cell_len cell) bytes len (has told)) so)

-- all files are settled, so all cells are
pub cells_settled : (s : FilesState) (faults : ℕ) → ((cell : Cell) → IsSettledAt s (file_of cell)) → IsSettled (cell_state s faults)
cells_settled s faults settled image (files, left, is) = subst (λ (all : Image). SameBut NoCell (image_of s) all) (sym is) (record {
  same = λ cell out. ap (λ (bytes : List ℕ). if s.told (file_of cell) then Some bytes else None)
      (window-same (s.reads (file_of cell)) (files (file_of cell)) (offset_of cell) (cell_len cell) (λ i lt. settled cell files left (offset_of cell + i)));
  shape = λ cell. cells-shape s.told files s.reads cell;
})

-- a write to one cell
pub cell_changes : (cell : Cell) (added : List Event) {old new : FilesState} {a b : ℕ} → IsFilesState old → FilesWrite (file_of cell) (offset_of cell) (cell_len cell) old new
    → Changes (λ c. c ≡ cell) (λ c. c ≡ cell) added (cell_state old a) (cell_state new b)
cell_changes cell added {old} {new} {a} {b} law change =
    lifted (λ c. c ≡ cell) (λ c. c ≡ cell) (IsWithin (file_of cell) (offset_of cell) (cell_len cell)) (IsWithin (file_of cell) (offset_of cell) (cell_len cell)) (spares_cell cell)
    (spares_cell cell) added old new a b law change

-- nothing is written
pub cell_looks : {R : Cell → Type 0} {old new : FilesState} {a b : ℕ} → IsFilesState old → FilesLook old new → Changes R NoCell [] (cell_state old a) (cell_state new b)
cell_looks {R} {old} {new} {a} {b} law look = lifted R NoCell NoByte NoByte (spares_none R) (spares_none NoCell) [] old new a b law look

pub ends_none : {old new : FilesState} {a b : ℕ} → IsFilesState old → FilesLook old new → Ends [] (cell_state old a) (cell_state new b)
ends_none {old} {new} {a} {b} law look = record {
  change = cell_looks law look;
  copied = λ k d lt. absurd (omega (arith, lt));
  gone = λ k d lt. absurd (omega (arith, lt));
  others = search rules;
}

-- an answer that says what another says
pub on_ok : {T E A B : Type 0} (r : Result T E) → OnOk r A → (A → B) → OnOk r B
on_ok (Ok x) a f = f a
on_ok (Err e) a f = tt

-- the first bytes of a cell that were read where other files were looked at before
pub part_read : {old mid : FilesState} (cell : Cell) {file : Place} {at : ℕ} (n : ℕ) (bytes : List ℕ) → FilesLook old mid → file ≡ file_of cell → at ≡ offset_of cell
    → (IsTrue (mid.told file) → HasBytes (mid.reads file) at n bytes) → IsTrue (old.told (file_of cell)) → HasBytes (old.reads (file_of cell)) (offset_of cell) n bytes
part_read {old} {mid} cell {file} {at} n bytes look is_file is_at has told =
    let Says : Place → ℕ → Type 0 = λ p a. IsTrue (mid.told p) → HasBytes (mid.reads p) a n bytes in
    let here : Says (file_of cell) (offset_of cell) = subst (λ (a : ℕ). Says (file_of cell) a) is_at (subst (λ (p : Place). Says p at) is_file has) in
    bytes_before look (file_of cell) (offset_of cell) n bytes (here (told_after look (file_of cell) told))

-- where the file of a cell ends
pub end_at_cell : (s : FilesState) (cell : Cell) {file : Place} (n : ℕ) → file ≡ file_of cell → (IsTrue (s.told file) → EndsAt (s.reads file) n) → IsTrue (s.told (file_of cell))
    → EndsAt (s.reads (file_of cell)) n
end_at_cell s cell n is_file ends = subst (λ (p : Place). IsTrue (s.told p) → EndsAt (s.reads p) n) is_file ends

-- it ends there still
pub end_after : {a b : FilesState} → FilesLook a b → (place : Place) (n : ℕ) → (IsTrue (a.told place) → EndsAt (a.reads place) n) → IsTrue (b.told place) → EndsAt (b.reads place) n
end_after look place n ends told i le = look.bytes place i (λ none. none) ∙ ends (told_before look place told) i le

pub cell_written_at : (s : FilesState) (cell : Cell) {file : Place} {at : ℕ} (bytes : List ℕ) → file ≡ file_of cell → at ≡ offset_of cell → length bytes ≡ cell_len cell
    → (IsTrue (s.told file) → HasBytes (s.reads file) at (length bytes) bytes) → IfSome (image_of s cell) (λ told. told ≡ bytes)
cell_written_at s cell {file} {at} bytes is_file is_at is_n has =
    let Says : Place → ℕ → ℕ → Type 0 = λ p a m. IsTrue (s.told p) → HasBytes (s.reads p) a m bytes in
    cell_has s cell bytes is_n (subst (λ (m : ℕ). Says (file_of cell) (offset_of cell) m) is_n
    (subst (λ (a : ℕ). Says (file_of cell) a (length bytes)) is_at (subst (λ (p : Place). Says p at (length bytes)) is_file has)))
    (λ told. told ≡ bytes) refl

pub write_at_cell : (cell : Cell) {file : Place} {at n : ℕ} {a b c : FilesState} → file ≡ file_of cell → at ≡ offset_of cell → n ≡ cell_len cell → FilesLook a b
    → FilesWrite file at n b c → FilesWrite (file_of cell) (offset_of cell) (cell_len cell) a c
write_at_cell cell {file} {at} {n} {a} {b} {c} is_file is_at is_n look write =
    change_then (look_change look)
    (subst (λ (m : ℕ). FilesWrite (file_of cell) (offset_of cell) m b c) is_n
    (subst (λ (k : ℕ). FilesWrite (file_of cell) k n b c) is_at (subst (λ (p : Place). FilesWrite p at n b c) is_file write)))

-- files that were only looked at show what they showed
image_same : {a b : FilesState} → FilesLook a b → image_of b ≡ image_of a
image_same {a} {b} look =
    let same : cells_of a.told b.reads ≡ cells_of a.told a.reads = λ k cell.
    (cells_same NoCell NoByte (spares_none NoCell) a.told a.reads b.reads look.bytes).same cell (λ none. none) k in
    ap (λ (t : Place → Bool). cells_of t b.reads) look.told ∙ same

pub image_before : (P : Image → Type 0) {a b : FilesState} → FilesLook a b → P (image_of b) → P (image_of a)
image_before P look = subst P (image_same look)

-- what was written is there still
pub written_after : {a b : FilesState} → FilesLook a b → (cell : Cell) (bytes : List ℕ) → IfSome (image_of a cell) (λ told. told ≡ bytes)
    → IfSome (image_of b cell) (λ told. told ≡ bytes)
written_after look cell bytes = subst (λ (image : Image). IfSome (image cell) (λ told. told ≡ bytes)) (sym (image_same look))

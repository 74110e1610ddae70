-- What a store of cells tells, read off what its files tell.
use Rattle.std.specs.Prelude.{◌≡◌, ℕ, zero, suc, Bool, true, false, List, [], ◌∷◌, length, Option, Some, None, if◌then◌else◌, refl}
use Rattle.std.specs.Option.{option_map}
use Rattle.std.proofs.Common.{sym, ◌∙◌, ap}
use Rattle.mig_base.specs.declared.cells.Cell.{Cell}
use Rattle.mig_base.specs.Cells.{cell_len}
use Rattle.mig_base.specs.Images.{Image}
use Rattle.mig_base.specs.Stores.{State, IsState}
use Rattle.mig_calls.specs.declared.places.Place.{Place}
use Rattle.mig_calls.specs.Places.{file_of, offset_of}
use Rattle.mig_calls.specs.Files.{FilesState, IsFilesState, PlaceBytes}

-- n bytes of a file, from an offset on
unfoldable pub window : (ℕ → ℕ) → ℕ → ℕ → List ℕ
window file at zero = []
window file at (suc n) = file at ∷ window file (suc at) n

-- the bytes of a cell
abbrev pub cell_bytes : PlaceBytes → Cell → List ℕ
cell_bytes files cell = window (files (file_of cell)) (offset_of cell) (cell_len cell)

-- those of each cell whose file is told
abbrev pub cells_of : (Place → Bool) → PlaceBytes → Image
cells_of told files cell = if told (file_of cell) then Some (cell_bytes files cell) else None

-- what these files show
abbrev pub image_of : FilesState → Image
image_of s = cells_of s.told s.reads

-- The store tells the cells of what its files tell, and no events.
abbrev pub cell_state : FilesState → ℕ → State
cell_state s faults = record {
  reads = image_of s;
  may_leave = λ image. (files : PlaceBytes) × s.may_leave files × (image ≡ cells_of s.told files);
  moment = s.moment;
  left_since = λ t image. (files : PlaceBytes) × s.left_since t files × (image ≡ cells_of s.told files);
  events = None;
  faults = faults;
}

-- the store tells what these files tell, and no events
pub record ShowsFiles (files : FilesState) (store : State) : Type 0 where
  pub reads : store.reads ≡ image_of files
  pub left : (image : Image) → store.may_leave image → (some : PlaceBytes) × files.may_leave some × (image ≡ cells_of files.told some)
  pub leaves : (some : PlaceBytes) → files.may_leave some → store.may_leave (cells_of files.told some)
  pub events : store.events ≡ None
  pub faults : store.faults ≡ files.faults

-- it does where it is made of them
pub shows_files : (files : FilesState) → ShowsFiles files (cell_state files files.faults)
shows_files files = record {
  reads = refl;
  left = λ image is. is;
  leaves = λ some is. (some, is, refl);
  events = refl;
  faults = refl;
}

pub window-len : (file : ℕ → ℕ) (at n : ℕ) → length (window file at n) ≡ n
unfolding window
window-len file at zero = refl
window-len file at (suc n) = ap suc (window-len file (suc at) n)

-- which cells are told, and how many bytes each has, is the same for all that the files may hold
pub cells-shape : (told : Place → Bool) (a b : PlaceBytes) (cell : Cell) → option_map length (cells_of told a cell) ≡ option_map length (cells_of told b cell)
cells-shape told a b cell = at (told (file_of cell))
  where
    at : (t : Bool) → option_map length (if t then Some (cell_bytes a cell) else None) ≡ option_map length (if t then Some (cell_bytes b cell) else None)
    at true = ap Some (window-len (a (file_of cell)) (offset_of cell) (cell_len cell) ∙ sym (window-len (b (file_of cell)) (offset_of cell) (cell_len cell)))
    at false = refl

-- what files keep makes what a store keeps
pub cell_is_state : (s : FilesState) (faults : ℕ) → IsFilesState s → IsState (cell_state s faults)
cell_is_state s faults law = record {
  counts_now = λ t image le left. (left.0, law.counts_now t left.0 le left.1, left.2);
  only_now = λ image left. (left.0, law.only_now left.0 left.1, left.2);
  reads_left = λ image left. (s.reads, law.reads_left left.0 left.1, refl);
  shape = λ image left cell. ap (λ (o : Option (List ℕ)). option_map length o) (ap (λ (all : Image). all cell) left.2) ∙ cells-shape s.told left.0 s.reads cell;
}

-- Rows of slots, one for each disk, of which some are taken.
use Rattle.std.specs.Prelude.{◌≡◌, ℕ, ◌+◌, ◌<◌, ◌≤◌, ◌^◌, Bool, true, false, List, length, replicate, slice_index, slice_index_or, Contains}
use Rattle.std.specs.declared.alloc.Global.{Global}
use Rattle.std.specs.declared.vec.Vec.{Vec}
use Rattle.mig_base.specs.declared.ids.Spot.{Spot}
use Rattle.mig_base.specs.InputLists.{InputLists}
use Rattle.mig_base.specs.Targets.{present, incoming}
use Rattle.mig_plan.specs.Cursors.{spot}

-- whether a slot of a row is taken; one that the row doesn't have counts as taken
abbrev pub is_taken : List Bool → ℕ → Bool
is_taken row slot = slice_index_or row slot true

-- the row of a disk
abbrev pub row_at : List (Vec Bool Global) → ℕ → Vec Bool Global → List Bool
row_at rows v d = (slice_index_or rows v d).items

-- the first slot from `from` on that isn't taken
pub record IsFirstFree (row : List Bool) (from slot : ℕ) : Type 0 where
  pub from_on : from ≤ slot
  pub there : slot < length row
  pub free : is_taken row slot ≡ false
  pub lower : (s : ℕ) → from ≤ s → s < slot → is_taken row s ≡ true

-- each disk's number isn't less than the items that it has and those that come to it
pub record AreWidths (input : InputLists) (widths : List ℕ) : Type 0 where
  pub len : length widths ≡ length input.disks
  pub enough : (v : ℕ) → v < length input.disks → present input v + incoming input v ≤ slice_index widths v
  pub few : (v : ℕ) → v < length input.disks → slice_index widths v ≤ 2 ^ 17

-- rows of these lengths, in which nothing is taken
pub record AreFree (widths : List ℕ) (rows : List (Vec Bool Global)) : Type 0 where
  pub len : length rows ≡ length widths
  pub row : (v : ℕ) (d : Vec Bool Global) → v < length rows → row_at rows v d ≡ replicate (slice_index widths v) false

-- rows of these lengths, in which the slots of these spots are taken
pub record AreTaken (widths : List ℕ) (spots : List Spot) (rows : List (Vec Bool Global)) : Type 0 where
  pub len : length rows ≡ length widths
  pub width : (v : ℕ) (d : Vec Bool Global) → v < length rows → length (row_at rows v d) ≡ slice_index widths v
  pub known : (v s : ℕ) (d : Vec Bool Global) → v < length rows → s < slice_index widths v → is_taken (row_at rows v d) s ≡ true → Contains spots (spot v s)
  pub all : (v s : ℕ) (d : Vec Bool Global) → v < length rows → Contains spots (spot v s) → is_taken (row_at rows v d) s ≡ true

-- the same of the spots that items have now, with rows that are long enough for all that come
pub record AreTakenSlots (input : InputLists) (rows : List (Vec Bool Global)) : Type 0 where
  pub len : length rows ≡ length input.disks
  pub enough : (v : ℕ) (d : Vec Bool Global) → v < length rows → present input v + incoming input v ≤ length (row_at rows v d)
  pub few : (v : ℕ) (d : Vec Bool Global) → v < length rows → length (row_at rows v d) ≤ 2 ^ 17
  pub known : (v s : ℕ) (d : Vec Bool Global) → v < length rows → s < length (row_at rows v d) → is_taken (row_at rows v d) s ≡ true → Contains input.spots (spot v s)
  pub all : (v s : ℕ) (d : Vec Bool Global) → v < length rows → Contains input.spots (spot v s) → is_taken (row_at rows v d) s ≡ true

-- The shifts of the edges of each colour.
use Rattle.std.specs.Prelude.{◌≡◌, ℕ, ◌<◌, ◌==◌, Bool, not, List, length, map, slice_index_or}
use Rattle.std.specs.declared.alloc.Global.{Global}
use Rattle.std.specs.declared.vec.Vec.{Vec}
use Rattle.mig_base.specs.declared.ids.Colour.{Colour}
use Rattle.mig_base.specs.declared.ids.Spot.{Spot}
use Rattle.mig_base.specs.declared.ids.Shift.{Shift}
use Rattle.mig_base.specs.InputLists.{InputLists}
use Rattle.mig_base.specs.Planned.{move_shift}
use Rattle.mig_base.specs.Colourings.{edges_of}

-- the shifts of the first n edges of one colour
abbrev pub colour_row : InputLists → List Spot → List Colour → ℕ → ℕ → List Shift
colour_row input targets colours c n = map (move_shift input targets) (edges_of colours c n)

-- each row has the shifts of its colour among the first n edges
pub record AreColourRows (input : InputLists) (targets : List Spot) (colours : List Colour) (n : ℕ) (rows : List (Vec Shift Global)) : Type 0 where
  pub row : (c : ℕ) (d : Vec Shift Global) → c < length rows → (slice_index_or rows c d).items ≡ colour_row input targets colours c n

-- the shifts that a row has
abbrev pub items_of : Vec Shift Global → List Shift
items_of row = row.items

-- whether there is one
abbrev pub is_filled : List Shift → Bool
is_filled row = not (length row == 0)

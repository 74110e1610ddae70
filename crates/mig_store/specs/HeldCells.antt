-- Cells that are held in a list.
use Rattle.std.specs.Prelude.{◌≡◌, ℕ, List, [], ◌∷◌, Option, Some, None, IfSome, if◌then◌else◌, length, replicate}
use Rattle.std.specs.Option.{option_map}
use Rattle.mig_base.specs.declared.cells.Cell.{Cell}
use Rattle.mig_base.specs.Cells.{is_cell, cell_len}
use Rattle.mig_store.specs.declared.held.Held.{Held}

-- the cell of which something is held
abbrev pub cell_of : {T : Type 0} → Held T → Cell
cell_of h = h.cell

-- what the first of these holds of a cell
abbrev pub held_at : {T : Type 0} → List (Held T) → Cell → Option T
held_at [] cell = None
held_at (h ∷ held) cell = if is_cell h.cell cell then Some h.value else held_at held cell

-- the cells, with one of them changed, if it is there
abbrev pub change_at : {T : Type 0} → (T → T) → Cell → (Cell → Option T) → Cell → Option T
change_at f cell cells other = if is_cell cell other then option_map f (cells other) else cells other

-- the cells, with this value at one of them, if it is there
abbrev pub put_at : {T : Type 0} → Cell → T → (Cell → Option T) → Cell → Option T
put_at cell value = change_at (λ old. value) cell

-- each cell has as many bytes as its kind
abbrev pub HasLengths : List (Held (List ℕ)) → Type 0
HasLengths held = (cell : Cell) → IfSome (held_at held cell) (λ bytes. length bytes ≡ cell_len cell)

-- a cell that was never written
abbrev pub zero_bytes : Cell → List ℕ
zero_bytes cell = replicate (cell_len cell) 0

abbrev pub zero_held : Cell → Held (List ℕ)
zero_held cell = record { cell = cell; value = zero_bytes cell }

-- the cell, with another value
abbrev pub held_map : {T U : Type 0} → (T → U) → Held T → Held U
held_map f h = record { cell = h.cell; value = f h.value }

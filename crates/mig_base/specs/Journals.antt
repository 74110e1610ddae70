-- What an image shows of a journal: whether a plan is carried out, and how many of its rounds are.
use Rattle.std.specs.Prelude.{◌==◌, Bool, false, ℕ, List, [], ◌∷◌, Option, Some, if◌then◌else◌}
use Rattle.std.specs.List.{prefix_len, range_with_len}
use Rattle.mig_base.specs.declared.cells.Cell.TheVariants.{Gate, Mark}
use Rattle.mig_base.specs.Images.{Image}

-- whether a cell holds the one byte 1
abbrev pub is_one : Option (List ℕ) → Bool
is_one (Some (byte ∷ [])) = byte == 1
is_one bytes = false

-- whether the gate is 1: a plan is being carried out, or was
abbrev pub is_armed : Image → Bool
is_armed image = is_one (image Gate)

-- whether the mark of a round is 1
abbrev pub is_marked : Image → ℕ → Bool
is_marked image round = is_one (image (Mark round))

-- how many rounds are carried out, of so many: where the gate is 1, the marks from the first on that are 1
abbrev pub count_of : ℕ → Image → ℕ
count_of rounds image = if is_armed image then prefix_len (is_marked image) (range_with_len 1 rounds) else 0

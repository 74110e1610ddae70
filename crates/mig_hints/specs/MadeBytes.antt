-- What `fill` writes after the header of a slot.
use Rattle.std.specs.Prelude.{◌≡◌, ◌≤◌, ◌<◌, ◌-◌, ◌%◌, List, ℕ, length, slice_index_or}

-- the name over and over, from byte 34 to the end
abbrev pub HoldsNames : List ℕ → List ℕ → Type 0
HoldsNames slot name = (k : ℕ) → 34 ≤ k → k < 4096 → slice_index_or slot k 0 ≡ slice_index_or name ((k - 34) % length name) 0

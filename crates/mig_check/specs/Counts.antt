-- What is counted of moves.
use Rattle.std.specs.Prelude.{◌≡◌, ◌⊎◌, ◌&&◌, ℕ, ◌<◌, Bool, IsTrue, List, count_by, length, slice_index}
use Rattle.std.specs.List.{range_with_len}
use Rattle.mig_base.specs.InputLists.{InputLists}
use Rattle.mig_base.specs.Transfers.{Transfer, is_relocated, transfer, transfers}
use Rattle.mig_check.specs.declared.parts.Part.{Part}
use Rattle.mig_check.specs.Parts.{part_load}

-- so many shifts are counted of the item: more than one, or some where it isn't relocated
abbrev pub IsTooOften : InputLists → List ℕ → ℕ → Type 0
IsTooOften input counts item = (item < length input.items) × ((1 < slice_index counts item) ⊎ ((0 < slice_index counts item) × ¬ IsTrue (is_relocated input item)))

-- the list has for each disk how many moves count at it
pub record AreLoadsOf (part : Part) (input : InputLists) (loads : List ℕ) : Type 0 where
  pub len : length loads ≡ length input.disks
  pub each : (v : ℕ) → v < length loads → slice_index loads v ≡ part_load part v (transfers input)

-- how many of the first n items are relocated by a transfer that passes the test
abbrev pub passing : InputLists → (Transfer → Bool) → ℕ → ℕ
passing input p n = count_by (λ item. is_relocated input item && p (transfer input item)) (range_with_len 0 n)

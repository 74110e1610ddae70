-- Pieces of printed texts.
use Rattle.std.specs.Prelude.{ℕ, List, ◌∷◌, ◌++◌}
use Rattle.std.specs.Fmt.{decimal}
use Rattle.mig_base.specs.declared.ids.Spot.{Spot}
use Rattle.mig_base.specs.InputLists.{InputLists}
use Rattle.mig_base.specs.Texts.{disk_name}

-- a disk's name and a slot, with the separator before each
abbrev pub spot_text : InputLists → ℕ → Spot → List ℕ
spot_text input separator s = separator ∷ (disk_name input s.disk.0 ++ (separator ∷ decimal s.slot))

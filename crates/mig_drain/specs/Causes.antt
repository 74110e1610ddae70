-- Why a disk isn't emptied.
use Rattle.std.specs.Prelude.{◌≡◌, ◌<◌, ℕ}
use Rattle.mig_base.specs.InputLists.{InputLists}
use Rattle.mig_base.specs.Targets.{present}
use Rattle.mig_base.specs.Draining.{free_elsewhere}
use Rattle.mig_drain.specs.declared.errors.DrainError.{DrainError}
use Rattle.mig_drain.specs.declared.errors.DrainError.TheVariants.{Memory, NoRoom}

-- what each refusal says of the input
abbrev pub IsDrainCause : InputLists → ℕ → DrainError → Type 0
IsDrainCause input v (NoRoom items free) = (items ≡ present input v) × (free ≡ free_elsewhere input v) × (free < items)
IsDrainCause input v Memory = Unit {0}

-- What a refusal of a plan says.
use Rattle.std.specs.Prelude.{◌≡◌, ◌<◌, ◌≤◌, ⊤, ℕ, length}
use Rattle.mig_base.specs.InputLists.{InputLists}
use Rattle.mig_base.specs.TightPlans.{Fits, HasFreeSlot, HasMove, HasNoPlan, slots_of, wanted}
use Rattle.mig_tight.specs.declared.errors.TightError.{TightError}
use Rattle.mig_tight.specs.declared.errors.TightError.TheVariants.{TooMany, NoFree, Memory}

-- the first disk that is the next disk of more items than it has slots, with both numbers
pub record IsFirstOverfull (input : InputLists) (v needs slots : ℕ) : Type 0 where
  pub there : v < length input.disks
  pub needs_is : needs ≡ wanted input v
  pub slots_is : slots ≡ slots_of input v
  pub over : slots < needs
  pub first : (u : ℕ) → u < v → wanted input u ≤ slots_of input u

-- what each refusal says of the input
abbrev pub IsTightCause : InputLists → TightError → Type 0
IsTightCause input (TooMany disk needs slots) = IsFirstOverfull input disk.0 needs slots
IsTightCause input NoFree = Fits input × HasMove input × ¬ HasFreeSlot input
IsTightCause input Memory = ⊤

-- where it isn't for want of memory, there is no plan
abbrev pub HasNoPlanUnlessMemory : InputLists → TightError → Type 0
HasNoPlanUnlessMemory input (TooMany disk needs slots) = HasNoPlan input
HasNoPlanUnlessMemory input NoFree = HasNoPlan input
HasNoPlanUnlessMemory input Memory = ⊤

-- the refusals that may come where the items don't fit, and where no slot is free
abbrev pub IsTooManyOrMemory : TightError → Type 0
IsTooManyOrMemory (TooMany disk needs slots) = ⊤
IsTooManyOrMemory NoFree = ⊥
IsTooManyOrMemory Memory = ⊤

abbrev pub IsNoFreeOrMemory : TightError → Type 0
IsNoFreeOrMemory (TooMany disk needs slots) = ⊥
IsNoFreeOrMemory NoFree = ⊤
IsNoFreeOrMemory Memory = ⊤

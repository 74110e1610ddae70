-- What a store holds between the rounds of a migration.
use Rattle.std.specs.Prelude.{◌≡◌, ◌⊎◌, Bool, ℕ, suc, List, Some, All}
use Rattle.mig_base.specs.declared.cells.Cell.{Cell}
use Rattle.mig_base.specs.declared.ids.Spot.{Spot}
use Rattle.mig_base.specs.declared.ids.Shift.{Shift}
use Rattle.mig_base.specs.InputLists.{InputLists}
use Rattle.mig_base.specs.Layouts.{At, IsTaken, IsSource, IsTarget, round_at}
use Rattle.mig_base.specs.Images.{Image}
use Rattle.mig_base.specs.Stores.{State, SettledBut}
use Rattle.mig_base.specs.Slots.{slot_of, zeros}
use Rattle.mig_base.specs.Safety.{Contents, IsSoundAfter}
use Rattle.mig_base.specs.JobCells.{IsJobCell, Tells}

-- a slot that round r leaves, or that it goes to
abbrev pub IsSourceSlot : InputLists → List (List Shift) → ℕ → Cell → Type 0
IsSourceSlot input plan r cell = (spot : Spot) × IsSource plan r spot × (slot_of input spot ≡ cell)

abbrev pub IsTargetSlot : InputLists → List (List Shift) → ℕ → Cell → Type 0
IsTargetSlot input plan r cell = (spot : Spot) × IsTarget plan r spot × (slot_of input spot ≡ cell)

-- the slots that may change after mark k and before mark k + 1: what round k left, and what round k + 1 goes to
abbrev pub IsInUse : InputLists → List (List Shift) → ℕ → Cell → Type 0
IsInUse input plan k cell = IsSourceSlot input plan k cell ⊎ IsTargetSlot input plan (suc k) cell

-- the contents stand at each target of round k + 1, and zeros at each source of round k that is free after it
pub record IsCopied (input : InputLists) (plan : List (List Shift)) (contents : Contents) (image : Image) (k : ℕ) : Type 0 where
  pub targets : All (λ s. image (slot_of input s.to) ≡ Some (contents s.item.0)) (round_at plan (suc k))
  pub sources : All (λ s. ¬ IsTaken (At input plan (suc k)) s.from → image (slot_of input s.from) ≡ Some zeros) (round_at plan k)

-- k rounds are carried out: what reads give is sound, zeros stand where round k left, nothing else is unsettled, and the job's cells are told
pub record HasDone (asked : Bool) (input : InputLists) (plan : List (List Shift)) (digest : List ℕ) (contents : Contents) (s : State) (k : ℕ) : Type 0 where
  pub sound : IsSoundAfter asked input plan digest contents s.reads k
  pub erased : All (λ m. s.reads (slot_of input m.from) ≡ Some zeros) (round_at plan k)
  pub settled : SettledBut (IsSourceSlot input plan k) s
  pub tells : Tells (IsJobCell input plan) s.reads

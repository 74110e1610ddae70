-- What `fill` leaves in a store.
use Rattle.std.specs.Prelude.{List, [], false, ℕ, ◌≡◌, ◌⊎◌}
use Rattle.mig_top.specs.Common.{BeginsRun, Changes, Done, Event, FolderState, HasMade, IfSome, InputLists, IsListedCell, IsSettled, IsTargetOf, Outcome, Refusal, Settles, State, StoreFault}
use Rattle.mig_top.specs.Common.{flights, is_armed}
use Rattle.mig_top.specs.Loads.{HoldsLayout}
use Rattle.mig_top.specs.Stores.{IsUntouched}
use Rattle.mig_words.specs.declared.endings.StoreRefusal.TheVariants as refusal

-- the two files, where they are told, stand for this layout
abbrev pub AreOfLayout : FolderState → List ℕ → List ℕ → InputLists → Type 0
AreOfLayout folder disks now input = IfSome folder.files (λ files. HoldsLayout files disks now input)

-- no cell but the slots where items are listed was written, and no copy began
abbrev pub WritesListed : InputLists → State → State → Type 0
WritesListed input old new = (added : List Event) × BeginsRun (flights old) [] added
    × Changes (λ cell. IsTargetOf (flights old) cell ⊎ IsListedCell input cell) (IsListedCell input) added old new

-- the slots that are made for the items stand where the items are listed, a crash leaves them, and the gate isn't 1
pub record IsFilled (input : InputLists) (old new : State) : Type 0 where
  pub made : HasMade input new.reads
  pub settled : IsSettled new
  pub landed : flights new ≡ []
  -- no plan is carried out
  pub idle : is_armed new.reads ≡ false
  pub writes : WritesListed input old new

-- A refusal of the store settled it, and a fault of it may leave anything at listed slots; before that nothing is done with it.
abbrev pub FillLeaves : FolderState → State → State → List ℕ → List ℕ → Outcome → Type 0
FillLeaves folder old new disks now (Done text) = (input : InputLists) × AreOfLayout folder disks now input × IsFilled input old new
FillLeaves folder old new disks now (StoreFault before) = (input : InputLists) × AreOfLayout folder disks now input × WritesListed input old new
FillLeaves folder old new disks now (Refusal refusal.Started) = Settles old new
FillLeaves folder old new disks now (Refusal (refusal.Occupied disk slot)) = Settles old new
FillLeaves folder old new disks now o = IsUntouched old new

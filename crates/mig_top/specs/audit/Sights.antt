-- What `audit` says of the slots where items are listed, and what its parts give.
use Rattle.std.specs.Prelude.{Bool, List, MatchBool, [], codes, if◌then◌else◌, length, slice_index_or, suc, zero, ℕ, ◌++◌, ◌+◌, ◌-◌, ◌<◌, ◌∷◌, ◌≡◌, ◌≤◌}
use Rattle.mig_top.specs.Common.{Extends, ExtendsInPart, HasHeader, IfSome, InputLists, IsMoving, Rose, Sight, SinkState, Spot, State, decimal, disk_name, encode_lower, item_cell, item_name, joined}
use Rattle.mig_top.specs.Common.{no_spot, sha256}
use Rattle.mig_top.specs.declared.audit_command.AuditStop.{AuditStop}
use Rattle.mig_top.specs.declared.audit_command.AuditStop.TheVariants as stop

-- where the item's slot is told and no copy to it is in flight: whether its header names the item, and its digest
pub record IsSightOf (input : InputLists) (store : State) (item : ℕ) (sight : Sight) : Type 0 where
  pub named : ¬ IsMoving store (item_cell input item)
      → IfSome (store.reads (item_cell input item)) (λ slot. MatchBool sight.named (HasHeader (item_name input item) slot) (¬ HasHeader (item_name input item) slot))
  pub digest : ¬ IsMoving store (item_cell input item) → IfSome (store.reads (item_cell input item)) (λ slot. sight.digest ≡ sha256 slot)

-- the spot where an item is listed
abbrev pub listed_spot : InputLists → ℕ → Spot
listed_spot input item = slice_index_or input.spots item no_spot

-- `ITEM DISK SLOT here HEX`, or `lost` in place of `here`
abbrev pub sight_line : InputLists → ℕ → Sight → List ℕ
sight_line input item sight = joined (item_name input item ∷ codes " " ∷ disk_name input (listed_spot input item).disk.0 ∷ codes " " ∷ decimal (listed_spot input item).slot
    ∷ (if sight.named then codes " here " else codes " lost ") ∷ encode_lower sight.digest ∷ codes "\n" ∷ [])

-- the lines of the first so many items, and how many of these are named
abbrev pub AreSightLines : InputLists → State → ℕ → List ℕ → ℕ → Type 0
AreSightLines input store zero text here = (text ≡ []) × (here ≡ 0)
AreSightLines input store (suc item) text here = (before : List ℕ) × (count : ℕ) × (sight : Sight) × AreSightLines input store item before count
    × IsSightOf input store item sight × (text ≡ before ++ sight_line input item sight) × (here ≡ count + (if sight.named then 1 else 0))

-- `N here, M lost`
abbrev pub sight_count : InputLists → ℕ → List ℕ
sight_count input here = joined (decimal here ∷ codes " here, " ∷ decimal (length input.items - here) ∷ codes " lost\n" ∷ [])

-- the text of an audit that is done
abbrev pub IsAudit : InputLists → State → List ℕ → Type 0
IsAudit input store text = (lines : List ℕ) × (here : ℕ) × AreSightLines input store (length input.items) lines here × (text ≡ lines ++ sight_count input here)

-- the text of an audit before the store failed at an item
abbrev pub IsAuditBegun : InputLists → State → List ℕ → Type 0
IsAuditBegun input store text = (item : ℕ) × (here : ℕ) × (item < length input.items) × AreSightLines input store item text here

-- the line of an item was put, and says whether the item is named
pub record HasPutSight (input : InputLists) (store : State) (item : ℕ) (old new : SinkState) (named : Bool) : Type 0 where
  pub sight : Sight
  pub seen : IsSightOf input store item sight
  pub is : sight.named ≡ named
  pub line : Extends (sight_line input item sight) old new

-- the line of an item wasn't put: the sink failed at it, or the store before it
abbrev pub SightStops : InputLists → State → State → ℕ → SinkState → SinkState → AuditStop → Type 0
SightStops input store store_new item old new stop.Sink = Rose old.faults new.faults × (sight : Sight) × IsSightOf input store item sight × ExtendsInPart (sight_line input item sight) old new
SightStops input store store_new item old new stop.Store = Rose store.faults store_new.faults × (new.held ≡ old.held)

-- the lines of so many items were put, and so many of these are named
pub record HavePutSights (input : InputLists) (store : State) (item : ℕ) (old new : SinkState) (here : ℕ) : Type 0 where
  pub lines : List ℕ
  pub are : AreSightLines input store item lines here
  pub put : Extends lines old new
  pub few : here ≤ item

-- the sink failed at a line
pub record SinkStops (input : InputLists) (store : State) (old new : SinkState) : Type 0 where
  pub rose : Rose old.faults new.faults
  pub item : ℕ
  pub within : item < length input.items
  pub lines : List ℕ
  pub here : ℕ
  pub are : AreSightLines input store (suc item) lines here
  pub begun : ExtendsInPart lines old new

-- the store failed before a line
pub record StoreStops (input : InputLists) (store store_new : State) (old new : SinkState) : Type 0 where
  pub rose : Rose store.faults store_new.faults
  pub item : ℕ
  pub within : item < length input.items
  pub lines : List ℕ
  pub here : ℕ
  pub are : AreSightLines input store item lines here
  pub put : Extends lines old new

-- not all lines were put
abbrev pub AuditStops : InputLists → State → State → SinkState → SinkState → AuditStop → Type 0
AuditStops input store store_new old new stop.Sink = SinkStops input store old new
AuditStops input store store_new old new stop.Store = StoreStops input store store_new old new

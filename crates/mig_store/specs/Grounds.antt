-- Why a store refuses, where no call failed.
use Rattle.std.specs.Prelude.{◌≡◌, ◌⊎◌, ◌+◌, ◌*◌, ◌<◌, ◌≤◌, ℕ, List, Result, OnErr, IfSome, IsFalse, IsTrue, length, slice_index, slice_range}
use Rattle.mig_base.specs.declared.cells.Cell.{Cell}
use Rattle.mig_base.specs.Cells.{is_slot}
use Rattle.mig_base.specs.FaultCounts.{Rose}
use Rattle.mig_base.specs.Images.{Image}
use Rattle.mig_base.specs.Naming.{IsName}
use Rattle.mig_base.specs.Slots.{HasHeader}
use Rattle.mig_base.specs.Stores.{State}

-- the count of faults rose, or this is so
abbrev pub FailedOr : Type 0 → State → State → Type 0
FailedOr Refused old new = Rose old.faults new.faults ⊎ Refused

-- an `Err` comes only where the count of faults rose, or, of a store that refuses, on this ground
pub record HasGround {T E : Type 0} (refuses Ground : Type 0) (old new : State) (result : Result T E) : Type 0 where
  pub later : old.faults ≤ new.faults
  pub failed : OnErr result (FailedOr (refuses × Ground) old new)

-- which items were seen at a slot
abbrev pub Sights : Type 1
Sights = Cell → List ℕ → Type 0

-- the item was seen at another slot than this one
abbrev pub IsElsewhere : Sights → List ℕ → Cell → Type 0
IsElsewhere seen item slot = (other : Cell) × seen other item × ¬ (other ≡ slot)

-- where the slot is told, it holds the item
abbrev pub Holds : Image → Cell → List ℕ → Type 0
Holds image slot item = IfSome (image slot) (HasHeader item)

-- where it is told, it doesn't
abbrev pub Lacks : Image → Cell → List ℕ → Type 0
Lacks image slot item = IfSome (image slot) (λ bytes. ¬ HasHeader item bytes)

-- it holds no item
abbrev pub HoldsNone : Image → Cell → Type 0
HoldsNone image slot = (item : List ℕ) → IsName item → Lacks image slot item

-- it holds an item that was seen at no other slot
pub record IsLast (image : Image) (seen : Sights) (slot : Cell) : Type 0 where
  pub item : List ℕ
  pub name : IsName item
  pub held : Holds image slot item
  pub alone : ¬ IsElsewhere seen item slot

-- and that the slot which is copied to it doesn't hold
pub record IsOtherLast (image : Image) (seen : Sights) (from to : Cell) : Type 0 where
  pub last : IsLast image seen to
  pub other : IfSome (image to) (λ bytes. Lacks image from last.item)

-- why a slot isn't copied to another: it holds no item, or the other one would lose its own
abbrev pub IsUncopiable : Image → Sights → Cell → Cell → Type 0
IsUncopiable image seen from to = HoldsNone image from ⊎ IsOtherLast image seen from to

-- all of the bytes are zeros
abbrev pub AreZeros : List ℕ → Type 0
AreZeros bytes = (i : ℕ) → i < length bytes → slice_index bytes i ≡ 0

-- these bytes empty a slot
pub record IsErasure (cell : Cell) (bytes : List ℕ) : Type 0 where
  pub slot : IsTrue (is_slot cell)
  pub zeros : AreZeros bytes

-- one of the eight sectors of a slot
abbrev pub sector : List ℕ → ℕ → List ℕ
sector bytes n = slice_range bytes (512 * n) (512 * n + 512)

-- each of them is zeros, or that of the other slot
abbrev pub IsRestOf : List ℕ → List ℕ → Type 0
IsRestOf left copied = (n : ℕ) → n < 8 → AreZeros (sector left n) ⊎ (sector left n ≡ sector copied n)

-- both slots begin as one that holds the item
pub record BothHold (left copied item : List ℕ) : Type 0 where
  pub name : IsName item
  pub from : HasHeader item left
  pub to : HasHeader item copied

-- where both are told, they hold one item, and the first has bytes of it that the second hasn't
abbrev pub SlotsDiffer : Image → Cell → Cell → Type 0
SlotsDiffer image from to = IfSome (image from) (λ left. IfSome (image to) (λ copied. (item : List ℕ) × BothHold left copied item × ¬ IsRestOf left copied))

-- what was seen at any slot but these is seen still
abbrev pub Remembers : (Cell → Type 0) → Sights → Sights → Type 0
Remembers P old new = (slot : Cell) (item : List ℕ) → ¬ P slot → old slot item → new slot item

-- a cell of a journal
abbrev pub IsNoSlot : Cell → Type 0
IsNoSlot cell = IsFalse (is_slot cell)

-- one item was seen at both
abbrev pub IsSeenAtBoth : Sights → Cell → Cell → Type 0
IsSeenAtBoth seen from to = (item : List ℕ) × IsName item × seen from item × seen to item

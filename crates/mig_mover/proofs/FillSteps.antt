-- The steps of a filling.
use Rattle.mig_mover.proofs.Common.{All, AllWithin, At, BeginsRun, Cell, Changes, ChangesOnly, Contains, Contains-get_or, Ends, Event, Flight, Gate}
use Rattle.mig_mover.proofs.Common.{HasContents, HasMade, IfSome, Image, InputLists, IsFillFault, IsFillFaultOn, IsFillRefusal, IsFillable}
use Rattle.mig_mover.proofs.Common.{IsFirstTaken, IsInput, IsListedCell, IsRunning, IsSoundForAll, IsTargetOf, IsUnused, IsUsed, Lands, List}
use Rattle.mig_mover.proofs.Common.{MoveFault, NotStarted, NotThere, Occupied, OnOk, Option, OtherPlan, Result, SameBut, Settles, Shift, Some, Spot}
use Rattle.mig_mover.proofs.Common.{Started, State, Store, Tells, WasFillable, [], ap, arith, false, flights, get_or, get_or_default}
use Rattle.mig_mover.proofs.Common.{get_or_from_slice_get, idle_sound, inl, inr, is_armed, is_one, item_cell, item_name, length, made_contents}
use Rattle.mig_mover.proofs.Common.{made_slot, no_spot, quiet_same, refl, rose_from, slice_get, slice_get-get_or, slice_get_within, slot_apart}
use Rattle.mig_mover.proofs.Common.{slot_of, spot_disk, still_none, subst, sym, sync_same, then_sync, told_is, ℕ, ◌+◌, ◌<◌, ◌∙◌, ◌≡◌, ◌≤◌, ◌⊎◌}
use Rattle.mig_mover.proofs.Settling.{landed_change, landed_more, settles_land, settles_landed, settles_quiet}
use Rattle.mig_mover.proofs.TargetLaws.{next_item}

-- Looking at listed spots

module _ (input : InputLists) (image : Image) (spots : List Spot) (is : spots ≡ input.spots) where
  pub first_taken : (k : ℕ) → k < length spots → AllWithin (IsUnused input image) spots 0 k → IsUsed input image (get_or spots k no_spot) → IsFirstTaken input image (get_or spots k no_spot)
  first_taken k lt before used = record {
    item = k;
    listed = subst (λ (l : List Spot). slice_get l k ≡ Some (get_or spots k no_spot)) is (slice_get-get_or spots k no_spot lt);
    used = used;
    before = subst (λ (l : List Spot). AllWithin (IsUnused input image) l 0 k) is before;
  }

  pub none_taken : (n : ℕ) → length spots ≤ n → AllWithin (IsUnused input image) spots 0 n → All (IsUnused input image) input.spots
  none_taken n most before = subst (λ (l : List Spot). All (IsUnused input image) l) is (λ k d lt. before k d (omega arith) (omega (arith, lt, most)))

-- a listed spot is on a disk
pub spot_known : (input : InputLists) → IsInput input → (spots : List Spot) → spots ≡ input.spots → (k : ℕ) → k < length spots → (get_or spots k no_spot).disk.0 < length input.disks
spot_known input valid spots is k lt = subst (λ (l : List Spot). (get_or l k no_spot).disk.0 < length input.disks) (sym is) (spot_disk input.disks _ (valid.on_disks k no_spot (subst (λ (l : List Spot). k < length l) is lt)))

pub spot_listed : (input : InputLists) (spots : List Spot) → spots ≡ input.spots → (k : ℕ) → k < length spots → Contains input.spots (get_or spots k no_spot)
spot_listed input spots is k lt = subst (λ (l : List Spot). Contains l (get_or spots k no_spot)) is (Contains-get_or spots k no_spot lt)

pub ruleset listed_spots = (first_taken, none_taken, spot_known, spot_listed)

-- Writing made slots

abbrev pub IsMade : InputLists → Image → ℕ → Type 0
IsMade input image item = IfSome (image (item_cell input item)) (λ slot. slot ≡ made_slot (item_name input item))

module _ (input : InputLists) (valid : IsInput input) (item : ℕ) (lt : item < length input.items) where
  pub listed_cell : (cell : Cell) → cell ≡ item_cell input item → IsListedCell input cell
  listed_cell cell is = (get_or input.spots item no_spot, Contains-get_or input.spots item no_spot (subst (λ (n : ℕ). item < n) (sym valid.spots_len) lt), sym is)

  -- different items have different cells
  apart : (other : ℕ) → other < item → item_cell input other ≡ item_cell input item → ⊥
  apart other less same =
      let long : item < length input.spots = subst (λ (n : ℕ). item < n) (sym valid.spots_len) lt in
      valid.spots_apart other item no_spot less long
      (slot_apart input valid (get_or input.spots other no_spot) (get_or input.spots item no_spot) (spot_disk input.disks _ (valid.on_disks other no_spot (omega arith))) (spot_disk input.disks _ (valid.on_disks item no_spot long)) same)

  -- one item more is made
  pub made_more : (old new : Image) → SameBut (λ c. c ≡ item_cell input item) old new → ((k : ℕ) → k < item → IsMade input old k) → IsMade input new item → (k : ℕ) → k < item + 1 → IsMade input new k
  made_more old new step before made = next_item (IsMade input new) item
      (λ k less. subst (λ (o : Option (List ℕ)). IfSome o (λ slot. slot ≡ made_slot (item_name input k)))
      (sym (step.same (item_cell input k) (apart k less))) (before k less))
      made

-- What is sound once the slots are made

module _ (input : InputLists) (valid : IsInput input) (image : Image) (made : HasMade input image) where
  made_stand : Tells (IsListedCell input) image → (plan : List (List Shift)) → HasContents input (At input plan 0) (made_contents input) image
  made_stand tells plan item spot at =
      let lt : item < length input.items = subst (λ (n : ℕ). item < n) valid.spots_len (slice_get_within input.spots item spot at) in
      let is : get_or input.spots item no_spot ≡ spot = get_or_from_slice_get input.spots item spot no_spot at in
      sym (ap (λ (p : Spot). image (slot_of input p)) is) ∙ told_is (image (item_cell input item)) (made_slot (item_name input item)) (tells (item_cell input item) (listed_cell input valid item lt (item_cell input item) refl)) (made item lt)

  pub made_sound : is_armed image ≡ false → IsSoundForAll input image
  made_sound idle tells asked plan digest = idle_sound asked input plan digest (made_contents input) image (made_stand tells plan) idle

-- the slot made for an item is written where the item is listed
module _ (input : InputLists) (item : ℕ) (spots : List Spot) (spots_is : spots ≡ input.spots) (cell : Cell) (cell_is : cell ≡ slot_of input (get_or spots item no_spot)) where
  pub listed : cell ≡ item_cell input item
  listed = cell_is ∙ ap (λ (l : List Spot). slot_of input (get_or l item no_spot)) spots_is

  pub put_change : (old new : State) → ChangesOnly (λ c. c ≡ cell) old new → ChangesOnly (λ c. c ≡ item_cell input item) old new
  put_change old new change = subst (λ (k : Cell). ChangesOnly (λ c. c ≡ k) old new) listed change

  pub put_made : {T E : Type 0} → item < length input.items → (items : List (List ℕ)) → items ≡ input.items → (name : List ℕ) → name ≡ get_or items item name → (slot : List ℕ) → slot ≡ made_slot name
      → (image : Image) (result : Result T E) → OnOk result (IfSome (image cell) (λ told. told ≡ slot)) → OnOk result (IfSome (image (item_cell input item)) (λ told. told ≡ made_slot (item_name input item)))
  put_made lt items items_is name at slot slot_is image result written =
      let named : name ≡ item_name input item = at ∙ ap (λ (l : List (List ℕ)). get_or l item name) items_is ∙ get_or_default input.items item name [] lt in
      let made : slot ≡ made_slot (item_name input item) = slot_is ∙ ap (λ (n : List ℕ). made_slot n) named in
      subst (λ (k : Cell). OnOk result (IfSome (image k) (λ told. told ≡ made_slot (item_name input item)))) listed
      (subst (λ (l : List ℕ). OnOk result (IfSome (image cell) (λ told. told ≡ l))) made written)

-- Beginning with a sync

module _ (input : InputLists) {old mid : State} (new : State) where
  pub fault_more : Settles old mid → old.faults ≤ mid.faults → {R Q : Type 0} → (R → Q) → (fault : MoveFault) → IsFillFaultOn R input mid new fault → IsFillFault Q input old new fault
  fault_more settles later f Store (inl rose) = inl (rose_from later rose)
  fault_more settles later f Store (inr why) = inr (f why)
  fault_more settles later f Started is = (settles_quiet old mid settles new is.0, subst IsRunning (quiet_same mid new is.0) is.1)
  fault_more settles later f (Occupied disk slot) is = (settles_quiet old mid settles new is.0, subst (λ (image : Image). IsFillRefusal input image (Occupied disk slot)) (quiet_same mid new is.0) is.1)
  fault_more settles later f (OtherPlan kept ours) is = absurd is.1
  fault_more settles later f NotStarted is = absurd is.1
  fault_more settles later f (NotThere item) is = absurd is.1

pub fillable_more : (input : InputLists) {old mid : State} → Settles old mid → IsFillable input mid.reads → WasFillable input old
fillable_more input {old} {mid} settles fillable = (mid.reads, settles_landed old mid settles, fillable)

-- copies that were in flight end, and listed cells are written
abbrev pub Fills : InputLists → State → State → Type 0
Fills input old new = (added : List Event) × BeginsRun (flights old) [] added
    × Changes (λ cell. IsTargetOf (flights old) cell ⊎ IsListedCell input cell) (IsListedCell input) added old new

pub fills_landed : (input : InputLists) {old mid : State} → Lands old mid → Fills input old mid
fills_landed input lands = (lands.added, lands.part, landed_change (IsListedCell input) lands)

pub fills_more : (input : InputLists) {old mid new : State} → Settles old mid → ChangesOnly (IsListedCell input) mid new → Fills input old new
fills_more input settles change = let lands = settles_land _ _ settles in (lands.added, lands.part, landed_more (IsListedCell input) lands change)

-- Filling a store with no copy in flight

module _ (input : InputLists) {old put new : State} (none : flights old ≡ []) (puts : ChangesOnly (IsListedCell input) old put)
    {these : List Flight} (ends : Ends these put new) where
  pub synced_made : HasMade input put.reads → HasMade input new.reads
  synced_made made = subst (HasMade input) (sync_same put new (still_none _ _ _ none puts) these ends) made

  pub synced_idle : is_armed old.reads ≡ false → is_armed new.reads ≡ false
  synced_idle idle = ap is_one ((then_sync _ old put new none puts these ends).told.same Gate (λ listed. let e = listed.2 in cc)) ∙ idle

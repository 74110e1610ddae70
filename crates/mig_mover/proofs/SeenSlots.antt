-- What a store that refuses has seen of a plan's slots, and that it refuses nothing then.
use Rattle.mig_mover.proofs.Common.{AllWithin, AreItemsKept, At, At-item, Cell, Contains, Err, HasGround, HasHeader, HoldNoOther, Holds, HoldsZeros}
use Rattle.mig_mover.proofs.Common.{IfSome, Image, InputLists, IsFreeSlot, IsItemKept, IsItemSeen, IsJournal, IsLast, IsName, IsNoSlot, IsSeen}
use Rattle.mig_mover.proofs.Common.{IsSeenAtBoth, IsShifted, IsShiftedName, IsSome, IsSomeAnd, IsSourceSlot, IsTarget, IsTask, IsUncopiable, Lacks}
use Rattle.mig_mover.proofs.Common.{List, None, Ok, Option, Remembers, Result, Rose, SameBut, Shift, Sights, Some, Spot, State, Task, []}
use Rattle.mig_mover.proofs.Common.{any_contains, ap, arith, cases_Bool, cases_cell, cell_at, contains_any, err_any, false≢true, get_or}
use Rattle.mig_mover.proofs.Common.{get_or_default, header_of, inl, inr, is_slot, item_name, key_false, key_true, leaves, length, list_any}
use Rattle.mig_mover.proofs.Common.{moved_cases, named_on_disk, not, option_map, refl, replicate, round_at, same_spot, shape_told, slot_apart}
use Rattle.mig_mover.proofs.Common.{slot_of, source_facts, subst, suc, sym, take, take-append_seam, target_facts, there, ℕ, ⊎_elim, ◌++◌, ◌+◌, ◌-◌}
use Rattle.mig_mover.proofs.Common.{◌<◌, ◌∙◌, ◌≡◌, ◌≤◌, ◌⊎◌}
use Rattle.std.specs.Prelude.{slice_index, slice_index_or, slice_range}
use Rattle.mig_base.proofs.SafetyLaws.{layout_at}
use Rattle.mig_base.specs.Slots.{zeros}
use Rattle.mig_base.specs.Stores.{HasCause}
use Rattle.mig_mover.proofs.AskedSlots.{shifted, step_back}
use Rattle.mig_mover.proofs.TargetLaws.{next_within}

-- what a cell that is told holds
told_and : {T : Type 0} (P Q : T → Type 0) (o : Option T) → IsSomeAnd o P → IfSome o Q → IsSomeAnd o (λ x. P x × Q x)
told_and P Q None told holds = absurd told
told_and P Q (Some x) told holds = (told, holds)

pub some_and : {T : Type 0} (P : T → Type 0) (o : Option T) → IsSome o → IfSome o P → IsSomeAnd o P
some_and P None told holds = absurd (false≢true told)
some_and P (Some x) told holds = holds

some_map : {T : Type 0} {P Q : T → Type 0} (o : Option T) → ((x : T) → P x → Q x) → IsSomeAnd o P → IsSomeAnd o Q
some_map None f told = absurd told
some_map (Some x) f told = f x told

out_of : {T C : Type 0} {P : T → Type 0} (o : Option T) → IsSomeAnd o P → ((x : T) → o ≡ Some x → P x → C) → C
out_of None told f = absurd told
out_of (Some x) told f = f x refl told

if_map : {T : Type 0} {P Q : T → Type 0} (o : Option T) → ((x : T) → P x → Q x) → IfSome o P → IfSome o Q
if_map None f holds = tt
if_map (Some x) f holds = f x holds

map_some : {A B : Type 0} (f : A → B) (o : Option A) (y : B) → option_map f o ≡ Some y → (x : A) × (o ≡ Some x) × (f x ≡ y)
map_some f None y at = cc
map_some f (Some x) y at = (x, refl, (let e : f x ≡ y = cc in e))

in_told : {T : Type 0} (P : T → Type 0) (o : Option T) → IsSomeAnd o P → IsSome o
in_told P None told = absurd told
in_told P (Some x) told = refl

-- a header names one item
name_range : (item : List ℕ) → slice_range (header_of item) 2 (2 + length item) ≡ item
name_range item = ap (λ (n : ℕ). take n (item ++ replicate (32 - length item) 0)) (omega arith) ∙ take-append_seam item (replicate (32 - length item) 0)

same_item : (a b : List ℕ) → length a ≤ 32 → header_of a ≡ header_of b → a ≡ b
same_item a b short same =
    let count : length a ≡ length b = ap (λ (l : List ℕ). slice_index l 1) same in
    sym (name_range a) ∙ ap (λ (l : List ℕ). slice_range l 2 (2 + length a)) same ∙ ap (λ (n : ℕ). slice_range (header_of b) 2 (2 + n)) count ∙ name_range b

-- zeros name none
pub zeros_name_none : (name : List ℕ) → HasHeader name zeros → ⊥
unfolding zeros
zeros_name_none name has = let one : 0 ≡ 1 = ap (λ (l : List ℕ). slice_index_or l 0 0) has in absurd (omega (arith, one))

-- a cell that is told holds something or doesn't
clash : {T : Type 0} (P : T → Type 0) (o : Option T) → IsSome o → IfSome o P → IfSome o (λ x. ¬ P x) → ⊥
clash P None told holds lacks = false≢true told
clash P (Some x) told holds lacks = lacks holds

-- the name that a list of the items shows is the item's
pub name_is : (input : InputLists) (item : ℕ) → item < length input.items → (items : List (List ℕ)) → items ≡ input.items → (name : List ℕ) → name ≡ get_or items item name → name ≡ item_name input item
name_is input item lt items are name at = at ∙ ap (λ (l : List (List ℕ)). get_or l item name) are ∙ get_or_default input.items item name [] lt

-- a slot's first bytes name one item
one_name : (a b bytes : List ℕ) → length a ≤ 32 → HasHeader a bytes → HasHeader b bytes → a ≡ b
one_name a b bytes short is_a is_b = same_item a b short (sym is_a ∙ is_b)

-- no item is named but such as the plan shifts
abbrev pub OnlyShifted : Task → List ℕ → Type 0
OnlyShifted task bytes = (name : List ℕ) → IsName name → HasHeader name bytes → IsShiftedName task name

-- the slot is told, and the item was seen there
abbrev pub IsSeenIn : Task → Sights → Image → ℕ → Cell → Type 0
IsSeenIn task seen image item cell = IsSome (image cell) × seen cell (item_name task.input item)

-- so many of the items that a round shifts were seen at their targets
abbrev pub AreMovedTo : Task → ℕ → ℕ → Sights → Type 0
AreMovedTo task round place seen = AllWithin (λ s. seen (slot_of task.input s.to) (item_name task.input s.item.0)) (round_at task.plan round) 0 place

-- the law of a store that refuses: an item is still where it was seen
abbrev pub AreWhereSeen : Sights → Image → Type 0
AreWhereSeen seen image = (slot : Cell) (item : List ℕ) → IsName item → seen slot item → Holds image slot item

module _ (task : Task) (is : IsTask task) where
  item_named : (item : ℕ) → item < length task.input.items → IsName (item_name task.input item)
  item_named item lt = is.valid.named_items item [] lt

  -- a slot with an item that the plan shifts
  only_shifted : (item : ℕ) → item < length task.input.items → IsShifted task.plan item → (bytes : List ℕ)
      → HasHeader (item_name task.input item) bytes → OnlyShifted task bytes
  only_shifted item lt shift bytes has name is_name header =
      (item, lt, shift, one_name (item_name task.input item) name bytes (item_named item lt).short has header)

  -- where such an item was seen
  one_shifted : (seen : Sights) (image : Image) → AreWhereSeen seen image → (cell : Cell) (item : ℕ) → item < length task.input.items
      → IsShifted task.plan item → IsSome (image cell) → seen cell (item_name task.input item) → IsSomeAnd (image cell) (OnlyShifted task)
  one_shifted seen image law cell item lt shift told here = some_map (image cell) (only_shifted item lt shift)
      (some_and _ (image cell) told (law cell (item_name task.input item) (item_named item lt) here))

module _ (task : Task) (is : IsTask task) (k : ℕ) (most : k ≤ length task.plan) where
  -- an item's slot
  some_spot : (item : ℕ) (cell : Cell) → cell_at task k item ≡ Some cell
      → (spot : Spot) × (At task.input task.plan k item ≡ Some spot) × (slot_of task.input spot ≡ cell)
  some_spot item cell at = map_some (slot_of task.input) (At task.input task.plan k item) cell at

  -- a slot that an item has isn't free
  pub apart_from_free : (item : ℕ) (cell free : Cell) → cell_at task k item ≡ Some cell → IsFreeSlot task.input task.plan k free → cell ≡ free → ⊥
  apart_from_free item cell free at (spot, named, vacant, same) equal =
      let own = some_spot item cell at in
      let layout = layout_at task.input is.valid task.plan is.runs k most in
      let spots : own.0 ≡ spot = slot_apart task.input is.valid own.0 spot (layout.on_disks item own.0 own.1) (named_on_disk task.input is.valid task.plan is.runs spot named) (own.2 ∙ equal ∙ sym same) in
      vacant (item, own.1 ∙ ap Some spots)

  module _ (seen : Sights) (image : Image) (seeing : IsSeen task seen image k) where
    -- an item that a free slot holds was seen elsewhere
    elsewhere : (name : List ℕ) (free : Cell) → IsShiftedName task name → IsFreeSlot task.input task.plan k free → (other : Cell) × seen other name × ¬ (other ≡ free)
    elsewhere name free (item, lt, shift, same) vacant =
        out_of (cell_at task k item) (seeing.items item lt shift) (λ cell at here. (cell, subst (seen cell) same here.1, apart_from_free item cell free at vacant))

    -- so nothing is refused that empties a free slot
    pub not_last : (cell : Cell) → IsFreeSlot task.input task.plan k cell → IsLast image seen cell → ⊥
    not_last cell vacant last =
        out_of (image cell) (told_and _ _ (image cell) (seeing.free cell vacant) last.held) (λ bytes at both.
        last.alone (elsewhere last.item cell (both.0 last.item last.name both.1) vacant))

    -- what was seen at slots is seen still, and they show what they showed
    pub seen_on : (after : Sights) → ((spot : Spot) (name : List ℕ) → seen (slot_of task.input spot) name → after (slot_of task.input spot) name) → (new : Image)
        → ((spot : Spot) → new (slot_of task.input spot) ≡ image (slot_of task.input spot)) → IsSeen task after new k
    seen_on after kept new same = record {
      items = λ item lt shift. out_of (cell_at task k item) (seeing.items item lt shift) (λ cell at here.
          let own = some_spot item cell at in
          subst (λ (o : Option Cell). IsSomeAnd o (IsSeenIn task after new item)) (sym at)
          (subst (λ (c : Cell). IsSeenIn task seen image item c → IsSeenIn task after new item c) own.2
          (λ was. (subst IsSome (sym (same own.0)) was.0, kept own.0 (item_name task.input item) was.1)) here));
      free = λ cell vacant. subst (λ (c : Cell). IsSomeAnd (new c) (OnlyShifted task)) vacant.3
          (subst (λ (o : Option (List ℕ)). IsSomeAnd o (OnlyShifted task)) (sym (same vacant.0))
          (seeing.free (slot_of task.input vacant.0) (vacant.0, vacant.1, vacant.2, refl)));
    }

    -- cells of the journal were written
    pub seen_beside : (P : Cell → Type 0) → ((cell : Cell) → P cell → IsNoSlot cell) → (after : Sights) → Remembers IsNoSlot seen after → (new : Image) → SameBut P image new → IsSeen task after new k
    seen_beside P beside after kept new step = seen_on after (λ spot name was. kept (slot_of task.input spot) name (λ off. false≢true (sym off)) was) new
        (λ spot. step.same (slot_of task.input spot) (λ in_it. false≢true (sym (beside (slot_of task.input spot) in_it))))

    -- a free slot was written
    module _ (free : Cell) (vacant : IsFreeSlot task.input task.plan k free) (after : Sights) (new : Image) (step : SameBut (λ c. c ≡ free) image new)
        (kept : (cell : Cell) (name : List ℕ) → IsName name → (cell ≡ free → ⊥) → seen cell name → after cell name)
        (holds : IfSome (new free) (OnlyShifted task)) where
      pub seen_written : IsSeen task after new k
      seen_written = record {
        items = λ item lt shift. out_of (cell_at task k item) (seeing.items item lt shift) (λ cell at here.
            subst (λ (o : Option Cell). IsSomeAnd o (IsSeenIn task after new item)) (sym at) (
              shape_told (image cell) (new cell) (step.shape cell) here.0,
              kept cell (item_name task.input item) (item_named task is item lt) (apart_from_free item cell free at vacant) here.1,
            ));
        free = λ cell out. elim (cases_cell cell free) [
          | inl same ↦ subst (λ (c : Cell). IsSomeAnd (new c) (OnlyShifted task)) (sym same)
              (some_and _ (new free) (shape_told (image free) (new free) (step.shape free) (in_told _ (image free) (seeing.free free vacant))) holds)
          | inr other ↦ subst (λ (o : Option (List ℕ)). IsSomeAnd o (OnlyShifted task)) (sym (step.same cell other)) (seeing.free cell out)
        ];
      }

    -- a free slot was emptied
    pub seen_erased : (free : Cell) → IsFreeSlot task.input task.plan k free → (after : Sights) (new : Image) → SameBut (λ c. c ≡ free) image new → Remembers (λ c. c ≡ free) seen after
        → HoldsZeros (new free) → IsSeen task after new k
    seen_erased free vacant after new step kept erased = seen_written free vacant after new step (λ cell name is_name out was. kept cell name out was)
        (if_map (new free) (λ bytes empty name is_name has. absurd (zeros_name_none name (subst (HasHeader name) empty has))) erased)

-- the cells of a journal are no slots
pub journal_beside : {rounds : ℕ} (cell : Cell) → IsJournal rounds cell → IsNoSlot cell
journal_beside cell (inl head) = ap is_slot head
journal_beside cell (inr (inl gate)) = ap is_slot gate
journal_beside cell (inr (inr mark)) = ap is_slot mark.3

-- Before anything is written

module _ (task : Task) (is : IsTask task) (k : ℕ) (most : k ≤ length task.plan) where
  -- two items have two slots
  one_in_slot : (item other : ℕ) (cell : Cell) → cell_at task k item ≡ Some cell → cell_at task k other ≡ Some cell → other ≡ item
  one_in_slot item other cell at there =
      let own = some_spot task is k most item cell at in
      let its = some_spot task is k most other cell there in
      let layout = layout_at task.input is.valid task.plan is.runs k most in
      let same : its.0 ≡ own.0 = slot_apart task.input is.valid its.0 own.0 (layout.on_disks other its.0 its.1) (layout.on_disks item own.0 own.1) (its.2 ∙ sym own.2) in
      layout.apart other item its.0 its.1 (own.1 ∙ ap Some (sym same))

  -- what was seen of another item is seen still
  pub still_seen : (item other : ℕ) → (other ≡ item → ⊥) → (seen after : Sights) → Remembers (λ c. cell_at task k item ≡ Some c) seen after → IsItemSeen task seen k other → IsItemSeen task after k other
  still_seen item other not seen after kept was shift =
      out_of (cell_at task k other) (was shift) (λ cell at here. subst (λ (o : Option Cell). IsSomeAnd o (λ c. after c (item_name task.input other))) (sym at)
      (kept cell (item_name task.input other) (λ same. not (one_in_slot item other cell same at)) here))

  pub made_seen : (seen : Sights) (image : Image) → AreItemsKept task image k → ((item : ℕ) → item < length task.input.items → IsItemSeen task seen k item) → HoldNoOther task image k
      → IsSeen task seen image k
  made_seen seen image kept noted free = record {
    items = λ item lt shift. out_of (cell_at task k item) (kept item shift) (λ cell at told.
        subst (λ (o : Option Cell). IsSomeAnd o (IsSeenIn task seen image item)) (sym at)
        (in_told _ (image cell) told, subst (λ (o : Option Cell). IsSomeAnd o (λ c. seen c (item_name task.input item))) at (noted item lt shift)));
    free = free;
  }

-- an item that is kept isn't lacked
pub not_lacked : (task : Task) (image : Image) (k item : ℕ) (cell : Cell) → IsShifted task.plan item → cell_at task k item ≡ Some cell → Lacks image cell (item_name task.input item) → IsItemKept task image k item → ⊥
not_lacked task image k item cell shift at lacks kept =
    let held = subst (λ (o : Option Cell). IsSomeAnd o (λ c. IsSomeAnd (image c) (HasHeader (item_name task.input item)))) at (kept shift) in
    out_of (image cell) (told_and _ _ (image cell) held lacks) (λ bytes is both. both.1 both.0)

-- A ground that is handed on

-- one that comes only from a store that refuses
pub rose_with : {a b c : ℕ} {R G H : Type 0} → a ≤ b → (R → G → H) → Rose b c ⊎ (R × G) → Rose a c ⊎ (R × H)
rose_with later f (inl rose) = inl (omega (arith, later, rose))
rose_with later f (inr (refuses, ground)) = inr (refuses, f refuses ground)

pub ground_with : {T E R G H : Type 0} {old mid new : State} (r : Result T E) → old.faults ≤ mid.faults → (R → G → H) → HasGround R G mid new r → HasGround R H old new r
ground_with (Ok x) later f ground = record { later = omega (arith, later, ground.later); failed = tt }
ground_with (Err e) later f ground = record { later = omega (arith, later, ground.later); failed = rose_with later f ground.failed }

pub rose_after : {a b c : ℕ} {R G H : Type 0} → a ≤ b → (G → H) → Rose b c ⊎ (R × G) → Rose a c ⊎ (R × H)
rose_after later f why = rose_with later (λ refuses ground. f ground) why

pub ground_after : {T E R G H : Type 0} {old mid new : State} (r : Result T E) → old.faults ≤ mid.faults → (G → H) → HasGround R G mid new r
    → HasGround R H old new r
ground_after r later f ground = ground_with r later (λ refuses why. f why) ground

pub ground_to : {T E R G H : Type 0} {old new : State} (r : Result T E) → (G → H) → HasGround R G old new r → HasGround R H old new r
ground_to r f ground = ground_after r (omega arith) f ground

-- what a call says that failed, of the calls before it too
pub ground_err : {T E R G H : Type 0} {old new : State} {mid : ℕ} (r : Result T E) → old.faults ≤ mid → mid ≤ new.faults → (R → G → H)
    → Rose mid new.faults ⊎ (R × G) → HasGround R H old new r
ground_err r before later f why = record { later = omega (arith, before, later); failed = err_any r (rose_with before f why) }

-- a call that refuses nothing
pub cause_ground : {T E R G : Type 0} {old new : State} (r : Result T E) → HasCause old new r → HasGround R G old new r
cause_ground (Ok x) cause = record { later = cause.later; failed = tt }
cause_ground (Err e) cause = record { later = cause.later; failed = inl cause.failed }

-- what a round left is free after it
pub source_free_slot : (task : Task) (is : IsTask task) (k : ℕ) → k ≤ length task.plan → (cell : Cell) → IsSourceSlot task.input task.plan k cell → IsFreeSlot task.input task.plan k cell
source_free_slot task is k most cell (spot, source, same) = (spot, inr (k, inl source), (source_facts task.input is.valid task.plan is.runs k spot most source).1, same)

-- a vacancy that lasts was emptied, or nothing was written
pub seen_vacant : (task : Task) (is : IsTask task) (k : ℕ) (most : k ≤ length task.plan) (seen : Sights) (image : Image) → IsSeen task seen image k → (free : Cell) {Lasts : Type 0}
    → Lasts ⊎ (Lasts → ⊥) → (Lasts → IsFreeSlot task.input task.plan k free) → (after : Sights) (new : Image) → SameBut (λ c. Lasts × (c ≡ free)) image new → Remembers (λ c. Lasts × (c ≡ free)) seen after
    → (Lasts → HoldsZeros (new free)) → IsSeen task after new k
seen_vacant task is k most seen image seeing free (inl lasts) vacant after new step kept erased =
    seen_erased task is k most seen image seeing free (vacant lasts) after new (record { same = λ cell out. step.same cell (λ both. out both.1); shape = step.shape }) (λ cell name out was. kept cell name (λ both. out both.1) was) (erased lasts)
seen_vacant task is k most seen image seeing free (inr not) vacant after new step kept erased =
    seen_on task is k most seen image seeing after (λ spot name was. kept (slot_of task.input spot) name (λ both. not both.0) was) new (λ spot. step.same (slot_of task.input spot) (λ both. not both.0))

-- The copies of a round
module _ (task : Task) (is : IsTask task) (k : ℕ) (lt : k < length task.plan) where
  most_k : k ≤ length task.plan
  most_k = omega (arith, lt)

  -- a shift of the round after the first k
  module _ (s : Shift) (has : Contains (round_at task.plan (suc k)) s) where
    abbrev pub from_cell : Cell
    from_cell = slot_of task.input s.from

    abbrev pub to_cell : Cell
    to_cell = slot_of task.input s.to

    at_source : At task.input task.plan k s.item.0 ≡ Some s.from
    at_source = leaves task.input (At task.input task.plan k) (round_at task.plan (suc k)) (is.runs.rounds k lt) s has

    at_from : cell_at task k s.item.0 ≡ Some from_cell
    at_from = ap (option_map (slot_of task.input)) at_source

    in_range : s.item.0 < length task.input.items
    in_range = subst (λ (n : ℕ). s.item.0 < n) is.valid.spots_len (At-item task.input task.plan k s.item.0 s.from is.runs most_k at_source)

    is_shifted : IsShifted task.plan s.item.0
    is_shifted = shifted task is k s lt has

    target : IsTarget task.plan (suc k) s.to
    target = any_contains (λ (t : Shift). t.to ≡ s.to) (round_at task.plan (suc k)) s has refl

    pub to_free : IsFreeSlot task.input task.plan k to_cell
    to_free = (s.to, inr (suc k, inr target), (target_facts task.input is.valid task.plan is.runs k s.to target).2, refl)

    module _ (seen : Sights) (image : Image) (seeing : IsSeen task seen image k) (law : AreWhereSeen seen image) where
      abbrev pub name : List ℕ
      name = item_name task.input s.item.0

      is_name : IsName name
      is_name = item_named task is s.item.0 in_range

      from_seen : IsSeenIn task seen image s.item.0 from_cell
      from_seen = subst (λ (o : Option Cell). IsSomeAnd o (IsSeenIn task seen image s.item.0)) at_from (seeing.items s.item.0 in_range is_shifted)

      -- its copy isn't refused
      pub copied_freely : (after : Sights) → Remembers (λ c. (c ≡ from_cell) ⊎ (c ≡ to_cell)) seen after → IsUncopiable image after from_cell to_cell → ⊥
      copied_freely after kept (inl none) = clash _ (image from_cell) from_seen.0 (law from_cell name is_name from_seen.1) (none name is_name)
      copied_freely after kept (inr other) =
          out_of (image to_cell) (told_and _ _ (image to_cell) (seeing.free to_cell to_free) other.last.held) (λ bytes at both.
          let own = elsewhere task is k most_k seen image seeing other.last.item to_cell (both.0 other.last.item other.last.name both.1) to_free in
          let lacks = subst (λ (o : Option (List ℕ)). IfSome o (λ b. Lacks image from_cell other.last.item)) at other.other in
          elim (cases_cell own.0 from_cell) [
            | inl same ↦ clash _ (image from_cell) from_seen.0
                (law from_cell other.last.item other.last.name (subst (λ (c : Cell). seen c other.last.item) same own.1)) lacks
            | inr not ↦ other.last.alone (own.0, kept own.0 other.last.item (λ either. ⊎_elim not own.2 either) own.1, own.2)
          ])

      -- and once it began
      module _ (after : Sights) (new : Image) (step : SameBut (λ c. c ≡ to_cell) image new) (kept : Remembers (λ c. (c ≡ from_cell) ⊎ (c ≡ to_cell)) seen after) (both : IsSeenAtBoth after from_cell to_cell)
          (after_law : AreWhereSeen after new) where
        -- any item that was seen at its source is that which is seen at both
        one_item : (other : List ℕ) → IsName other → seen from_cell other → other ≡ both.0
        one_item other is_other was =
            out_of (image from_cell) (told_and _ _ (image from_cell) (some_and _ (image from_cell) from_seen.0 (law from_cell other is_other was))
            (subst (λ (o : Option (List ℕ)). IfSome o (HasHeader both.0))
            (step.same from_cell (apart_from_free task is k most_k s.item.0 from_cell to_cell at_from to_free))
            (after_law from_cell both.0 both.1 both.2)))
            (λ bytes at is_both. one_name other both.0 bytes is_other.short is_both.0 is_both.1)

        still : (cell : Cell) (other : List ℕ) → IsName other → (cell ≡ to_cell → ⊥) → seen cell other → after cell other
        still cell other is_other out was = elim (cases_cell cell from_cell) [
          | inl same ↦ subst (λ (c : Cell). after c other) (sym same)
              (subst (after from_cell) (sym (one_item other is_other (subst (λ (c : Cell). seen c other) same was))) both.2)
          | inr not ↦ kept cell other (λ either. ⊎_elim not out either) was
        ]

        pub to_seen : after to_cell name
        to_seen = subst (after to_cell) (sym (one_item name is_name from_seen.1)) both.3

        pub seen_begun : IsSeen task after new k
        seen_begun = seen_written task is k most_k seen image seeing to_cell to_free after new step still
            (if_map (new to_cell) (only_shifted task is s.item.0 in_range is_shifted) (after_law to_cell name is_name to_seen))

  pub moved_more : (place : ℕ) (d : Shift) → place < length (round_at task.plan (suc k)) → (seen after : Sights)
      → Remembers (λ c. (c ≡ slot_of task.input (get_or (round_at task.plan (suc k)) place d).from) ⊎ (c ≡ slot_of task.input (get_or (round_at task.plan (suc k)) place d).to)) seen after
      → AreMovedTo task (suc k) place seen → after (slot_of task.input (get_or (round_at task.plan (suc k)) place d).to)
      (item_name task.input (get_or (round_at task.plan (suc k)) place d).item.0)
      → AreMovedTo task (suc k) (place + 1) after
  moved_more place d within seen after kept sofar here =
      next_within (λ (s : Shift). after (slot_of task.input s.to) (item_name task.input s.item.0)) round place d within
      (λ j e low before. kept _ _ (λ either. ⊎_elim (from_not j e before) (to_not j e before) either) (sofar j e low before)) here
    where
      round : List Shift
      round = round_at task.plan (suc k)

      has : (j : ℕ) (e : Shift) → j < length round → Contains round (get_or round j e)
      has j e less = (j, less, get_or_default round j (get_or round j e) e less)

      last : Shift
      last = get_or round place d

      from_not : (j : ℕ) (e : Shift) → j < place → slot_of task.input (get_or round j e).to ≡ slot_of task.input last.from → ⊥
      from_not j e before same = apart_from_free task is k most_k last.item.0 (slot_of task.input last.from)
          (slot_of task.input (get_or round j e).to)
          (at_from last (has place d within)) (to_free (get_or round j e) (has j e (omega (arith, before, within)))) (sym same)

      on_disk : (s : Shift) → Contains round s → s.to.disk.0 < length task.input.disks
      on_disk s of = (target_facts task.input is.valid task.plan is.runs k s.to (target s of)).1

      to_not : (j : ℕ) (e : Shift) → j < place → slot_of task.input (get_or round j e).to ≡ slot_of task.input last.to → ⊥
      to_not j e before same = (is.runs.rounds k lt).apart j place e before within
          (slot_apart task.input is.valid (get_or round j e).to last.to (on_disk _ (has j e (omega (arith, before, within))))
          (on_disk _ (has place d within)) same
          ∙ ap (λ (s : Shift). s.to) (get_or_default round place d e within))

  -- all of them were
  abbrev pub AreMoved : Sights → Type 0
  AreMoved seen = AreMovedTo task (suc k) (length (round_at task.plan (suc k))) seen

  moved_to : (seen : Sights) → AreMoved seen → (s : Shift) → Contains (round_at task.plan (suc k)) s → seen (slot_of task.input s.to) (item_name task.input s.item.0)
  moved_to seen moved s has = subst (λ (t : Shift). seen (slot_of task.input t.to) (item_name task.input t.item.0)) has.2 (moved has.0 s (omega arith) has.1)

  -- Once the copies of the round have ended, nothing is refused that empties what it left, nor what the next round does.
  pub seen_next : (seen : Sights) (image : Image) → IsSeen task seen image k → AreWhereSeen seen image → AreMoved seen
      → IsSeen task seen image (suc k)
  seen_next seen image seeing law moved = record {
    items = λ item range shift. ⊎_elim
        (λ last. subst (λ (o : Option Spot). IsSomeAnd (option_map (slot_of task.input) o) (IsSeenIn task seen image item)) (sym last.3) (
          in_told _ (image (slot_of task.input last.0.to)) (seeing.free (slot_of task.input last.0.to) (to_free last.0 last.1)),
          subst (λ (j : ℕ). seen (slot_of task.input last.0.to) (item_name task.input j)) last.2 (moved_to seen moved last.0 last.1),
        ))
        (λ none. subst (λ (o : Option Spot). IsSomeAnd (option_map (slot_of task.input) o) (IsSeenIn task seen image item)) (sym none.1)
        (seeing.items item range shift))
        (moved_cases (At task.input task.plan k) (round_at task.plan (suc k)) item);
    free = λ cell vacant. elim (step_back task is k vacant.0 lt (inl vacant.2)) [
      | inl free ↦ seeing.free cell (vacant.0, vacant.1, free, vacant.3)
      | inr held ↦
          let at : cell_at task k held.0 ≡ Some cell = ap (option_map (slot_of task.input)) held.2 ∙ ap Some vacant.3 in
          let range = subst (λ (n : ℕ). held.0 < n) is.valid.spots_len (At-item task.input task.plan k held.0 vacant.0 is.runs most_k held.2) in
          let here = subst (λ (o : Option Cell). IsSomeAnd o (IsSeenIn task seen image held.0)) at (seeing.items held.0 range held.1) in
          one_shifted task is seen image law cell held.0 range held.1 here.0 here.1
    ];
  }

  -- the copies have ended: other bytes came at their targets alone
  pub seen_landed : (seen after : Sights) (image new : Image) → IsSeen task seen image k → AreMoved seen → Remembers (λ c. ⊥) seen after
      → ((cell : Cell) → (((s : Shift) → Contains (round_at task.plan (suc k)) s → cell ≡ slot_of task.input s.to → ⊥)) → new cell ≡ image cell)
      → ((cell : Cell) → option_map length (new cell) ≡ option_map length (image cell)) → AreWhereSeen after new → IsSeen task after new k
  seen_landed seen after image new seeing moved kept same shape law = record {
    items = λ item range shift. some_map (cell_at task k item)
        (λ cell here. (shape_told (image cell) (new cell) (shape cell) here.0, kept cell (item_name task.input item) (λ none. none) here.1))
        (seeing.items item range shift);
    free = λ cell vacant. elim (cases_Bool (list_any (λ (s : Shift). same_spot s.to vacant.0) (round_at task.plan (suc k)))) [
      | inl found ↦
          let any = key_true (λ (s : Shift). s.to) (round_at task.plan (suc k)) vacant.0 found in
          let has = contains_any (λ (s : Shift). s.to ≡ vacant.0) (round_at task.plan (suc k)) any in
          one_shifted task is after new law cell any.1.item.0 (in_range any.1 has) (is_shifted any.1 has)
          (shape_told (image cell) (new cell) (shape cell) (in_told _ (image cell) (seeing.free cell vacant)))
          (subst (λ (c : Cell). after c (item_name task.input any.1.item.0)) (ap (slot_of task.input) any.4 ∙ vacant.3)
          (kept _ _ (λ none. none) (moved_to seen moved any.1 has)))
      | inr none ↦ subst (λ (o : Option (List ℕ)). IsSomeAnd o (OnlyShifted task)) (sym (same cell (λ s has is_to.
          key_false (λ (t : Shift). t.to) (round_at task.plan (suc k)) vacant.0 none
          (any_contains (λ (t : Shift). t.to ≡ vacant.0) (round_at task.plan (suc k)) s has
          (slot_apart task.input is.valid s.to vacant.0 (target_facts task.input is.valid task.plan is.runs k s.to (target s has)).1
          (named_on_disk task.input is.valid task.plan is.runs vacant.0 vacant.1) (sym is_to ∙ sym vacant.3))))))
          (seeing.free cell vacant)
    ];
  }

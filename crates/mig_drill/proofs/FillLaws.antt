-- How a store is filled, write by write.
use Rattle.mig_drill.proofs.Common.{All, All-contains, AllWithin, AreJobCells, Bool, Cell, CellBytes, Contains, Contains-get_or, Err, Held, IfSome, Image, IsInput, IsPrepared, IsZeroed, StoreCall}
use Rattle.mig_drill.proofs.Common.{HoldsMade, InputLists, IsListedCell, IsShifted, IsSome, IsState, IsTask, List, Memory, None, Ok, OnOk, Option, Result, SameBut, Shift, Some, State}
use Rattle.mig_drill.proofs.Common.{StaysTold, Task, TellsJob, [], ap, arith, cases_cell, cases_eq, cases_lt, cond, false, false≢true, fresh, get_or, get_or_default, held_at, in_round, inl, inr}
use Rattle.mig_drill.proofs.Common.{is_cell, is_cell-same, item_cell, item_name, length, made_slot, map, no_spot, option_map, refl, round_at, shape_told, slot_apart, spot_disk, state_at}
use Rattle.mig_drill.proofs.Common.{state_of, subst, suc, sym, true, zero, zero_bytes, zero_held, ℕ, ◌+◌, ◌<◌, ◌∙◌, ◌∷◌, ◌≡◌, ◌≤◌, ◌⊎◌}
use Rattle.mig_drill.proofs.ItemLists.{shifted_item}

-- Cells that are told

module _ (cell : Cell) where
  -- a cell that a store is made of is told
  pub told_zero : (keys : List Cell) → Contains keys cell → IsSome (held_at (map zero_held keys) cell)
  told_zero [] (k, lt, is) = absurd (omega arith)
  told_zero (key ∷ keys) (k, lt, is) = by (told_zero keys) (is_cell key cell) refl k lt is
    where
      by : (Contains keys cell → IsSome (held_at (map zero_held keys) cell)) → (b : Bool) → is_cell key cell ≡ b → (k : ℕ) → k < length (key ∷ keys) → get_or (key ∷ keys) k cell ≡ cell
          → IsSome (cond b (Some (zero_bytes key)) (held_at (map zero_held keys) cell))
      by later true e k lt is = refl
      by later false e zero lt is = absurd (false≢true (sym e ∙ is_cell-same key cell is))
      by later false e (suc k) lt is = later (k, omega arith, is)

pub made_told : (task : Task) (cells : List Cell) → AreJobCells task cells → (m : Memory) → m.log.first ≡ map zero_held cells → m.log.calls ≡ [] → TellsJob task (state_of m)
made_told task cells are m first none cell job = subst (λ (l : List StoreCall). IsSome ((state_at m.log.first l m.trouble.faults).reads cell)) (sym none)
    (subst (λ (l : List (Held (List ℕ))). IsSome ((state_at l [] m.trouble.faults).reads cell)) (sym first) (held (held_at (map zero_held cells) cell) (told_zero cell cells ((are cell).1 job))))
  where
    held : (o : Option (List ℕ)) → IsSome o → IsSome (option_map (λ (c : CellBytes). c.shown) (option_map fresh o))
    held (Some bytes) told = refl
    held None told = absurd (false≢true told)

-- after a crash the cells are told
pub crash_told : (old new : State) → IsState old → old.may_leave new.reads → StaysTold old.reads new.reads
crash_told old new was left cell told = shape_told (old.reads cell) (new.reads cell) (was.shape new.reads left cell) told

-- Zeros

-- zeros that were written
pub written_clear : {T E : Type 0} (result : Result T E) (cell : Option (List ℕ)) (bytes : List ℕ) → All (λ byte. byte ≡ 0) bytes → OnOk result (IfSome cell (λ told. told ≡ bytes)) → OnOk result (IfSome cell (λ told. All (λ byte. byte ≡ 0) told))
written_clear (Ok x) (Some told) bytes zeros is = subst (λ (l : List ℕ). All (λ byte. byte ≡ 0) l) (sym is) zeros
written_clear (Ok x) None bytes zeros is = tt
written_clear (Err e) cell bytes zeros is = tt

module _ (old new : Image) (cell : Cell) (step : SameBut (λ c. c ≡ cell) old new) (here : IsZeroed new cell) where
  -- a write of zeros leaves clear cells clear
  pub clear_kept : (k : Cell) → IsZeroed old k → IsZeroed new k
  clear_kept k was = elim (cases_cell k cell) [
    | inl same ↦ subst (IsZeroed new) (sym same) here
    | inr other ↦ subst (λ (o : Option (List ℕ)). IfSome o (λ bytes. All (λ byte. byte ≡ 0) bytes)) (sym (step.same k other)) was
  ]

  -- one of these cells more is clear
  pub clear_more : (cells : List Cell) (n : ℕ) → n < length cells → cell ≡ get_or cells n cell → AllWithin (IsZeroed old) cells 0 n → AllWithin (IsZeroed new) cells 0 (n + 1)
  clear_more cells n lt at before k d low high = by (cases_eq k n)
    where
      by : (k ≡ n) ⊎ (k ≡ n → ⊥) → IsZeroed new (get_or cells k d)
      by (inl same) = subst (IsZeroed new) (at ∙ get_or_default cells n cell d lt ∙ ap (λ (m : ℕ). get_or cells m d) (sym same)) here
      by (inr other) = clear_kept (get_or cells k d) (before k d low (omega arith))

-- Made items

module _ (input : InputLists) (valid : IsInput input) where
  -- items with one cell are one
  one_item : (i j : ℕ) → i < length input.items → j < length input.items → item_cell input i ≡ item_cell input j → i ≡ j
  one_item i j lt_i lt_j same = elim (cases_eq i j) [
    | inl is ↦ is
    | inr other ↦ absurd (elim (cases_lt i j) [
      | inl less ↦ valid.spots_apart i j no_spot less (long j lt_j) spots
      | inr most ↦ valid.spots_apart j i no_spot (omega arith) (long i lt_i) (sym spots)
    ])
  ]
    where
      long : (k : ℕ) → k < length input.items → k < length input.spots
      long k lt = subst (λ (n : ℕ). k < n) (sym valid.spots_len) lt

      on_disk : (k : ℕ) → k < length input.items → (get_or input.spots k no_spot).disk.0 < length input.disks
      on_disk k lt = spot_disk input.disks _ (valid.on_disks k no_spot (long k lt))

      spots : get_or input.spots i no_spot ≡ get_or input.spots j no_spot
      spots = slot_apart input valid (get_or input.spots i no_spot) (get_or input.spots j no_spot) (on_disk i lt_i) (on_disk j lt_j) same

  -- an item's cell is a listed one
  pub listed_here : (item : ℕ) → item < length input.items → (cell : Cell) → cell ≡ item_cell input item → IsListedCell input cell
  listed_here item lt cell is = (get_or input.spots item no_spot, Contains-get_or input.spots item no_spot (subst (λ (n : ℕ). item < n) (sym valid.spots_len) lt), sym is)

  module _ (old new : Image) (item : ℕ) (lt : item < length input.items) (step : SameBut (λ c. c ≡ item_cell input item) old new) (made : HoldsMade input new item) where
    -- a made item leaves the others made
    pub made_kept : (k : ℕ) → k < length input.items → HoldsMade input old k → HoldsMade input new k
    made_kept k less was = elim (cases_cell (item_cell input k) (item_cell input item)) [
      | inl same ↦ subst (HoldsMade input new) (sym (one_item k item less lt same)) made
      | inr other ↦ subst (λ (o : Option (List ℕ)). IfSome o (λ slot. slot ≡ made_slot (item_name input k))) (sym (step.same (item_cell input k) other)) was
    ]

    -- the item of one shift more is made
    pub made_more : (shifts : List Shift) (n : ℕ) (s : Shift) → n < length shifts → (get_or shifts n s).item.0 ≡ item → All (λ s. s.item.0 < length input.items) shifts
        → AllWithin (λ s. HoldsMade input old s.item.0) shifts 0 n → AllWithin (λ s. HoldsMade input new s.item.0) shifts 0 (n + 1)
    made_more shifts n s less is items before k d low high = by (cases_eq k n)
      where
        by : (k ≡ n) ⊎ (k ≡ n → ⊥) → HoldsMade input new (get_or shifts k d).item.0
        by (inl same) = subst (HoldsMade input new) (sym is ∙ ap (λ (t : Shift). t.item.0) (get_or_default shifts n s d less ∙ ap (λ (m : ℕ). get_or shifts m d) (sym same))) made
        by (inr other) = made_kept (get_or shifts k d).item.0 (items k d (omega arith)) (before k d low (omega arith))

-- Rounds

-- the items of the first rounds are made
abbrev pub AreMade : InputLists → List (List Shift) → ℕ → Image → Type 0
AreMade input plan n image = (k : ℕ) → k < n → All (λ s. HoldsMade input image s.item.0) (round_at plan (suc k))

module _ (task : Task) (is : IsTask task) (input : InputLists) (same : input ≡ task.input) (n : ℕ) (lt : n < length task.plan) (shifts : List Shift) (is_round : shifts ≡ round_at task.plan (suc n)) where
  -- the round's items are among the input's
  pub round_items : All (λ s. s.item.0 < length input.items) shifts
  round_items k d less =
      let s = get_or shifts k d in
      let item = shifted_item task.input task.plan is.runs n lt s (subst (λ (l : List Shift). Contains l s) is_round (Contains-get_or shifts k d less)) in
      omega (arith, item, is.valid.spots_len, ap (λ (l : InputLists). length l.items) same)

  -- the items of one round more are made
  pub rounds_more : (old new : Image) → ((item : ℕ) → item < length input.items → HoldsMade input old item → HoldsMade input new item) → All (λ s. HoldsMade input new s.item.0) shifts
      → AreMade task.input task.plan n old → AreMade task.input task.plan (n + 1) new
  rounds_more old new kept made before k low = by (cases_eq k n)
    where
      by : (k ≡ n) ⊎ (k ≡ n → ⊥) → All (λ s. HoldsMade task.input new s.item.0) (round_at task.plan (suc k))
      by (inl at) = subst (λ (m : ℕ). All (λ s. HoldsMade task.input new s.item.0) (round_at task.plan (suc m))) (sym at)
          (subst (λ (l : InputLists). All (λ s. HoldsMade l new s.item.0) (round_at task.plan (suc n))) same (subst (λ (l : List Shift). All (λ s. HoldsMade input new s.item.0) l) is_round made))
      by (inr other) = λ j d less.
          let s = get_or (round_at task.plan (suc k)) j d in
          let item = shifted_item task.input task.plan is.runs k (omega arith) s (Contains-get_or (round_at task.plan (suc k)) j d less) in
          subst (λ (l : InputLists). HoldsMade l new s.item.0) same (kept s.item.0 (omega (arith, item, is.valid.spots_len, ap (λ (l : InputLists). length l.items) same))
          (subst (λ (l : InputLists). HoldsMade l old s.item.0) (sym same) (before k (omega arith) j d less)))

pub made_shifted : (input : InputLists) (plan : List (List Shift)) (n : ℕ) (image : Image) → length plan ≤ n → AreMade input plan n image → (item : ℕ) → IsShifted plan item → HoldsMade input image item
made_shifted input plan n image most are item shifted =
    let at = in_round plan shifted.1 (shifted.0, shifted.2, shifted.3) in
    subst (HoldsMade input image) shifted.4 (All-contains (λ s. HoldsMade input image s.item.0) (round_at plan (suc at.0)) shifted.1 (are at.0 (let lt = at.1 in omega arith)) at.2)

-- What is filled

pub filled_then : (task : Task) (cells : List Cell) (mid new last : Image) → AreJobCells task cells → All (IsZeroed mid) cells → SameBut (IsListedCell task.input) mid new → ((item : ℕ) → IsShifted task.plan item → HoldsMade task.input new item) → new ≡ last → IsPrepared task last
filled_then task cells mid new last are clear step made same = subst (IsPrepared task) same (record {
  made = made;
  clear = λ cell job free. subst (λ (o : Option (List ℕ)). IfSome o (λ bytes. All (λ byte. byte ≡ 0) bytes)) (sym (step.same cell free)) (All-contains (IsZeroed mid) cells cell clear ((are cell).1 job));
})

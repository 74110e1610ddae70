-- What a store that refuses has seen of the items of a session, and that it refuses neither its steps nor its reads.
use Rattle.mig_live.proofs.Common.{All, All-contains, AreMade, Contains, Image, IsOrder, IsTask, ItemId, List, Option, Order, Read, Session, State}
use Rattle.mig_live.proofs.Common.{Task, [], actions_left, arith, get_or, get_or_default, item_name, length, refl, round_size}
use Rattle.mig_live.proofs.Common.{steps_after, steps_in, subst, suc, sym, take, zero, ℕ, ◌+◌, ◌-◌, ◌<◌, ◌∙◌, ◌∷◌, ◌≡◌, ◌≤◌}
use Rattle.std.specs.Option.{IsSomeAnd}
use Rattle.mig_base.specs.Slots.{HasHeader, item_cell}
use Rattle.mig_live.proofs.SeenSteps.{not_work, seen_early, seen_there, told_there}
use Rattle.mig_live.proofs.SessionLaws.{done_is, kept_mark}
use Rattle.mig_live.proofs.WorkCells.{left_works}
use Rattle.mig_live.specs.Sessions.{AreOthersKept, InSight, InSightFor, IsSeenAtStep}
use Rattle.mig_mover.proofs.SeenSlots.{AreWhereSeen}
use Rattle.mig_mover.specs.Holdings.{IsSeen, cell_at}
use Rattle.mig_store.specs.Grounds.{Lacks, Sights}

-- where it begins
pub entered_seen : (task : Task) (marked left : ℕ) → left ≡ steps_after task.plan marked → (seen : Sights) (image : Image)
    → IsSeen task seen image marked
    → InSight (record { task = task; marked = marked; left = left }) seen image
entered_seen task marked left count = seen_early task marked (round_size task.plan marked + steps_after task.plan marked - left) (omega (arith, count))

module _ (task : Task) (marked left done : ℕ) (sum : done + left ≡ round_size task.plan marked + steps_after task.plan marked) where
  -- before a step
  pub seen_before : (live : Session) → live ≡ record { task = task; marked = marked; left = left } → (p : ℕ) → done ≡ p
      → (seen : Sights) (image : Image) → InSight live seen image → IsSeenAtStep task seen image marked p
  seen_before live it p here seen image sight =
      subst (IsSeenAtStep task seen image marked) (done_is task marked left done sum ∙ here) (subst (λ (l : Session). InSight l seen image) it sight)

  -- after it
  pub seen_within : 0 < left → (seen : Sights) (image : Image) → IsSeenAtStep task seen image marked (done + 1)
      → InSight (record { task = task; marked = marked; left = left - 1 }) seen image
  seen_within some seen image = subst (IsSeenAtStep task seen image marked)
      (let e : done + 1 ≡ round_size task.plan marked + steps_after task.plan marked - (left - 1) = omega (arith, sum, some) in e)

  -- after a mark
  pub seen_mark : marked < length task.plan → done ≡ steps_in task.plan marked → (seen : Sights) (image : Image)
      → IsSeenAtStep task seen image (marked + 1) 0 → InSight (record { task = task; marked = marked + 1; left = left - 1 }) seen image
  seen_mark lt full seen image = subst (IsSeenAtStep task seen image (marked + 1))
      (let total = kept_mark task marked left done sum lt full in
      let e : 0 ≡ round_size task.plan (marked + 1) + steps_after task.plan (marked + 1) - (left - 1) = omega (arith, total) in e)

-- Orders

module _ (live : Session) (is : IsTask live.task) (most : live.marked ≤ length live.task.plan) where
  -- nothing is lacked of an item that is read
  pub not_lacking : (item : ItemId) → item.0 < length live.task.input.items → (seen : Sights) (image : Image) → AreWhereSeen seen image
      → IsSomeAnd (cell_at live.task live.marked item.0) (λ cell. Lacks image cell (item_name live.task.input item.0))
      → InSightFor live (Read item ∷ []) seen image → ⊥
  not_lacking item range seen image law lacks sight =
      let out = seen_there live.task is live.marked most seen image sight.steps.items law item.0 range lacks in
      told_there live.task is item.0 range out live.marked most image (sight.others item (0, omega arith, refl) out) lacks

  -- what orders read besides stays where it is
  pub others_kept : (orders : List Order) → All (IsOrder live.task.input) orders → (n : ℕ) (old new : State)
      → AreMade (take n (actions_left live)) old new → AreOthersKept live.task old.reads orders → AreOthersKept live.task new.reads orders
  others_kept orders are n old new made kept item has out =
      let cell = item_cell live.task.input item.0 in
      let range = All-contains (IsOrder live.task.input) orders (Read item) are has in
      let same = made.told.same cell (λ writes. not_work live.task is item.0 range out cell (left_works live most n cell writes) refl) in
      subst (λ (o : Option (List ℕ)). IsSomeAnd o (HasHeader (item_name live.task.input item.0))) (sym same) (kept item has out)

-- of many orders one
pub seen_one : (live : Session) (orders : List Order) (i : ℕ) (d : Order) → i < length orders → (seen : Sights) (image : Image)
    → InSightFor live orders seen image → InSightFor live (get_or orders i d ∷ []) seen image
seen_one live orders i d lt seen image sight = record {
  steps = sight.steps;
  others = λ item has out. sight.others item (i, lt, get_or_default orders i (Read item) d lt ∙ only (get_or orders i d) (Read item) has) out;
}
  where
    only : (x y : Order) → Contains (x ∷ []) y → x ≡ y
    only x y (zero, low, same) = same
    only x y (suc j, low, same) = absurd (omega (arith, low))

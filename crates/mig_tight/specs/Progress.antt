-- From one state to a later one.
use Rattle.std.specs.Prelude.{◌≡◌, ◌≢◌, ◌<◌, ◌++◌, ℕ, true, [], ◌∷◌, length, slice_set, sum_by}
use Rattle.mig_base.specs.InputLists.{InputLists}
use Rattle.mig_base.specs.Transfers.{is_relocated}
use Rattle.mig_tight.specs.PlanStates.{PlanState, spot_at, queue_at, IsUnawaited}

-- the spares but this one stay where they are, nobody waits for a disk for which nobody waited, and an item that left its first spot is elsewhere still
pub record Preserves (input : InputLists) (spare : ℕ) (a b : PlanState) : Type 0 where
  pub spares_len : length b.spares ≡ length a.spares
  pub spares : (j : ℕ) → j ≢ spare → spot_at b.spares j ≡ spot_at a.spares j
  pub queues : (v : ℕ) → queue_at a.waiting v ≡ [] → queue_at b.waiting v ≡ []
  pub moved : (item : ℕ) → item < length input.items → spot_at a.spots item ≢ spot_at input.spots item → spot_at b.spots item ≢ spot_at input.spots item

-- nobody waits for the disks of the first n spares, and of all
abbrev pub AreUnawaitedBelow : PlanState → ℕ → Type 0
AreUnawaitedBelow s n = (j : ℕ) → j < n → IsUnawaited s.waiting (spot_at s.spares j)

abbrev pub AreUnawaited : PlanState → Type 0
AreUnawaited s = AreUnawaitedBelow s (length s.spares)

-- nobody waits for the disk of the item, or the item has left its spot, or needn't leave it
abbrev pub IsCleared : InputLists → PlanState → ℕ → Type 0
IsCleared input s item = is_relocated input item ≡ true → spot_at s.spots item ≡ spot_at input.spots item → IsUnawaited s.waiting (spot_at input.spots item)

abbrev pub AreClearedBelow : InputLists → PlanState → ℕ → Type 0
AreClearedBelow input s n = (item : ℕ) → item < n → IsCleared input s item

-- the state after an item was shifted to a spare: its spot is a spare then
abbrev pub shifted : PlanState → ℕ → ℕ → PlanState
shifted s item h = record {
  spots = slice_set s.spots item (spot_at s.spares h);
  spares = slice_set s.spares h (spot_at s.spots item);
  waiting = s.waiting;
  rounds = s.rounds ++ (record { item = record { 0 = item }; from = spot_at s.spots item; to = spot_at s.spares h } ∷ []) ∷ [];
}

-- how many items wait
abbrev pub waiting_count : PlanState → ℕ
waiting_count s = sum_by (λ queue. length queue) s.waiting

-- The steps write no cells but those that rounds may change.
use Rattle.mig_live.proofs.Common.{Action, AllWrite, AreMade, AreMadeInPart, Cell, Changes, Contains, Copy, Erase, Event, IsWorkCell, List, SetMark}
use Rattle.mig_live.proofs.Common.{Session, Shift, State, Sync, Task, [], actions_after, actions_left, all_events}
use Rattle.mig_live.proofs.Common.{any_contains, arith, changes_wider, done_in, drop, flight_of, here, inl, inr, length, map, refl, round_at, slot_of, subst, suc}
use Rattle.mig_live.proofs.Common.{sym, take, take-append-drop, zero, ℕ, ⊎_elim, ◌++◌, ◌+◌, ◌-◌, ◌∷◌, ◌≡◌, ◌≤◌, ◌⊎◌}
use Rattle.mig_live.proofs.ActionLaws.{after_last, after_round, part_of_all, write_left, write_right}
use Rattle.mig_live.specs.Actions.{Writes, actions_since}

-- steps of shifts, and others
pub write_cases : (f : Shift → Action) (shifts : List Shift) (rest : List Action) (cell : Cell) → AllWrite (map f shifts ++ rest) cell → ((s : Shift) × Contains shifts s × Writes (f s) cell) ⊎ AllWrite rest cell
write_cases f [] rest cell any = inr any
write_cases f (s ∷ ss) rest cell (inl at) = inl (s, here s ss, at)
write_cases f (s ∷ ss) rest cell (inr any) = ⊎_elim (λ of. inl (of.0, (suc of.1.0, (let lt = of.1.1 in omega arith), of.1.2), of.2)) (λ other. inr other) (write_cases f ss rest cell any)

module _ (task : Task) where
  abbrev Work : Cell → Type 0
  Work = IsWorkCell task.input task.plan

  from_works : (k : ℕ) (cell : Cell) → (s : Shift) × Contains (round_at task.plan k) s × (cell ≡ slot_of task.input s.from) → Work cell
  from_works k cell (s, has, at) = inr (s.from, (k, inl (any_contains (λ (t : Shift). t.from ≡ s.from) (round_at task.plan k) s has refl)), sym at)

  to_works : (k : ℕ) (cell : Cell) → (s : Shift) × Contains (round_at task.plan k) s × (cell ≡ slot_of task.input s.to) → Work cell
  to_works k cell (s, has, at) = inr (s.to, (k, inr (any_contains (λ (t : Shift). t.to ≡ s.to) (round_at task.plan k) s has refl)), sym at)

  -- those after mark k
  after_works : (more k : ℕ) → more + k ≡ length task.plan → (cell : Cell) → AllWrite (actions_after task k) cell → Work cell
  after_works zero k all cell any = elim (subst (λ (l : List Action). AllWrite l cell) (after_last task.input k k task.plan (omega (arith, all))) any) [ inl none ↦ absurd none | inr none ↦ absurd none ]
  after_works (suc more) k all cell any = ⊎_elim (to_works (suc k) cell) (λ rest. elim rest [
    | inl none ↦ absurd none
    | inr (inl mark) ↦ inl (suc k, omega arith, omega (arith, all), mark)
    | inr (inr others) ↦ ⊎_elim (from_works (suc k) cell) (after_works more (suc k) (omega (arith, all)) cell)
        (write_cases (λ s. Erase (slot_of task.input s.from)) (round_at task.plan (suc k)) (actions_after task (suc k)) cell others)
  ]) (write_cases (λ s. Copy (flight_of task.input s)) (round_at task.plan (suc k)) (Sync ∷ SetMark (suc k) ∷ actions_since task (suc k)) cell
      (subst (λ (l : List Action). AllWrite l cell) (after_round task.input k k task.plan (omega (arith, all))) any))

  -- and those since it
  since_works : (k : ℕ) → k ≤ length task.plan → (cell : Cell) → AllWrite (actions_since task k) cell → Work cell
  since_works k most cell any = ⊎_elim (from_works k cell) (after_works (length task.plan - k) k (omega (arith, most)) cell)
      (write_cases (λ s. Erase (slot_of task.input s.from)) (round_at task.plan k) (actions_after task k) cell any)

  module _ (k : ℕ) (most : k ≤ length task.plan) (old new : State) where
    abbrev pub Works : Type 0
    Works = (added : List Event) × Changes (IsWorkCell task.input task.plan) (IsWorkCell task.input task.plan) added old new

    -- of the first of these
    some_work : (these rest : List Action) (added : List Event) → these ++ rest ≡ actions_after task k → Changes (AllWrite these) (AllWrite these) added old new → Works
    some_work these rest added is change =
        let works : (cell : Cell) → AllWrite these cell → Work cell =
        λ cell any. after_works (length task.plan - k) k (omega (arith, most)) cell (subst (λ (l : List Action). AllWrite l cell) is (write_left these rest cell any)) in
        (added, changes_wider Work Work (AllWrite these) (AllWrite these) works works added old new change)

    pub made_works : (m : ℕ) → AreMade (take m (actions_after task k)) old new → Works
    made_works m = some_work (take m (actions_after task k)) (drop m (actions_after task k)) (all_events (take m (actions_after task k))) (take-append-drop m (actions_after task k))

    pub part_works : (m s : ℕ) → AreMadeInPart (take m (actions_after task k)) (take s (drop m (actions_after task k))) old new → Works
    part_works m s p = some_work (take m (actions_after task k) ++ (p.made ++ p.begun)) (p.left ++ drop s (drop m (actions_after task k))) _ (part_of_all m s (actions_after task k) old new p) p.change

-- nor do those that are left to a session
pub left_works : (live : Session) → live.marked ≤ length live.task.plan → (n : ℕ) (cell : Cell) → AllWrite (take n (actions_left live)) cell
    → IsWorkCell live.task.input live.task.plan cell
left_works live most n cell any =
    let all = actions_since live.task live.marked in
    let left = actions_left live in
    let one = subst (λ (l : List Action). AllWrite l cell) (take-append-drop n left) (write_left (take n left) (drop n left) cell any) in
    since_works live.task live.marked most cell
    (subst (λ (l : List Action). AllWrite l cell) (take-append-drop (done_in live) all) (write_right (take (done_in live) all) left cell one))

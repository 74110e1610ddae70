-- What a session leaves whose store failed at one of its orders.
use Rattle.mig_top.proofs.Common.{Bool, Cell, Contents, Gate, Image, InputLists, IsSettled, List, NoCell, SameBut, State, Task, [], ap, arith, cases_lt, count_most, count_of, drop, false≢true, inl, inr, is_armed}
use Rattle.mig_top.proofs.Common.{is_one, is_slot, length, length-append, same_image, subst, sym, take, true, ℕ, ⊎_elim, ◌++◌, ◌∙◌, ◌∷◌, ◌≡◌, ◌≤◌, ◌⊎◌}
use Rattle.mig_base.proofs.MarkCounts.{counted}
use Rattle.mig_base.proofs.StoreSteps.{same_then}
use Rattle.mig_live.proofs.ActionLaws.{write_left, write_right}
use Rattle.mig_live.proofs.Common.{Action, AllWrite, Copy, Erase, InStep, IsUnsynced, Mark, Session, SetMark, Shift, Sync, actions_after, actions_from, actions_left, actions_since, done_in}
use Rattle.mig_live.proofs.Common.{erasures, flight_of, nil_from_length, round_at, slot_of, suc, take-append-drop, ◌<◌}
use Rattle.mig_live.proofs.SessionLaws.{none_left}
use Rattle.mig_live.proofs.WorkCells.{write_cases}
use Rattle.mig_live.specs.Replies.{WasLeftAfter, telling}
use Rattle.std.proofs.Math.Seq.{take-nil}

-- a slot, or a mark past the first k
abbrev pub IsLater : ℕ → Cell → Type 0
IsLater k cell = (is_slot cell ≡ true) ⊎ ((n : ℕ) × (k < n) × (cell ≡ Mark n))

later_still : (k : ℕ) (cell : Cell) → IsLater (suc k) cell → IsLater k cell
later_still k cell (inl slot) = inl slot
later_still k cell (inr (n, lt, is)) = inr (n, omega (arith, lt), is)

-- steps after mark k write no others
later_from : (input : InputLists) (k : ℕ) (rounds : List (List Shift)) (cell : Cell) → AllWrite (actions_from input k rounds) cell → IsLater k cell
later_from input k [] cell (inl none) = absurd none
later_from input k [] cell (inr none) = absurd none
later_from input k (shifts ∷ rounds) cell any = ⊎_elim (λ copy. inl (ap is_slot copy.2)) (λ rest. elim rest [
  | inl none ↦ absurd none
  | inr (inl mark) ↦ inr (suc k, omega arith, mark)
  | inr (inr others) ↦ ⊎_elim (λ erased. inl (ap is_slot erased.2)) (λ more. later_still k cell (later_from input (suc k) rounds cell more))
      (write_cases (λ s. Erase (slot_of input s.from)) shifts (actions_from input (suc k) rounds) cell others)
]) (write_cases (λ s. Copy (flight_of input s)) shifts (Sync ∷ SetMark (suc k) ∷ (erasures input shifts ++ actions_from input (suc k) rounds)) cell any)

later_since : (task : Task) (k : ℕ) (cell : Cell) → AllWrite (actions_since task k) cell → IsLater k cell
later_since task k cell any = ⊎_elim (λ erased. inl (ap is_slot erased.2)) (λ more. later_from task.input k (drop k task.plan) cell more)
    (write_cases (λ s. Erase (slot_of task.input s.from)) (round_at task.plan k) (actions_after task k) cell any)

-- the first of some of the steps that are left to a session
first_later : (live : Session) (s : ℕ) (first rest : List Action) → take s (actions_left live) ≡ first ++ rest → (cell : Cell) → AllWrite first cell → IsLater live.marked cell
first_later live s first rest are cell any = later_since live.task live.marked cell (
    subst (λ (l : List Action). AllWrite l cell) (take-append-drop (done_in live) (actions_since live.task live.marked)) (
    write_right (take (done_in live) (actions_since live.task live.marked)) (actions_left live) cell (
    subst (λ (l : List Action). AllWrite l cell) (take-append-drop s (actions_left live)) (
    write_left (take s (actions_left live)) (drop s (actions_left live)) cell (
    subst (λ (l : List Action). AllWrite l cell) (sym are) (write_left first rest cell any))))))

unsynced_later : (live : Session) (cell : Cell) → IsUnsynced live cell → IsLater live.marked cell
unsynced_later live cell (low, inl left) = inl (sym (ap is_slot left.2))
unsynced_later live cell (low, inr filled) = inl (sym (ap is_slot filled.2))

-- the gate and the first k marks aren't among them
gate_kept : (k : ℕ) → IsLater k Gate → ⊥
gate_kept k (inl slot) = absurd (false≢true slot)
gate_kept k (inr (n, lt, is)) = cc

mark_kept : (k n : ℕ) → n ≤ k → IsLater k (Mark n) → ⊥
mark_kept k n le (inl slot) = absurd (false≢true slot)
mark_kept k n le (inr (m, lt, is)) = let e : n ≡ m = cc in omega (arith, e, le, lt)

-- where these are the same, as many rounds count at least
counts_on : (rounds : ℕ) (old new : Image) (k : ℕ) → is_armed old ≡ true → count_of rounds old ≡ k → ((cell : Cell) → (IsLater k cell → ⊥) → new cell ≡ old cell) → k ≤ count_of rounds new
counts_on rounds old new k armed is same = elim (cases_lt (count_of rounds new) k) [
  | inl lt ↦ (
      let next = suc (count_of rounds new) in
      let marked = (counted rounds old armed).each next (omega arith) (omega (arith, is, lt)) in
      let unmarked = (counted rounds new (ap is_one (same Gate (gate_kept k)) ∙ armed)).next (omega (arith, is, lt, count_most rounds old)) in
      absurd (false≢true (sym unmarked ∙ ap is_one (same (Mark next) (mark_kept k next (omega (arith, lt)))) ∙ marked))
      )
  | inr le ↦ le
]

module _ (live : Session) (steps s : ℕ) (old new : State) (w : WasLeftAfter live steps (take s (drop steps (actions_left live))) old new) where
  abbrev after : Session
  after = w.after

  abbrev was : State
  was = telling (IsUnsynced w.after) w.before

  these : take s (actions_left w.after) ≡ w.first ++ w.rest
  these = ap (λ (l : List Action). take s l) w.was.rest ∙ w.are

  module _ (asked : Bool) (contents : Contents) (at : InStep asked live contents old) where
    stood : InStep asked w.after contents was
    stood = w.was.in_step asked contents at

    -- as many rounds count as before
    pub counts_still : (image : Image) → (image ≡ new.reads) ⊎ new.may_leave image → w.after.marked ≤ count_of (length w.after.task.plan) image
    counts_still image from = counts_on (length w.after.task.plan) w.before image w.after.marked stood.underway.sound.after.armed stood.underway.sound.after.count (kept from)
      where
        written : (cell : Cell) → (IsLater w.after.marked cell → ⊥) → AllWrite w.first cell → ⊥
        written cell out any = out (first_later w.after s w.first w.rest these cell any)

        kept : (image ≡ new.reads) ⊎ new.may_leave image → (cell : Cell) → (IsLater w.after.marked cell → ⊥) → image cell ≡ w.before cell
        kept (inl is) cell out = ap (λ (i : Image). i cell) is ∙ w.told.same cell (written cell out)
        kept (inr left) cell out =
            let from = w.crash asked contents at image left in
            from.2.same cell (written cell out) ∙ from.1.same cell (λ of. out (unsynced_later w.after cell of))

  module _ (none : w.after.left ≡ 0) where
    no_more : w.first ≡ []
    no_more = nil_from_length w.first (omega (arith, length-append w.first w.rest, ap length (sym these ∙ ap (λ (l : List Action). take s l) (none_left w.after none) ∙ take-nil s)))

    -- where no step was left, none is made
    pub reads_still : w.before ≡ new.reads
    reads_still = same_image w.before new.reads (subst (λ (l : List Action). SameBut (AllWrite l) w.before new.reads) no_more w.told)

    pub settled_still : (asked : Bool) (contents : Contents) → InStep asked live contents old → IsSettled was → IsSettled new
    settled_still asked contents at settled image left =
        let from = w.crash asked contents at image left in
        subst (λ (i : Image). SameBut NoCell i image) reads_still
        (same_then NoCell w.before from.0 image (settled from.0 from.1) (subst (λ (l : List Action). SameBut (AllWrite l) from.0 image) no_more from.2))

-- Each slot that a plan names was asked for, once each item that it shifts was where it is, and each named slot that is free.
use Rattle.mig_mover.proofs.Common.{AreAsked, At, At-item, Cell, Contains, Contains-append_left, Contains-append_right, IfSome, IsFreeSlot}
use Rattle.mig_mover.proofs.Common.{IsItemAsked, IsPlanSpot, IsShifted, IsSource, IsTaken, IsTarget, IsTask, List, Option, Shift, Some, Spot, Task}
use Rattle.mig_mover.proofs.Common.{[], any_contains, ap, arith, at_target, cases_Bool, cases_eq, cases_lt, contains_any, get_or, in_some, inl, inr}
use Rattle.mig_mover.proofs.Common.{key_false, key_true, leaves, length, list_any, moved_cases, no_round, option_map, refl, round_at, same_spot}
use Rattle.mig_mover.proofs.Common.{shifts_of, slot_of, source_facts, stays_free, stays_taken, subst, suc, sym, target_facts, zero, ℕ, ⊎_elim, ◌<◌}
use Rattle.mig_mover.proofs.Common.{◌∙◌, ◌∷◌, ◌≡◌, ◌≤◌, ◌⊎◌}

pub in_plan : (plan : List (List Shift)) (i : ℕ) (s : Shift) → i < length plan → Contains (get_or plan i []) s → Contains (shifts_of plan) s
in_plan [] i s lt has = absurd (omega arith)
in_plan (r ∷ rs) zero s lt has = Contains-append_left r (shifts_of rs) s has
in_plan (r ∷ rs) (suc i) s lt has = Contains-append_right r (shifts_of rs) s (in_plan rs i s (omega arith) has)

module _ (task : Task) (is : IsTask task) where
  -- an item that the plan shifts has the spot after k rounds
  abbrev pub IsHeld : ℕ → Spot → Type 0
  IsHeld k spot = (item : ℕ) × IsShifted task.plan item × (At task.input task.plan k item ≡ Some spot)

  abbrev pub IsFreeOrHeld : Spot → ℕ → Type 0
  IsFreeOrHeld spot k = (IsTaken (At task.input task.plan k) spot → ⊥) ⊎ IsHeld k spot

  pub shifted : (r : ℕ) (s : Shift) → r < length task.plan → Contains (round_at task.plan (suc r)) s → IsShifted task.plan s.item.0
  shifted r s lt has = any_contains (λ (t : Shift). t.item.0 ≡ s.item.0) (shifts_of task.plan) s (in_plan task.plan r s lt has) refl

  held_target : (r : ℕ) (spot : Spot) → r < length task.plan → IsTarget task.plan (suc r) spot → IsHeld (suc r) spot
  held_target r spot lt any =
      let has = contains_any (λ (s : Shift). s.to ≡ spot) (round_at task.plan (suc r)) any in
      (any.1.item.0, shifted r any.1 lt has, at_target task.input (At task.input task.plan r) (round_at task.plan (suc r)) (is.runs.rounds r lt) any.1 has ∙ ap Some any.4)

  held_source : (r : ℕ) (spot : Spot) → r < length task.plan → IsSource task.plan (suc r) spot → IsHeld r spot
  held_source r spot lt any =
      let has = contains_any (λ (s : Shift). s.from ≡ spot) (round_at task.plan (suc r)) any in
      (any.1.item.0, shifted r any.1 lt has, leaves task.input (At task.input task.plan r) (round_at task.plan (suc r)) (is.runs.rounds r lt) any.1 has ∙ ap Some any.4)

  step_on : (r : ℕ) (spot : Spot) → r < length task.plan → IsFreeOrHeld spot r → IsFreeOrHeld spot (suc r)
  step_on r spot lt (inl free) = elim (cases_Bool (list_any (λ (s : Shift). same_spot s.to spot) (round_at task.plan (suc r)))) [
    | inl target ↦ inr (held_target r spot lt (key_true (λ (s : Shift). s.to) (round_at task.plan (suc r)) spot target))
    | inr none ↦ inl (stays_free task.input is.valid task.plan is.runs r spot lt (key_false (λ (s : Shift). s.to) (round_at task.plan (suc r)) spot none) free)
  ]
  step_on r spot lt (inr held) = ⊎_elim
      (λ last. inl (source_facts task.input is.valid task.plan is.runs (suc r) spot (omega arith) (any_contains (λ (s : Shift). s.from ≡ spot) (round_at task.plan (suc r)) last.0 last.1
      (in_some last.0.from spot (sym (leaves task.input (At task.input task.plan r) (round_at task.plan (suc r)) (is.runs.rounds r lt) last.0 last.1) ∙ ap (λ (j : ℕ). At task.input task.plan r j) last.2 ∙ held.2)))).1)
      (λ none. inr (held.0, held.1, none.1 ∙ held.2))
      (moved_cases (At task.input task.plan r) (round_at task.plan (suc r)) held.0)

  pub step_back : (r : ℕ) (spot : Spot) → r < length task.plan → IsFreeOrHeld spot (suc r) → IsFreeOrHeld spot r
  step_back r spot lt (inl free) = elim (cases_Bool (list_any (λ (s : Shift). same_spot s.from spot) (round_at task.plan (suc r)))) [
    | inl source ↦ inr (held_source r spot lt (key_true (λ (s : Shift). s.from) (round_at task.plan (suc r)) spot source))
    | inr none ↦ inl (λ taken. free (stays_taken task.input is.valid task.plan is.runs r spot lt (key_false (λ (s : Shift). s.from) (round_at task.plan (suc r)) spot none) taken))
  ]
  step_back r spot lt (inr held) = ⊎_elim
      (λ last. inl (target_facts task.input is.valid task.plan is.runs r spot (any_contains (λ (s : Shift). s.to ≡ spot) (round_at task.plan (suc r)) last.0 last.1 (in_some last.0.to spot (sym last.3 ∙ held.2)))).2)
      (λ none. inr (held.0, held.1, sym none.1 ∙ held.2))
      (moved_cases (At task.input task.plan r) (round_at task.plan (suc r)) held.0)

  later : (spot : Spot) (r k : ℕ) → r ≤ k → k ≤ length task.plan → IsFreeOrHeld spot r → IsFreeOrHeld spot k
  later spot r zero le most at = subst (IsFreeOrHeld spot) (let e : r ≡ zero = omega arith in e) at
  later spot r (suc k) le most at = elim (cases_eq r (suc k)) [
    | inl same ↦ subst (IsFreeOrHeld spot) same at
    | inr other ↦ step_on k spot (omega arith) (later spot r k (omega arith) (omega arith) at)
  ]

  earlier : (spot : Spot) (r k : ℕ) → k ≤ r → r ≤ length task.plan → IsFreeOrHeld spot r → IsFreeOrHeld spot k
  earlier spot zero k le most at = subst (IsFreeOrHeld spot) (let e : zero ≡ k = omega arith in e) at
  earlier spot (suc r) k le most at = elim (cases_eq k (suc r)) [
    | inl same ↦ subst (IsFreeOrHeld spot) (sym same) at
    | inr other ↦ earlier spot r k (omega arith) (omega arith) (step_back r spot (omega arith) at)
  ]

  -- after k rounds a spot that a shift leaves or goes to is free, or an item has it that the plan shifts
  free_or_held : (k : ℕ) (spot : Spot) → k ≤ length task.plan → IsPlanSpot task.plan spot → IsFreeOrHeld spot k
  free_or_held k spot most (zero, inl source) = absurd (let none = source.2 in omega arith)
  free_or_held k spot most (zero, inr target) = absurd (let none = target.2 in omega arith)
  free_or_held k spot most (suc r, inl source) = elim (cases_lt r (length task.plan)) [
    | inl lt ↦ from r lt (inr (held_source r spot lt source))
    | inr past ↦ absurd (let empty = no_round task.input is.valid task.plan is.runs r past in let lt = source.2 in omega arith)
  ]
    where
      from : (n : ℕ) → n < length task.plan → IsFreeOrHeld spot n → IsFreeOrHeld spot k
      from n lt at = elim (cases_lt k n) [
        | inl before ↦ earlier spot n k (omega arith) (omega arith) at
        | inr after ↦ later spot n k after most at
      ]
  free_or_held k spot most (suc r, inr target) =
      let facts = target_facts task.input is.valid task.plan is.runs r spot target in
      let lt = facts.0 in
      elim (cases_lt k r) [
        | inl before ↦ earlier spot r k (omega arith) (omega arith) (inl facts.2)
        | inr after ↦ later spot r k after most (inl facts.2)
      ]

  pub all_asked : (asked : Cell → Type 0) (found : ℕ) → found ≤ length task.plan → ((item : ℕ) → item < length task.input.items → IsItemAsked asked task found item)
      → ((cell : Cell) → IsFreeSlot task.input task.plan found cell → asked cell) → AreAsked asked task
  all_asked asked found most items free cell (spot, named, same) = ⊎_elim
      (λ vacant. free cell (spot, inr named, vacant, same))
      (λ held. subst asked same (subst (λ (o : Option Spot). IfSome (option_map (slot_of task.input) o) asked) held.2
      (items held.0 (subst (λ (n : ℕ). held.0 < n) is.valid.spots_len (At-item task.input task.plan found held.0 spot is.runs most held.2)) held.1)))
      (free_or_held found spot most named)

-- That nothing is refused which a round does, one copy after the other.
use Rattle.mig_lanes.proofs.Common.{Cell, Contains, Flight, Image, IsTargetOf, NoCell, SameBut, Shift, Some, Task, ap, arith, contains_any, get_or, inl, inr, item_name, length}
use Rattle.mig_lanes.proofs.Common.{refl, round_at, slice_get, slot_of, subst, suc, sym, zero, ℕ, ◌+◌, ◌<◌, ◌∙◌, ◌≡◌, ◌≤◌, ◌⊎◌}
use Rattle.mig_base.specs.RoundEvents.{flights_of}
use Rattle.mig_base.specs.Tasks.{IsTask}
use Rattle.mig_base.specs.FaultCounts.{Rose}
use Rattle.mig_lanes.proofs.RoundCopies.{target_slot}
use Rattle.mig_lanes.specs.LaneSteps.{AreMoved, copies_of}
use Rattle.mig_mover.proofs.SeenSlots.{AreWhereSeen, seen_landed, seen_next}
use Rattle.mig_mover.proofs.SeenCopies.{AreMovedTo, not_uncopiable, seen_copied}
use Rattle.mig_mover.proofs.SeenSlots as seen_slots
use Rattle.mig_mover.specs.Holdings.{IsSeen}
use Rattle.mig_store.specs.Grounds.{IsSeenAtBoth, IsUncopiable, Remembers, Sights}

module _ (task : Task) (is : IsTask task) where
  pub begun_copy : (k : ℕ) → k < length task.plan → (round : ℕ) → round ≡ suc k → (place : ℕ) → place < length (round_at task.plan round) → (f : Flight)
      → slice_get (flights_of task.input (round_at task.plan round)) place ≡ Some f → (seen : Sights) (image : Image) → AreWhereSeen seen image → IsSeen task seen image k × AreMovedTo task round place seen
      → (after : Sights) (new : Image) → SameBut (λ c. c ≡ f.to) image new → Remembers (λ c. (c ≡ f.from) ⊎ (c ≡ f.to)) seen after → IsSeenAtBoth after f.from f.to → AreWhereSeen after new
      → IsSeen task after new k × AreMovedTo task round (place + 1) after
  begun_copy k lt round number place within f at seen image law now after new step kept both after_law =
      let lt_k : place < length (round_at task.plan (suc k)) = subst (λ (r : ℕ). place < length (round_at task.plan r)) number within in
      let at_k = subst (λ (r : ℕ). slice_get (flights_of task.input (round_at task.plan r)) place ≡ Some f) number at in
      let now_k : IsSeen task seen image k × AreMovedTo task (suc k) place seen = (now.0, subst (λ (r : ℕ). AreMovedTo task r place seen) number now.1) in
      let done = seen_copied task is k lt place lt_k f at_k seen image law now_k after new step kept both after_law in
      (done.0, subst (λ (r : ℕ). AreMovedTo task r (place + 1) after) (sym number) done.1)

  -- why a copy of the round is refused: its items weren't seen
  pub refused_copy : {R : Type 0} {a b c : ℕ} (round : ℕ) → 1 ≤ round → round ≤ length task.plan → (place : ℕ) → place < length (round_at task.plan round) → (f : Flight)
      → slice_get (flights_of task.input (round_at task.plan round)) place ≡ Some f → a ≤ b → (seen : Sights) (image : Image) → (R → AreWhereSeen seen image) → {First : ℕ → Type 0}
      → ((k : ℕ) → round ≡ suc k → R → First k → IsSeen task seen image k) → (after : Sights) → Remembers (λ c. (c ≡ f.from) ⊎ (c ≡ f.to)) seen after
      → Rose b c ⊎ (R × IsUncopiable image after f.from f.to) → Rose a c ⊎ (R × ((k : ℕ) × (round ≡ suc k) × ¬ First k))
  refused_copy zero some most place within f at later seen image law seeing after kept failed = absurd (omega (arith, some))
  refused_copy (suc k) some most place within f at later seen image law seeing after kept (inl rose) = inl (omega (arith, later, rose))
  refused_copy (suc k) some most place within f at later seen image law seeing after kept (inr (refuses, why)) =
      inr (refuses, (k, refl, λ first. not_uncopiable task is k (omega (arith, most)) place within f at seen image (seeing k refl refuses first) (law refuses) after kept why))

  -- once the copies have ended, each item is where the round took it
  pub seen_ended : (k : ℕ) → k < length task.plan → (round : ℕ) → round ≡ suc k → (seen after : Sights) (first mid new : Image) → IsSeen task seen mid k × AreMoved task round seen → Remembers NoCell seen after
      → SameBut (IsTargetOf (copies_of task round)) first mid → SameBut (IsTargetOf (copies_of task round)) first new → AreWhereSeen after new → IsSeen task after new round
  seen_ended k lt round number seen after first mid new now kept begun ended law =
      let at_k : AreMoved task (suc k) seen = subst (λ (r : ℕ). AreMoved task r seen) number now.1 in
      let moved : seen_slots.AreMoved task is k lt seen = λ j d low high. at_k j d high in
      let not_target = λ (cell : Cell) (out : (s : Shift) → Contains (round_at task.plan (suc k)) s → cell ≡ slot_of task.input s.to → ⊥) (target : IsTargetOf (copies_of task round) cell). none cell out (subst (λ (r : ℕ). IsTargetOf (copies_of task r) cell) number target) in
      let landed = seen_landed task is k lt seen after mid new now.0 moved kept (λ cell out. ended.same cell (not_target cell out) ∙ sym (begun.same cell (not_target cell out))) (λ cell. ended.shape cell ∙ sym (begun.shape cell)) law in
      subst (IsSeen task after new) (sym number) (seen_next task is k lt after new landed law (λ j d low high. kept (slot_of task.input (get_or (round_at task.plan (suc k)) j d).to) (item_name task.input (get_or (round_at task.plan (suc k)) j d).item.0) (λ no. no) (moved j d low high)))
    where
      none : (cell : Cell) → ((s : Shift) → Contains (round_at task.plan (suc k)) s → cell ≡ slot_of task.input s.to → ⊥) → IsTargetOf (copies_of task (suc k)) cell → ⊥
      none cell out target =
          let at = target_slot task (suc k) cell target in
          out at.1.1 (contains_any (λ (s : Shift). s.to ≡ at.0) (round_at task.plan (suc k)) at.1) (sym (ap (slot_of task.input) at.1.4 ∙ at.2))

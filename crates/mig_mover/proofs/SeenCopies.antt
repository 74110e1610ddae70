-- That a copy isn't refused whose item was seen, and what was seen once it began.
use Rattle.mig_mover.proofs.Common.{Contains, Flight, Image, IsSeen, IsSeenAtBoth, IsTask, IsUncopiable, Remembers, SameBut, Shift, Sights, Some}
use Rattle.mig_mover.proofs.Common.{Task, flight_of, flights_of, get_or, get_or_default, length, no_shift, round_at, slice_get, subst, suc, sym, ℕ}
use Rattle.mig_mover.proofs.Common.{◌+◌, ◌<◌, ◌≡◌, ◌⊎◌}
use Rattle.mig_mover.proofs.EraseSteps.{copy_of}
use Rattle.mig_mover.proofs.SeenSlots.{AreWhereSeen, copied_freely, moved_more, seen_begun, to_seen}
pub use Rattle.mig_mover.proofs.SeenSlots.{AreMovedTo}

module _ (task : Task) (is : IsTask task) (k : ℕ) (lt : k < length task.plan) (place : ℕ) (within : place < length (round_at task.plan (suc k))) (f : Flight)
    (at : slice_get (flights_of task.input (round_at task.plan (suc k))) place ≡ Some f) where
  abbrev the_shift : Shift
  the_shift = get_or (round_at task.plan (suc k)) place no_shift

  has : Contains (round_at task.plan (suc k)) the_shift
  has = (place, within, get_or_default (round_at task.plan (suc k)) place the_shift no_shift within)

  is_copy : flight_of task.input the_shift ≡ f
  is_copy = sym (copy_of task.input (round_at task.plan (suc k)) place f no_shift within at)

  pub not_uncopiable : (seen : Sights) (image : Image) → IsSeen task seen image k → AreWhereSeen seen image → (after : Sights) → Remembers (λ c. (c ≡ f.from) ⊎ (c ≡ f.to)) seen after
      → IsUncopiable image after f.from f.to → ⊥
  not_uncopiable seen image seeing law after =
      subst (λ (h : Flight). Remembers (λ c. (c ≡ h.from) ⊎ (c ≡ h.to)) seen after → IsUncopiable image after h.from h.to → ⊥) is_copy
      (copied_freely task is k lt the_shift has seen image seeing law after)

  pub seen_copied : (seen : Sights) (image : Image) → AreWhereSeen seen image → IsSeen task seen image k × AreMovedTo task (suc k) place seen → (after : Sights) (new : Image) → SameBut (λ c. c ≡ f.to) image new
      → Remembers (λ c. (c ≡ f.from) ⊎ (c ≡ f.to)) seen after → IsSeenAtBoth after f.from f.to → AreWhereSeen after new → IsSeen task after new k × AreMovedTo task (suc k) (place + 1) after
  seen_copied seen image law now after new =
      subst (λ (h : Flight). SameBut (λ c. c ≡ h.to) image new → Remembers (λ c. (c ≡ h.from) ⊎ (c ≡ h.to)) seen after
      → IsSeenAtBoth after h.from h.to
      → AreWhereSeen after new → IsSeen task after new k × AreMovedTo task (suc k) (place + 1) after) is_copy
      (λ step kept both after_law. (
        seen_begun task is k lt the_shift has seen image now.0 law after new step kept both after_law,
        moved_more task is k lt place no_shift within seen after kept now.1 (to_seen task is k lt the_shift has seen image now.0 law after new step
            kept both after_law),
      ))

-- The steps between two marks, by their number.
use Rattle.mig_live.proofs.Common.{Bool, ChangesOnly, Contents, Err, IfSome, IsAtStep, IsSettled, IsSound, IsState, IsTask, IsUnderway, LeavesOnly}
use Rattle.mig_live.proofs.Common.{Mark, NoCell, Ok, OnOk, Result, State, Task, [], arith, flights_same, length, quiet_leaves, round_size, same_image}
use Rattle.mig_live.proofs.Common.{steps_in, subst, suc, sym, ℕ, ◌+◌, ◌-◌, ◌<◌, ◌∙◌, ◌∷◌, ◌≡◌, ◌≤◌}
use Rattle.mig_live.proofs.Middle.{past_sources, past_targets, way_settled, mark_leaves, mark_more}

pub on_ok_both : {T E : Type 0} {P Q R : Type 0} (r : Result T E) → (P → Q → R) → OnOk r P → OnOk r Q → OnOk r R
on_ok_both (Ok x) f p q = f p q
on_ok_both (Err e) f p q = tt

module _ (task : Task) (is : IsTask task) (k : ℕ) (most : k ≤ length task.plan) (asked : Bool) (contents : Contents) where
  abbrev pub Way : State → ℕ → ℕ → Type 0
  Way s e c = IsUnderway asked task.input task.plan task.digest contents s k e c

  abbrev pub AtStep : State → ℕ → Type 0
  AtStep s p = IsAtStep asked task.input task.plan task.digest contents s k p

  -- an erasure
  module _ (p : ℕ) (lt : p < round_size task.plan k) where
    pub before_erase : (s : State) → AtStep s p → Way s p 0
    before_erase s at = subst (Way s p) (let e : p - round_size task.plan k ≡ 0 = omega arith in e) at.underway

    pub after_erase : (s : State) → Way s (p + 1) 0 → AtStep s (p + 1)
    after_erase s way = record {
      underway = subst (Way s (p + 1)) (let e : 0 ≡ p + 1 - round_size task.plan k = omega arith in e) way;
      synced = λ high. absurd (omega arith);
    }

  -- a copy
  module _ (p place : ℕ) (here : p - round_size task.plan k ≡ place) where
    pub before_copy : (s : State) → AtStep s p → Way s p place
    before_copy s at = subst (Way s p) here at.underway

    pub after_copy : round_size task.plan k ≤ p → place < round_size task.plan (suc k) → (s : State) → Way s p (place + 1) → AtStep s (p + 1)
    after_copy low lt s way = record {
      underway = subst (Way s (p + 1)) (let e : place + 1 ≡ p + 1 - round_size task.plan k = omega arith in e)
          (past_sources task.input is.valid task.plan is.runs task.digest contents k most asked s p (p + 1) (place + 1) low (omega arith) way);
      synced = λ high. absurd (omega arith);
    }

  -- a sync
  module _ (p : ℕ) (low : round_size task.plan k ≤ p) (high : round_size task.plan (suc k) ≤ p - round_size task.plan k) (old new : State) (quiet : ChangesOnly NoCell old new) where
    pub sync_leaves : IsState old → LeavesOnly (IsSound asked task.input task.plan task.digest contents) old new
    sync_leaves law = quiet_leaves (IsSound asked task.input task.plan task.digest contents) NoCell [] old new law quiet

    pub after_sync : IsSettled new → AtStep old p → AtStep new (p + 1)
    after_sync settled at = record {
      underway = past_targets task.input is.valid task.plan is.runs task.digest contents k most asked new (p + 1) (p - round_size task.plan k) (p + 1 - round_size task.plan k) high (omega arith)
          (past_sources task.input is.valid task.plan is.runs task.digest contents k most asked new p (p + 1) (p - round_size task.plan k) low (omega arith)
          (way_settled task.input is.valid task.plan is.runs task.digest contents k most asked old new p (p - round_size task.plan k) (same_image old.reads new.reads quiet.told) settled (flights_same old new quiet.events ∙ at.underway.landed) at.underway));
      synced = λ full. settled;
    }

  -- a mark
  module _ (lt : k < length task.plan) (old set : State) (round : ℕ) (next : round ≡ suc k) (mark : ChangesOnly (λ x. x ≡ Mark round) old set) where
    mark_here : ChangesOnly (λ x. x ≡ Mark (suc k)) old set
    mark_here = subst (λ (n : ℕ). ChangesOnly (λ x. x ≡ Mark n) old set) next mark

    all_to : round_size task.plan (suc k) ≤ steps_in task.plan k - round_size task.plan k
    all_to = omega arith

    pub leaves_mark : AtStep old (steps_in task.plan k) → LeavesOnly (IsSound asked task.input task.plan task.digest contents) old set
    leaves_mark at = mark_leaves task.input is.valid task.plan is.runs task.digest contents k most asked lt old (steps_in task.plan k) (steps_in task.plan k - round_size task.plan k) (omega arith) all_to at.underway (at.synced (omega arith)) set mark_here

    pub after_mark : IfSome (set.reads (Mark round)) (λ bytes. bytes ≡ 1 ∷ []) → IsSettled set → AtStep old (steps_in task.plan k) → IsAtStep asked task.input task.plan task.digest contents set round 0
    after_mark marked settled at = subst (λ (n : ℕ). IsAtStep asked task.input task.plan task.digest contents set n 0) (sym next) (record {
      underway = subst (IsUnderway asked task.input task.plan task.digest contents set (suc k) 0) (let e : 0 ≡ 0 - round_size task.plan (suc k) = omega arith in e)
          (mark_more task.input is.valid task.plan is.runs task.digest contents k most asked lt old (steps_in task.plan k) (steps_in task.plan k - round_size task.plan k) (omega arith) all_to at.underway (at.synced (omega arith)) set mark_here
          (subst (λ (n : ℕ). IfSome (set.reads (Mark n)) (λ bytes. bytes ≡ 1 ∷ [])) next marked) settled);
      synced = λ high. settled;
    })

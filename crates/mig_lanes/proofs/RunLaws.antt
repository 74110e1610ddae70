-- A plan that is entered, and whose rounds are then carried out.
use Rattle.mig_lanes.proofs.Common.{Adds, AreRounds, BeginsRounds, BeginsRun, Bool, Carries, Cell, Changes, Contents, Enters, Event, Finishes, Flight}
use Rattle.mig_lanes.proofs.Common.{Gate, HasDone, Image, IsJobCell, IsPart, IsReached, IsReadyIdle, IsRun, IsSafe, IsSettled, IsSome, IsSound}
use Rattle.mig_lanes.proofs.Common.{IsTargetOf, IsTask, IsWorkCell, Keeps, LeavesOnly, List, SameBut, SettlesTo, State, StaysArmed, Task, Tells, []}
use Rattle.mig_lanes.proofs.Common.{ap, append-nil, append_assoc, arith, armed_told, changes_leave, changes_then, changes_wider, ended, false}
use Rattle.mig_lanes.proofs.Common.{false≢true, flights, inl, inr, is_armed, is_one, later_rounds, leaves_then, leaves_wider, length, map, reached}
use Rattle.mig_lanes.proofs.Common.{reached_sound, refl, sound_after, subst, sym, true, ℕ, ◌++◌, ◌∙◌, ◌≡◌, ◌≤◌, ◌⊎◌}
use Rattle.mig_lanes.proofs.EventSteps.{adds_then, adds_wider}
use Rattle.mig_lanes.proofs.RoundLists.{some_rounds}
use Rattle.mig_lanes.proofs.RunKeeps.{job_part}

settles_wider : (P Q : Image → Type 0) (s : State) → ((image : Image) → P image → Q image) → SettlesTo P s → SettlesTo Q s
settles_wider P Q s gives (inl now) = inl (gives s.reads now.0, now.1)
settles_wider P Q s gives (inr told) = inr (λ image left. gives image (told.0 image left), told.1)

work_job : (task : Task) (cell : Cell) → IsWorkCell task.input task.plan cell → IsJobCell task.input task.plan cell
work_job task cell (inl mark) = inl (inr (inr mark))
work_job task cell (inr slot) = inr slot

-- what holds once the store is settled holds of what reads give now
settles_now : (P : Image → Type 0) (s : State) → SettlesTo P s → P s.reads
settles_now P s (inl now) = now.0
settles_now P s (inr told) = told.0 s.reads told.1

gate_no_work : (task : Task) → IsWorkCell task.input task.plan Gate → ⊥
gate_no_work task (inl mark) = let e = mark.3 in cc
gate_no_work task (inr slot) = let e = slot.2 in cc

-- a plan is entered, and then cells are changed that rounds may change
module _ (task : Task) (old mid new : State) (keeps : Keeps task old mid) (gate : IsSome (old.reads Gate) → (image : Image) → mid.may_leave image → is_armed image ≡ true)
    (moment : (asked : Bool) (contents : Contents) → Tells (IsJobCell task.input task.plan) old.reads → SettlesTo (IsSound asked task.input task.plan task.digest contents) old
    → LeavesOnly (IsSound asked task.input task.plan task.digest contents) mid new)
    (change : (added : List Event) × Changes (IsWorkCell task.input task.plan) (IsWorkCell task.input task.plan) added mid new) (later : mid.faults ≤ new.faults) where
  armed_from : IsSome (old.reads Gate) → (from image : Image) → mid.may_leave from → SameBut (IsWorkCell task.input task.plan) from image → is_armed image ≡ true
  armed_from told from image left same = ap is_one (same.same Gate (gate_no_work task)) ∙ gate told from left

  pub work_armed : IsSome (old.reads Gate) → (image : Image) → new.may_leave image → is_armed image ≡ true
  work_armed told image left = let from = change.1.crash image left in armed_from told from.0 image from.1 from.2

  pub work_keeps : Keeps task old new
  work_keeps = record {
    sound = λ asked contents tells before. leaves_then (IsSound asked task.input task.plan task.digest contents) old mid new (keeps.sound asked contents tells before) (moment asked contents tells before);
    ready = λ tells before. leaves_then (IsReadyIdle task) old mid new (keeps.ready tells before)
        (changes_leave (IsReadyIdle task) (IsWorkCell task.input task.plan) (IsWorkCell task.input task.plan) change.0 mid new change.1
        (λ from image left same idle. absurd (false≢true (sym idle ∙ armed_from (tells Gate (inl (inr (inl refl)))) from image left same))));
    change = (
      keeps.change.0 ++ change.0,
      changes_then (λ cell. IsTargetOf (flights old) cell ⊎ IsJobCell task.input task.plan cell) (IsJobCell task.input task.plan) keeps.change.0 change.0 old mid new keeps.change.1
          (changes_wider (λ cell. IsTargetOf (flights old) cell ⊎ IsJobCell task.input task.plan cell) (IsJobCell task.input task.plan) (IsWorkCell task.input task.plan) (IsWorkCell task.input task.plan) (λ cell of. inr (work_job task cell of)) (work_job task) change.0 mid new change.1),
    );
    later = omega (arith, keeps.later, later);
  }

  -- a gate that is 1 stays 1
  pub work_stays : StaysArmed old mid → StaysArmed old new
  work_stays stays before = leaves_then (λ image. is_armed image ≡ true) old mid new (stays before)
      (changes_leave (λ image. is_armed image ≡ true) (IsWorkCell task.input task.plan) (IsWorkCell task.input task.plan) change.0 mid new change.1
      (armed_from (armed_told old.reads (settles_now (λ image. is_armed image ≡ true) old before))))

module _ (task : Task) (is : IsTask task) (old mid new : State) (keeps : Keeps task old mid) (stays : StaysArmed old mid) (k : ℕ) (enters : Enters task old mid k) where
  module _ (moment : (asked : Bool) (contents : Contents) → HasDone asked task.input task.plan task.digest contents mid k → LeavesOnly (IsSound asked task.input task.plan task.digest contents) mid new)
      (change : (added : List Event) × Changes (IsWorkCell task.input task.plan) (IsWorkCell task.input task.plan) added mid new) (later : mid.faults ≤ new.faults) where
    pub run_carries : Carries task old new
    run_carries = record {
      keeps = work_keeps task old mid new keeps enters.armed (λ asked contents tells before. moment asked contents (enters.done asked contents tells before)) change later;
      armed = work_stays task old mid new keeps enters.armed (λ asked contents tells before. moment asked contents (enters.done asked contents tells before)) change later stays;
    }

    -- where closing the plan early was stopped
    pub run_halting : (contents : Contents) → LeavesOnly (IsSafe task.input task.plan task.digest contents) old mid → HasDone false task.input task.plan task.digest contents mid k → LeavesOnly (IsSafe task.input task.plan task.digest contents) old new
    run_halting contents sofar done = leaves_then (IsSafe task.input task.plan task.digest contents) old mid new sofar
        (leaves_wider (IsSafe task.input task.plan task.digest contents) (IsSound false task.input task.plan task.digest contents) mid new (λ image sound. sound.safe) (moment false contents done))

  pub run_finishes : ((asked : Bool) (contents : Contents) → HasDone asked task.input task.plan task.digest contents mid k → HasDone asked task.input task.plan task.digest contents new (length task.plan)) → IsSettled new → flights new ≡ [] → Finishes task old new k
  run_finishes done settled landed = record {
    reached = λ contents tells before. let d = done true contents (enters.done true contents tells before) in reached task.input is.valid task.plan is.runs task.digest contents new.reads d.sound d.erased;
    arrived = λ contents tells before. (done false contents (enters.done false contents tells
        (settles_wider (IsSafe task.input task.plan task.digest contents) (IsSound false task.input task.plan task.digest contents) old
        (λ image safe. record { safe = safe; clean = λ asked. absurd (false≢true asked) }) before))).sound.after;
    settled = settled;
    landed = landed;
    found = record { most = enters.most; found = enters.found };
    ready = enters.ready;
  }

-- once the target is reached it stays so
pub still_reached : (task : Task) → IsTask task → (old new : State) (k : ℕ) → Finishes task old new k → (contents : Contents) → Tells (IsJobCell task.input task.plan) old.reads → SettlesTo (IsReached task.input task.plan task.digest contents) old
    → IsReached task.input task.plan task.digest contents new.reads
still_reached task is old new k finishes contents tells before = finishes.reached contents tells
    (settles_wider (IsReached task.input task.plan task.digest contents) (IsSound true task.input task.plan task.digest contents) old
    (λ image reached. sound_after task.input is.valid task.plan is.runs task.digest contents (length task.plan) (omega arith) true image (reached_sound task.input is.valid task.plan is.runs task.digest contents image reached)) before)

-- Events

pub run_then : (before : List Flight) (rounds : List (List Flight)) (a b : List Event) → IsRun before [] a → AreRounds rounds b → IsRun before rounds (a ++ b)
run_then before rounds a b first are = record {
  order = first.order;
  rest = b;
  each_once = first.each_once;
  is = ap (λ (l : List Event). l ++ b) (first.is ∙ ap (λ (l : List Event). map ended first.order ++ l) first.then_rounds ∙ append-nil (map ended first.order));
  then_rounds = are;
}

pub begins_then : (before : List Flight) (rounds : List (List Flight)) (a b : List Event) → IsRun before [] a → BeginsRounds rounds b → BeginsRun before rounds (a ++ b)
begins_then before rounds a b first begins = (begins.0, subst (IsRun before rounds) (sym (append_assoc a b begins.0)) (run_then before rounds a (b ++ begins.0) first begins.1))

pub begins_only : (before : List Flight) (rounds : List (List Flight)) (a : List Event) → BeginsRun before [] a → BeginsRun before rounds a
begins_only before rounds a begins =
    let more = some_rounds rounds in
    (begins.0 ++ more.0, subst (IsRun before rounds) (append_assoc a begins.0 more.0) (run_then before rounds (a ++ begins.0) more.0 begins.1 more.1))

module _ (task : Task) (is : IsTask task) (k : ℕ) (most : k ≤ length task.plan) (old mid : State) where
  part : (added : List Event) → BeginsRun (flights old) (later_rounds task k) added → IsPart task old k added
  part = job_part task is old k most

  pub enter_part : Adds (BeginsRun (flights old) []) old mid → Adds (IsPart task old k) old mid
  enter_part = adds_wider (BeginsRun (flights old) []) (IsPart task old k) old mid (λ added begins. part added (begins_only (flights old) (later_rounds task k) added begins))

  module _ (new : State) (ended_all : Adds (IsRun (flights old) []) old mid) where
    pub run_part : Adds (BeginsRounds (later_rounds task k)) mid new → Adds (IsPart task old k) old new
    run_part = adds_then (IsRun (flights old) []) old mid new (BeginsRounds (later_rounds task k)) (IsPart task old k)
        (λ a b first begins. part (a ++ b) (begins_then (flights old) (later_rounds task k) a b first begins)) ended_all

    pub run_events : Adds (AreRounds (later_rounds task k)) mid new → Adds (IsRun (flights old) (later_rounds task k)) old new
    run_events = adds_then (IsRun (flights old) []) old mid new (AreRounds (later_rounds task k)) (IsRun (flights old) (later_rounds task k))
        (run_then (flights old) (later_rounds task k)) ended_all

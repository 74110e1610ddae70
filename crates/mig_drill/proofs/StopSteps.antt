-- A plan that is started, crashes, and is resumed.
use Rattle.mig_drill.proofs.Common.{AreFlights, Err, Event, Finishes, Flight, FliesOn, HasResumed, IfOk, Image, IsReached, IsRun, IsSettled, IsSome, IsSound, IsState, Keeps, LeavesOnly}
use Rattle.mig_base.proofs.Common.{Contents}
use Rattle.mig_mover.specs.declared.faults.MoveFault.{MoveFault}
use Rattle.mig_drill.proofs.Common.{LeavesSound, List, Ok, Option, Result, SettlesTo, Some, State, Task, TellsJob, [], ap, arith, count_of, flights, flights_none, in_flight, inl, inr, is_ok}
use Rattle.mig_drill.proofs.Common.{later_rounds, length, option_map, refl, same_image, shape_told, subst, sym, told_kept, true, ℕ, ◌++◌, ◌∙◌, ◌≡◌}

-- what every image since a moment has, each image that a crash now may leave has
left_now : (P : Image → Type 0) (old new : State) → IsState old → IsState new → LeavesOnly P old new → ((image : Image) → old.may_leave image → P image) → (image : Image) → new.may_leave image → P image
left_now P old new was is leaves before image left = elim (leaves.since old.moment image (omega arith) (is.counts_now old.moment image leaves.later left)) [
  | inl earlier ↦ before image (was.only_now image earlier)
  | inr new ↦ new
]

module _ (task : Task) (contents : Contents) where
  -- after a call of the mover
  kept_sound : (old new : State) → IsState old → IsState new → Keeps task old new → SettlesTo (IsSound true task.input task.plan task.digest contents) old → LeavesSound task contents old → LeavesSound task contents new
  kept_sound old new was is keeps settles before = record {
    tells = λ cell job. told_kept _ old.reads new.reads keeps.change.1.told cell (before.tells cell job);
    sound = left_now (IsSound true task.input task.plan task.digest contents) old new was is (keeps.sound true contents before.tells settles) before.sound;
  }

  -- a store that tells images has one that a crash may leave, once a sync settles it
  settles_told : (s : State) → s.may_leave s.reads → LeavesSound task contents s → SettlesTo (IsSound true task.input task.plan task.digest contents) s
  settles_told s images before = inr (before.sound, images)

  -- after a crash
  crashed_sound : (old new : State) → IsState old → old.may_leave new.reads → IsSettled new → LeavesSound task contents old → LeavesSound task contents new
  crashed_sound old new was left settled before = record {
    tells = λ cell job. shape_told (old.reads cell) (new.reads cell) (was.shape new.reads left cell) (before.tells cell job);
    sound = λ image may. subst (IsSound true task.input task.plan task.digest contents) (same_image new.reads image (settled image may)) (before.sound new.reads left);
  }

  module _ (first started crashed resumed : State) (at_first : IsState first) (at_started : IsState started) (at_crashed : IsState crashed) (at_resumed : IsState resumed)
      (images : first.may_leave first.reads) (told : crashed.may_leave crashed.reads) (crash : started.may_leave crashed.reads) (settled : IsSettled crashed) (landed : flights crashed ≡ [])
      (start : Keeps task first started) (resume : Keeps task crashed resumed) (before : LeavesSound task contents first) where
    between : LeavesSound task contents crashed
    between = crashed_sound started crashed at_started crash settled (kept_sound first started at_first at_started start (settles_told first images before) before)

    still : SettlesTo (IsSound true task.input task.plan task.digest contents) crashed
    still = inl (between.sound crashed.reads told, landed)

    -- a stop keeps soundness
    pub stop_keeps : LeavesSound task contents resumed
    stop_keeps = kept_sound crashed resumed at_crashed at_resumed resume still between

    -- and where the plan was resumed to its end, its target is reached
    pub stop_reaches : (k : ℕ) → Finishes task crashed resumed k → IsReached task.input task.plan task.digest contents resumed.reads
    stop_reaches k finishes = finishes.reached contents between.tells still

-- what holds of the answer of a call that succeeded
pub ended : {T E : Type 0} (r : Result T E) (P : T → Type 0) → IfOk r P → is_ok r ≡ true → (x : T) × P x
ended (Ok x) P holds ok = (x, holds)
ended (Err e) P holds ok = cc

module _ (task : Task) (first started crashed resumed : State) (at_started : IsState started) (crash : started.may_leave crashed.reads) (start : Keeps task first started) where
  told_crashed : TellsJob task first → TellsJob task crashed
  told_crashed tells cell job = shape_told (started.reads cell) (crashed.reads cell) (at_started.shape crashed.reads crash cell) (told_kept _ first.reads started.reads start.change.1.told cell (tells cell job))

  -- the job's cells are told all through a stop
  pub stop_told : Keeps task crashed resumed → TellsJob task first → TellsJob task resumed
  stop_told resume tells cell job = told_kept _ crashed.reads resumed.reads resume.change.1.told cell (told_crashed tells cell job)

  -- and the events are those of the rounds that weren't marked
  pub stop_resumed : crashed.events ≡ Some [] → (r : Result ℕ MoveFault) → FliesOn task crashed resumed r → is_ok r ≡ true
      → (marks : ℕ) → marks ≡ count_of (length task.plan) crashed.reads → TellsJob task first → HasResumed task marks resumed
  stop_resumed none (Ok k) flies ok marks is tells =
      let landed : flights crashed ≡ [] = ap in_flight none in
      let k_is : k ≡ marks = flies.0.found (told_crashed tells) (subst AreFlights (sym landed) flights_none) ∙ sym is in
      let adds = flies.1.all (subst (λ (o : Option (List Event)). IsSome o) (sym none) refl) in (
        adds.0,
        subst (λ (k : ℕ). IsRun [] (later_rounds task k) adds.0) k_is (subst (λ (fs : List Flight). IsRun fs (later_rounds task k) adds.0) landed adds.1),
        adds.2 ∙ ap (option_map (λ (before : List Event). before ++ adds.0)) none,
      )
  stop_resumed none (Err fault) flies ok marks is tells = cc

-- What follows a session.
use Rattle.mig_top.proofs.Common.{Contents, Files, Gate, HaltsWell, Head, IsSafe, List, MovesWell, ResumesInFlight, Scripted, ServesWell, SettlesTo, Some, State, Task, inl, inr, is_armed, refl, subst, sym, true, ℕ, ⊎_elim, ◌≡◌, ◌⊎◌}
use Rattle.mig_mover.specs.Holdings.{IsUnrefused}
use Rattle.mig_top.specs.Calls.{Call, World, call}
use Rattle.mig_top.specs.live.Following.{HaltsAfter, ResumesAfter, ServesAfter}
use Rattle.mig_top.specs.live.Looks.{IsServable}
use Rattle.mig_top.specs.live.Promise.{MayGoOn}

-- what a session leaves names its plan
names_plan : (task : Task) (contents : Contents) (s : State) → MayGoOn task contents s → is_armed s.reads ≡ true → s.reads Head ≡ Some task.digest
names_plan task contents s may armed = (may.sound s.reads may.ready.images).safe.head armed

settles : (task : Task) (contents : Contents) (s : State) → MayGoOn task contents s → SettlesTo (IsSafe task.input task.plan task.digest contents) s
settles task contents s may = inr ((λ image left. (may.sound image left).safe), may.ready.images)

module _ {refuses : Type 0} {first between : World} (last : World) {read : Scripted} {contents : Contents} {status : ℕ}
    (may : MayGoOn read.task contents first.store) (serves : ServesWell (call refuses first between) read status) where
  abbrev next_call : Call
  next_call = call refuses between last

  now : MayGoOn read.task contents between.store
  now = serves.again contents may

  pub resumed : (next : ℕ) → MovesWell next_call read.task next → ResumesInFlight next_call read.task (¬ IsUnrefused read.task between.store) next → ResumesAfter next_call read.task contents next
  resumed next moves in_flight = record {
    safe = moves.safe true contents now.ready.cells now.ready.images now.sound;
    reached = λ done. moves.reached done contents now.ready.cells (inr (now.sound, now.ready.images));
    settled = moves.settled;
    done = in_flight now.ready (names_plan read.task contents between.store now);
  }

  pub halted : (files : Files) (layout : List ℕ) (next : ℕ) → (halts : HaltsWell next_call files read.task layout next) → HaltsAfter next_call read.task contents status next halts.rounds
  halted files layout next halts = record {
    safe = λ image left. ⊎_elim (λ before. inl (now.sound image before)) (λ safe. inr safe) (halts.safe contents now.cells (inl (settles read.task contents between.store now)) image left);
    halted = λ done. halts.halted done contents now.cells (inl (settles read.task contents between.store now));
    again = halts.again contents now.cells now.ready.images (inl (λ image left. (now.sound image left).safe));
    done = λ ended.
        let armed = serves.armed ended (may.ready.cells Gate (inl (inr (inl refl)))) between.store.reads now.ready.images in
        halts.halts now.ready.slots armed (names_plan read.task contents between.store now armed);
  }

  pub served : (other : Scripted) → other.task ≡ read.task → (next : ℕ) → (well : ServesWell next_call other next) → ResumesInFlight next_call other.task (¬ IsServable other between.store) next
      → ServesAfter next_call other contents next well.rounds
  served other same next well in_flight = record {
    safe = λ image left. ⊎_elim (here.sound image) (λ p. p) (well.safe true contents here.ready.cells (inr (here.sound, here.ready.images)) image left);
    told = λ zero. well.told zero true contents (here.ready.cells, inr (here.sound, here.ready.images));
    went = λ zero. well.went zero contents (here.ready.cells, inr (here.sound, here.ready.images));
    again = well.again contents here;
    done = in_flight here.ready (names_plan other.task contents between.store here);
  }
    where
      here : MayGoOn other.task contents between.store
      here = subst (λ (t : Task). MayGoOn t contents between.store) (sym same) now

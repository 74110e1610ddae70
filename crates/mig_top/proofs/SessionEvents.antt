-- The events of sessions: what was in flight ends, and then the copies of steps begin and end one by one, within the limits of disks.
use Rattle.mig_base.proofs.Common.{Adds, AreFlights, AreRounds, BeginsRun, after_events}
use Rattle.mig_base.proofs.KeptLimits.{keeps_none}
use Rattle.mig_base.proofs.Landing.{flights_none}
use Rattle.mig_base.proofs.StoreSteps.{events_then}
use Rattle.mig_base.specs.Flights.{AreWithinLimits}
use Rattle.mig_base.specs.InputLists.{disk_at}
use Rattle.mig_base.specs.RoundEvents.{IsRun}
use Rattle.mig_lanes.proofs.EventSteps.{adds_then, adds_wider}
use Rattle.mig_lanes.proofs.RunKeeps.{part_of}
use Rattle.mig_lanes.proofs.RunLaws.{begins_only, begins_then, run_then}
use Rattle.mig_lanes.specs.LaneSteps.{BeginsRounds, IsPartOf}
use Rattle.mig_live.proofs.ActionLaws.{events_append}
use Rattle.mig_live.proofs.Common.{Action, AreMadeInPart, Event, Flight, IsInput, List, Runs, State, Task, [], actions_after, all_events, ap, append_assoc, arith, drop, flight_of, flights}
use Rattle.mig_live.proofs.Common.{get_or, length, option_map, refl, subst, sym, take, take_all, ℕ, ◌++◌, ◌∙◌, ◌≡◌}
use Rattle.mig_live.specs.Events.{IsRunAndPart, lone_after, lone_copies}
use Rattle.std.proofs.lemmas.List.Sorted.{IsPermutation-refl}
use Rattle.mig_live.proofs.LoneCopies.{all_lone, all_proper, kept_by, lone_from, lone_rounds, lone_within, split_events}

module _ (task : Task) (valid : IsInput task.input) (runs : Runs task.input task.plan) (k : ℕ) where
  module _ (old : State) where
    abbrev IsSession : List Event → Type 0
    IsSession = IsPartOf task.input.disks (flights old) (lone_after task k)

    session : (added : List Event) → BeginsRun (flights old) (lone_after task k) added → IsSession added
    session added = part_of task.input.disks (flights old) (lone_after task k) added
        (all_lone task.input (AreWithinLimits task.input.disks) (drop k task.plan) (λ j d lt i s less. lone_within task.input valid (flight_of task.input (get_or (get_or (drop k task.plan) j d) i s)))) (all_proper task valid runs k)

    -- the plan isn't entered
    pub refused_events : (new : State) → Adds (BeginsRun (flights old) []) old new → Adds IsSession old new
    refused_events new = adds_wider (BeginsRun (flights old) []) IsSession old new (λ added begins. session added (begins_only (flights old) (lone_after task k) added begins))

    -- the copies in flight are as those before in the end, and within limits if they were
    module _ (new : State) (added : List Event) (change : new.events ≡ option_map (λ before. before ++ added) old.events) (events : Adds IsSession old new) where
      pub slots_kept : AreFlights (flights old) → AreFlights (flights new)
      slots_kept are = kept_by AreFlights flights_none old new added change (λ told. let a = events told in (a.0, a.1.slots are, a.2))

      pub within_kept : AreWithinLimits task.input.disks (flights old) → AreWithinLimits task.input.disks (flights new)
      within_kept within = kept_by (AreWithinLimits task.input.disks) (λ v lt. keeps_none (disk_at task.input.disks v).limits v) old new added change
          (λ told. let a = events told in (a.0, subst (λ (l : List Event). AreWithinLimits task.input.disks (after_events (flights old) l)) (take_all (length a.0) a.0 (omega arith)) (a.1.within within (length a.0)), a.2))

    -- it is, and then steps are made
    module _ (mid new : State) (ends : Adds (IsRun (flights old) []) old mid) where
      pub session_events : (b more : List Event) → b ++ more ≡ all_events (actions_after task k) → new.events ≡ option_map (λ before. before ++ b) mid.events → Adds IsSession old new
      session_events b more all steps = adds_then (IsRun (flights old) []) old mid new (BeginsRounds (lone_after task k)) IsSession
          (λ a b first begins. session (a ++ b) (begins_then (flights old) (lone_after task k) a b first begins)) ends (λ told. (
            b,
            (more, subst (λ (rounds : List (List Flight)). AreRounds rounds (b ++ more)) (lone_from task.input k (drop k task.plan)) (subst (AreRounds (lone_copies (actions_after task k))) (sym all) (lone_rounds (actions_after task k)))),
            steps,
          ))

      -- these and no others
      pub whole_events : (actions : List Action) → new.events ≡ option_map (λ before. before ++ all_events actions) mid.events → Adds (IsRun (flights old) (lone_copies actions)) old new
      whole_events actions steps = adds_then (IsRun (flights old) []) old mid new (AreRounds (lone_copies actions)) (IsRun (flights old) (lone_copies actions))
          (run_then (flights old) (lone_copies actions)) ends (λ told. (all_events actions, lone_rounds actions, steps))

      -- these, and of others some
      pub stopped_events : (actions others : List Action) → AreMadeInPart actions others mid new → Adds (IsRunAndPart (flights old) actions others) old new
      stopped_events actions others p told =
          let a = ends told in
          let part = take p.events (all_events p.begun) in
          let none : IsRun [] [] [] = record { order = []; rest = []; each_once = IsPermutation-refl []; is = refl; then_rounds = refl } in (
            a.0 ++ (all_events (actions ++ p.made) ++ part),
            (
              a.0 ++ all_events actions,
              all_events p.made ++ part,
              ap (λ (l : List Event). a.0 ++ l) (ap (λ (l : List Event). l ++ part) (events_append actions p.made) ∙ append_assoc (all_events actions) (all_events p.made) part)
                  ∙ sym (append_assoc a.0 (all_events actions) (all_events p.made ++ part)),
              run_then (flights old) (lone_copies actions) a.0 (all_events actions) a.1 (lone_rounds actions),
              begins_then [] (lone_copies others) [] (all_events p.made ++ part) none (
                drop p.events (all_events p.begun) ++ all_events p.left,
                subst (AreRounds (lone_copies others)) (sym (split_events [] p.made p.begun p.left others p.events (append_assoc p.made p.begun p.left ∙ sym p.are))) (lone_rounds others),
              ),
            ),
            events_then a.0 (all_events (actions ++ p.made) ++ part) old.events mid.events new.events a.2 p.change.events,
          )

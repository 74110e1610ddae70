-- How `live` ends.
use Rattle.mig_top.proofs.Common.{Adds, All, All-contains, AreAnswers, AreOfScripted, BeginsRun, Bool, Call, Cell, Contents, Done, Err, Event, FormEndsAs, Gate, GoesOn, HasHeader, IfSome, Image, IsFault, IsInput, IsJobCell, IsReached}
use Rattle.mig_top.proofs.Common.{IsResumable, IsResumeFault, IsResumeRefusal, IsSafeAfter, IsServed, IsSome, IsSomeAnd, IsSound, IsTargetOf, Keeps, LeavesOnly, List, Live, MoveFault, Names, None}
use Rattle.mig_top.proofs.Common.{Option, Order, Rose, Runs, Scripted, ServesAll, SettlesTo, Shows, SinkFault, SinkState, Some, State, StaysArmed, Step, Task, Tells, Untouched, WentOn}
use Rattle.mig_top.proofs.Common.{WorldEnds, [], all_steps, and_then, ap, append_assoc, arith, count_most, count_of, drop, false≢true, fault_outcome, finds, flights, inl, inr, is_armed, item_cell, item_name, left_text, length}
use Rattle.mig_top.proofs.Common.{length-append, marks_by, option_map, refl, replies, resumes, scripted_in, steps_after, steps_left, subst, sym, take, then_begins, then_extends, true, ℕ, ⊎_elim, ◌++◌}
use Rattle.mig_top.proofs.Common.{◌+◌, ◌-◌, ◌∙◌, ◌∷◌, ◌≡◌, ◌≤◌, ◌⊎◌}
use Rattle.mig_base.specs.RoundEvents.{IsRun}
use Rattle.mig_io.specs.Held.{ExtendsByPrefix}
use Rattle.mig_lanes.proofs.RunLaws.{work_armed, work_keeps, work_stays}
use Rattle.mig_live.proofs.ActionLaws.{part_of_all, past_erasures}
use Rattle.mig_live.proofs.SeenSteps.{not_work}
use Rattle.mig_live.proofs.WorkCells.{Works, made_works, part_works}
use Rattle.mig_live.specs.Actions.{Action, AreMade, AreMadeInPart, actions_after, actions_left, all_events}
use Rattle.mig_live.specs.Orders.{IsOrder, steps_of}
use Rattle.mig_live.specs.declared.orders.Order.TheVariants.{Read}
use Rattle.mig_live.proofs.SessionLaws.{last_reached, last_settled, marks_counted}
use Rattle.mig_live.specs.Replies.{AreCutOff, ArePut, AreReplies, WasLeftAfter, telling}
use Rattle.mig_live.specs.Sessions.{AreOthersKept, InSight, InSightFor, InStep, IsSession, IsUnsynced, Session, done_in}
use Rattle.mig_live.specs.declared.serving.ServeFault.TheVariants as serve_fault
use Rattle.mig_base.specs.Tasks.{IsTask}
use Rattle.mig_mover.proofs.SeenSlots.{journal_beside}
use Rattle.mig_mover.specs.Holdings.{IsUnrefused}
use Rattle.mig_mover.specs.declared.faults.MoveFault.TheVariants as fault
use Rattle.mig_store.specs.Grounds.{FailedOr, Sights}
use Rattle.mig_top.proofs.EndsOf.{failed_to, failed_with, shown}
use Rattle.mig_live.proofs.LoneCopies.{made_of_all, split_events, whole_landed}
use Rattle.mig_top.proofs.LiveFaults.{counts_still, reads_still, settled_still}
use Rattle.mig_top.proofs.SessionEvents.{refused_events, session_events, stopped_events, whole_events}
use Rattle.mig_top.specs.Ends.{FormFinishes, IsRefusable}
use Rattle.mig_top.specs.live.Looks.{IsServable}
use Rattle.mig_words.specs.declared.endings.CommandError.TheVariants as ending
use Rattle.mig_top.proofs.StoreCommands.{rest_cause, shown_by}
use Rattle.mig_lanes.specs.Runs.{HasFound}
use Rattle.std.proofs.Math.Seq.{take-append-add}

-- what is left of it once its files are read
abbrev pub live_rest : State → Scripted → Step (List ℕ)
live_rest store read = and_then (resumes read.task store) (λ found. finds (IsServed read store found))

-- a beginning of a text that follows others is one of both
begun_both : (answers next : List ℕ) (old new : Option (List ℕ)) → IfSome old (λ held. ExtendsByPrefix next (held ++ answers) new) → IfSome old (λ held. ExtendsByPrefix (answers ++ next) held new)
begun_both answers next None new h = tt
begun_both answers next (Some held) new (n, le, is) = (
  length answers + n,
  omega (arith, le, length-append answers next),
  is ∙ ap (λ (l : List ℕ). Some l) (append_assoc held answers (take n next) ∙ ap (λ (l : List ℕ). held ++ l) (sym (take-append-add answers next n))),
)

-- at its beginning a session has the steps after the marked rounds left
left_begun : (live : Session) (task : Task) → live.task ≡ task → live.left ≡ steps_after task.plan live.marked → actions_left live ≡ actions_after task live.marked
left_begun live task it left =
    past_erasures live.task live.marked (done_in live) 0 (omega (arith, left, ap (λ (t : Task). steps_after t.plan live.marked) it)) ∙ ap (λ (t : Task). actions_after t live.marked) it

-- where a session is after its orders
module _ (read : Scripted) (live session : Session) (it : live.task ≡ read.task) (same : session.task ≡ live.task) (count : live.left ≡ steps_after read.task.plan live.marked)
    (left : session.left ≡ live.left - all_steps read.orders) (most : live.marked ≤ length read.task.plan) (keeps : IsSession session) where
  task_still : session.task ≡ read.task
  task_still = same ∙ it

  pub left_still : session.left ≡ steps_left read live.marked
  left_still = left ∙ ap (λ (n : ℕ). n - all_steps read.orders) count

  pub counted : session.marked ≡ live.marked + marks_by (drop live.marked read.task.plan) (all_steps read.orders)
  counted =
      let long = ap (λ (t : Task). length t.plan) task_still in
      marks_counted session keeps (length session.task.plan - live.marked) live.marked (all_steps read.orders) (omega (arith, most, long))
      (inl (left_still ∙ ap (λ (t : Task). steps_after t.plan live.marked - all_steps read.orders) (sym task_still)))
      ∙ ap (λ (t : Task). live.marked + marks_by (drop live.marked t.plan) (all_steps read.orders)) task_still

  module _ (valid : IsInput read.task.input) (runs : Runs read.task.input read.task.plan) where
    valid_still : IsInput session.task.input
    valid_still = subst (λ (t : Task). IsInput t.input) (sym task_still) valid

    runs_still : Runs session.task.input session.task.plan
    runs_still = subst (λ (t : Task). Runs t.input t.plan) (sym task_still) runs

    pub went_on : (contents : Contents) (new : State) → InStep true session contents new → WentOn read contents new live.marked
    went_on contents new at = record {
      marked = subst (λ (n : ℕ). IsSafeAfter read.task.input read.task.plan read.task.digest contents new.reads n) counted
          (subst (λ (t : Task). IsSafeAfter t.input t.plan t.digest contents new.reads session.marked) task_still at.underway.sound.after);
      reached = λ none. subst (λ (t : Task). IsReached t.input t.plan t.digest contents new.reads) task_still
          (last_reached session valid_still runs_still keeps (left_still ∙ none) true contents new at refl);
      settled = λ none. last_settled session valid_still runs_still keeps (left_still ∙ none) true contents new at;
    }

module _ (k : Call) (names : Names) (script : List ℕ) (same : Untouched k.before.folder k.after.folder) (read : Scripted) (are : AreOfScripted k.before.folder names script read)
    (valid : IsInput read.task.input) (runs : Runs read.task.input read.task.plan) where
  abbrev old : State
  old = k.before.store

  abbrev new : State
  new = k.after.store

  -- the plan isn't entered
  module _ (keeps : Keeps read.task old new) (stays : StaysArmed old new) (part : Adds (BeginsRun (flights old) []) old new) where
    goes_refused : GoesOn read.task old new (count_of (length read.task.plan) old.reads)
    goes_refused = record {
      carries = record { keeps = keeps; armed = stays };
      found = record { most = count_most (length read.task.plan) old.reads; found = λ tells are. refl };
      events = refused_events read.task valid runs (count_of (length read.task.plan) old.reads) old new part;
    }

    pub live_refused : (f : MoveFault) → IsFault (k.refuses × ¬ IsUnrefused read.task old) read.task old new f → IsResumeFault f → WorldEnds k (Live names script) (fault_outcome read.task.input f)
    live_refused fault.Store h kind =
        record { cause = (failed_to old new ground h, tt); leaves = same; store = (read, are, (count_of (length read.task.plan) old.reads, goes_refused, inl (refl, part))) }
      where
        ground : ¬ IsUnrefused read.task old → IsRefusable k (Live names script)
        ground not = (read, are, λ (good : IsServable read old). not good.task)
    live_refused fault.NotStarted h kind = absurd kind
    live_refused fault.Started h kind = absurd kind
    live_refused f h kind = record {
      cause = rest_cause k (scripted_in names script) (live_rest old) read are (fault_outcome read.task.input f) (inl (shown_by k read.task.input f h.0 (IsResumeRefusal read.task) h.1));
      leaves = same;
      store = (read, are, (count_of (length read.task.plan) old.reads, goes_refused, h.0));
    }

  -- it is entered, and orders are carried out
  module _ (mid : State) (live : Session) (it : live.task ≡ read.task) (left : live.left ≡ steps_after read.task.plan live.marked) (keeps : Keeps read.task old mid) (stays : StaysArmed old mid)
      (gate : IsSome (old.reads Gate) → (image : Image) → mid.may_leave image → is_armed image ≡ true) (ended : Adds (IsRun (flights old) []) old mid) (landed : flights mid ≡ [])
      (found : HasFound read.task old live.marked)
      (in_step : (asked : Bool) (contents : Contents) → Tells (IsJobCell read.task.input read.task.plan) old.reads
      → SettlesTo (IsSound asked read.task.input read.task.plan read.task.digest contents) old → InStep asked live contents mid)
      (serves : (asked : Bool) (contents : Contents) → InStep asked live contents mid → LeavesOnly (IsSound asked live.task.input live.task.plan live.task.digest contents) mid new) (on : mid.faults ≤ new.faults) where
    abbrev Sound : Bool → Contents → Task → Image → Type 0
    Sound asked contents task = IsSound asked task.input task.plan task.digest contents

    moment : (asked : Bool) (contents : Contents) → Tells (IsJobCell read.task.input read.task.plan) old.reads → SettlesTo (IsSound asked read.task.input read.task.plan read.task.digest contents) old
        → LeavesOnly (IsSound asked read.task.input read.task.plan read.task.digest contents) mid new
    moment asked contents tells before = subst (λ (t : Task). LeavesOnly (Sound asked contents t) mid new) it (serves asked contents (in_step asked contents tells before))

    abbrev Worked : Type 0
    Worked = Works read.task live.marked found.most mid new

    answers : (orders : List Order) (text : List ℕ) → AreReplies live mid orders text → AreAnswers read.task old orders text
    answers orders text replied = λ asked contents held. replied asked contents (in_step asked contents held.0 held.1) ∙ ap (λ (t : Task). replies t.input contents orders) it

    abbrev all : List Action
    all = actions_after read.task live.marked

    abbrev of_orders : List Order → Scripted
    of_orders orders = record { task = read.task; orders = orders }

    these : actions_left live ≡ actions_after read.task live.marked
    these = left_begun live read.task it left

    goes : Worked → (b more : List Event) → b ++ more ≡ all_events all → new.events ≡ option_map (λ before. before ++ b) mid.events → GoesOn read.task old new live.marked
    goes work b more is steps = record {
      carries = record { keeps = work_keeps read.task old mid new keeps gate moment work on; armed = work_stays read.task old mid new keeps gate moment work on stays };
      found = found;
      events = session_events read.task valid runs live.marked old mid new ended b more is steps;
    }

    makes : (orders : List Order) → AreMade (take (all_steps orders) (actions_left live)) mid new → ((contents : Contents) → InStep true live contents mid → WentOn (of_orders orders) contents new live.marked)
        → ServesAll (of_orders orders) old new live.marked
    makes orders made went = record {
      goes = goes work (all_events (take (all_steps orders) all)) (all_events (drop (all_steps orders) all)) (made_of_all (all_steps orders) all) here.events;
      events = whole_events read.task valid runs live.marked old mid new ended (take (all_steps orders) all) here.events;
      landed = whole_landed mid new (take (all_steps orders) all) landed here.events;
      armed = work_armed read.task old mid new keeps gate moment work on;
      went = λ contents held. went contents (in_step true contents held.0 held.1);
    }
      where
        here : AreMade (take (all_steps orders) (actions_after read.task live.marked)) mid new
        here = subst (λ (l : List Action). AreMade (take (all_steps orders) l) mid new) these made

        work : Worked
        work = made_works read.task live.marked found.most mid new (all_steps orders) here

    -- the sink failed at a reply
    pub live_unput : AreCutOff live mid new read.orders k.before.sink k.after.sink serve_fault.Sink → Rose k.before.sink.faults k.after.sink.faults → FormEndsAs k (Live names script) 6
    live_unput cut rose =
        let (item, is, (text, next, replied, reply, put)) = cut.put in
        record {
          outcome = SinkFault (text ++ next);
          is = refl;
          so = (
            rose,
            inr (record {
              cause = tt;
              leaves = same;
              store = (
                read,
                are,
                (
                  live.marked,
                  record {
                    whole = cut.whole;
                    item = item;
                    at = cut.at ∙ ap (λ (o : Order). Some o) is;
                    makes = makes (take cut.whole read.orders) cut.made (λ contents at.
                        let (session, rest) = cut.leaves in
                        went_on (of_orders (take cut.whole read.orders)) live session it rest.task left rest.left found.most rest.is valid runs contents new (rest.in_step true contents at));
                    answers = text;
                    next = next;
                    replied = answers (take cut.whole read.orders) text replied;
                    reply = subst (λ (o : Order). AreAnswers read.task old (o ∷ []) next) is (answers (cut.order ∷ []) next reply);
                    is = refl;
                    put = put;
                  },
                ),
              );
            }),
          );
          says = record { begun = begun_both text next k.before.sink.held k.after.sink.held put; whole = λ fine. absurd (fine rose); done = λ zero. absurd (omega (arith, zero)) };
        }

    -- where the cells showed no ground, an item that stays is still where it is listed
    others_kept : IsTask read.task → All (IsOrder read.task.input) read.orders → IsServable read old → AreOthersKept read.task mid.reads read.orders
    others_kept task fits good item has stays =
        subst (λ (o : Option (List ℕ)). IsSomeAnd o (HasHeader (item_name read.task.input item.0))) (sym (keeps.change.1.told.same cell apart)) (good.others item has stays)
      where
        cell : Cell
        cell = item_cell read.task.input item.0

        apart : IsTargetOf (flights old) cell ⊎ IsJobCell read.task.input read.task.plan cell → ⊥
        apart (inl target) = good.still item has stays (refl, target)
        apart (inr (inl journal)) = false≢true (sym (journal_beside cell journal))
        apart (inr (inr slot)) = not_work read.task task item.0 (All-contains (IsOrder read.task.input) read.orders (Read item) fits has) stays cell (inr slot) refl

    -- so none is what a session is refused on once it is entered
    module _ (task : IsTask read.task) (fits : All (IsOrder read.task.input) read.orders) (seen : Sights) (enters : k.refuses → IsUnrefused read.task old → InSight live seen mid.reads) where
      session_ground : k.refuses → ¬ InSightFor live read.orders seen mid.reads → IsRefusable k (Live names script)
      session_ground refuses not = (read, are, servable)
        where
          servable : ¬ IsServable read old
          servable good = not (record { steps = enters refuses good.task; others = subst (λ (t : Task). AreOthersKept t mid.reads read.orders) (sym it) (others_kept task fits good) })

      session_failed : FailedOr (k.refuses × ¬ InSightFor live read.orders seen mid.reads) mid new → FailedOr (k.refuses × IsRefusable k (Live names script)) old new
      session_failed = failed_with old mid new keeps.later session_ground

    -- the store failed at an order
    pub live_failed : k.before.sink.faults ≤ k.after.sink.faults → AreCutOff live mid new read.orders k.before.sink k.after.sink serve_fault.Store
        → IsTask read.task → All (IsOrder read.task.input) read.orders → (seen : Sights) → (k.refuses → IsUnrefused read.task old → InSight live seen mid.reads)
        → FailedOr (k.refuses × ¬ InSightFor live read.orders seen mid.reads) mid new → FormFinishes k (Live names script) (Err ending.StoreFault)
    live_failed later cut task fits seen enters failed =
        let (text, replied, put) = cut.put in
        let m = all_steps (take cut.whole read.orders) in
        let w : WasLeftAfter live m (take (steps_of cut.order) (drop m (actions_left live))) mid new = cut.leaves in
        let p = subst (λ (l : List Action). AreMadeInPart (take m l) (take (steps_of cut.order) (drop m l)) mid new) these cut.made in
        record {
          before = text;
          put = put;
          later = later;
          bare = tt;
          so = record {
            cause = (session_failed task fits seen enters failed, tt);
            leaves = same;
            store = (
              read,
              are,
              (
                live.marked,
                goes (part_works read.task live.marked found.most mid new m (steps_of cut.order) p) _ _
                    (split_events (take m all) p.made p.begun (p.left ++ drop (steps_of cut.order) (drop m all)) all p.events (part_of_all m (steps_of cut.order) all mid new p)) p.change.events,
                inr (record {
                  whole = cut.whole;
                  order = cut.order;
                  at = cut.at;
                  replied = answers (take cut.whole read.orders) text replied;
                  marked = λ contents held image from. subst (λ (n : ℕ). n ≤ count_of (length read.task.plan) image)
                      (counted (of_orders (take cut.whole read.orders)) live w.after it w.was.task left w.was.left found.most w.was.is)
                      (subst (λ (t : Task). w.after.marked ≤ count_of (length t.plan) image) (w.was.task ∙ it)
                      (counts_still live m (steps_of cut.order) mid new w true contents (in_step true contents held.0 held.1) image from));
                  went = λ contents held none.
                      let at = in_step true contents held.0 held.1 in
                      let upto = of_orders (take cut.whole read.orders) in
                      let before = went_on upto live w.after it w.was.task left w.was.left found.most w.was.is valid runs contents (telling (IsUnsynced w.after) w.before) (w.was.in_step true contents at) in
                      let none_left = left_still upto live w.after it w.was.task left w.was.left found.most w.was.is ∙ none in
                      let still = reads_still live m (steps_of cut.order) mid new w none_left in
                      record {
                        marked = subst (λ (i : Image). IsSafeAfter read.task.input read.task.plan read.task.digest contents i (live.marked + marks_by (drop live.marked read.task.plan) m)) still before.marked;
                        reached = λ is. subst (λ (i : Image). IsReached read.task.input read.task.plan read.task.digest contents i) still (before.reached is);
                        settled = λ is. settled_still live m (steps_of cut.order) mid new w none_left true contents at (before.settled is);
                      };
                  events = stopped_events read.task valid runs live.marked old mid new ended (take m all) (take (steps_of cut.order) (drop m all)) p;
                }),
              ),
            );
          };
        }

    module _ (out : SinkState) (later : k.before.sink.faults ≤ out.faults) {status : ℕ} where
      -- each was carried out, and it is put how many steps are left
      pub live_done : IsResumable read.task old live.marked → ((contents : Contents) → InStep true live contents mid → WentOn read contents new live.marked)
          → AreMade (take (all_steps read.orders) (actions_left live)) mid new → ArePut live mid read.orders k.before.sink out → Shows (left_text (steps_left read live.marked)) out k.after.sink status
          → FormEndsAs k (Live names script) status
      live_done resumable went made (text, replied, put) after = shown (text ++ last) ends (record {
        status = ⊎_elim (λ is. inl is) (λ failed. let rose = failed.1 in inr (failed.0, omega (arith, later, rose))) after.status;
        begun = then_begins text last k.before.sink out k.after.sink put after.begun;
        done = λ is. then_extends text last k.before.sink out k.after.sink put (after.done is);
        later = omega (arith, later, after.later);
      })
        where
          last : List ℕ
          last = left_text (steps_left read live.marked)

          is : IsServed read old live.marked (text ++ last)
          is = (text, answers read.orders text replied, refl)

          served : ServesAll read old new live.marked
          served = makes read.orders made went

          ends : WorldEnds k (Live names script) (Done (text ++ last))
          ends = record {
            cause = rest_cause k (scripted_in names script) (live_rest old) read are (Done (text ++ last)) (live.marked, resumable, is);
            leaves = same;
            store = (read, are, (live.marked, served, is));
          }

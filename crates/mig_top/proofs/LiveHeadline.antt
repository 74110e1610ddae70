-- What `live` promises, from the causes of its outcomes and what it leaves.
use Rattle.mig_top.proofs.Common.{AreOfScripted, Bool, Call, Cell, Contents, Done, EndsAs, Extends, Files, Gate, GoesOn, HoldsContents, Image, IsInput, IsJobCell, IsListed, IsMoving, IsOrNotPut}
use Rattle.mig_top.proofs.Common.{IsReadyIdle, IsServed, IsSome, IsSound, IsState, IsTargetOf, IsUntouched, LeavesOnly, List, Live, LiveLeaves, Names, NoCell, Order, Outcome, Refusal}
use Rattle.mig_top.proofs.Common.{ResumesInFlight, ResumesLanding, Runs, Says, Scripted, ServesAll, ServesWell, SettlesTo, SinkFault, Some, State, StoreFault, WentOn, WorldEnds}
use Rattle.mig_top.proofs.Common.{[], ap, arith, changes_wider, code, count_most, count_of, flights, inl, inr, is_armed, left_text, length, not_done, refl, replies, resumes, scripted_in, steps_left}
use Rattle.mig_top.proofs.Common.{subst, take, told_kept, true, ℕ, ⊎_elim, ◌++◌, ◌∙◌, ◌≡◌, ◌⊎◌}
use Rattle.mig_top.proofs.EndsOf.{ends_of, refused_to, told_at}
use Rattle.mig_top.proofs.Exactness.{is_scripted, scripted_exact}
use Rattle.mig_top.proofs.LiveCommand.{live_rest}
use Rattle.mig_top.proofs.SessionEvents.{refused_events, slots_kept, within_kept}
use Rattle.mig_top.proofs.StoreEnds.{untouched_looks}
use Rattle.mig_top.proofs.StoreExact.{resumes_exact}
use Rattle.mig_top.proofs.Steps.{follow, only_done}
use Rattle.mig_top.proofs.TaskHeadline.{by_untouched, held_in_flight, held_landing, leaves_same, no_resume_refusal, status_so}
use Rattle.mig_top.specs.Calls.{Succeeds}
use Rattle.mig_top.specs.live.Leaves.{ForScripted}
use Rattle.mig_top.specs.live.Looks.{IsServable}
use Rattle.mig_top.specs.live.Promise.{LeavesStill, MayGoOn}
use Rattle.mig_words.specs.declared.endings.StoreRefusal.TheVariants as refusal

module _ {k : Call} {words : List (List ℕ)} {status : ℕ} (ends : EndsAs k words status) (law : IsState k.before.store) (last : IsState k.after.store) (files : Files) (names : Names) (script : List ℕ) (read : Scripted)
    (is : k.before.folder.files ≡ Some files) (holds : (scripted_in names script files).Passes read) (l : IsListed words (Live names script)) where
  abbrev old : State
  old = k.before.store

  abbrev new : State
  new = k.after.store

  -- what the files stand for is this
  same : (r : Scripted) → AreOfScripted k.before.folder names script r → r ≡ read
  same r are = (scripted_exact names script files).one_found r read (told_at (λ f. (scripted_in names script f).Passes r) k.before.folder.files files is are) holds

  valid : IsInput read.task.input × Runs read.task.input read.task.plan
  valid = is_scripted files names script read holds

  -- What is left, by outcome

  untouched_goes : IsUntouched old new → GoesOn read.task old new (count_of (length read.task.plan) old.reads)
  untouched_goes kept = record {
    carries = record {
      keeps = record {
        sound = λ asked contents tells before. leaves_same _ old new kept;
        ready = λ tells before. leaves_same _ old new kept;
        change = ([], changes_wider (λ cell. IsTargetOf (flights old) cell ⊎ IsJobCell read.task.input read.task.plan cell) (IsJobCell read.task.input read.task.plan) (IsMoving old) NoCell (λ cell moving. inl moving.1) (λ cell none. absurd none) [] old new (untouched_looks old new kept));
        later = omega (arith, kept.faults);
      };
      armed = λ before. leaves_same _ old new kept;
    };
    found = record { most = count_most (length read.task.plan) old.reads; found = λ tells are. refl };
    events = refused_events read.task valid.0 valid.1 (count_of (length read.task.plan) old.reads) old new (by_untouched old new law kept).ended;
  }

  abbrev Goes : Type 0
  Goes = (n : ℕ) × GoesOn read.task old new n

  of_this : (r : Scripted) → AreOfScripted k.before.folder names script r → (n : ℕ) → GoesOn r.task old new n → Goes
  of_this r are n h = (n, subst (λ (s : Scripted). GoesOn s.task old new n) (same r are) h)

  goes : (o : Outcome) → LiveLeaves k names script o → Goes
  goes (Done text) h = of_this h.0 h.1 h.2.0 h.2.1.goes
  goes (SinkFault text) h = of_this h.0 h.1 h.2.0 h.2.1.makes.goes
  goes (StoreFault before) h = of_this h.0 h.1 h.2.0 h.2.1
  goes (Refusal refusal.NotStarted) h = (count_of (length read.task.plan) old.reads, untouched_goes h)
  goes (Refusal r) h = of_this h.0 h.1 h.2.0 h.2.1
  goes o h = (count_of (length read.task.plan) old.reads, untouched_goes h)

  module _ (n : ℕ) (g : GoesOn read.task old new n) where
    since : (P : Image → Type 0) → (SettlesTo P old → LeavesOnly P old new) → LeavesStill k P
    since P leaves before image left = ⊎_elim (λ past. inl (law.only_now image past)) (λ p. inr p) ((leaves before).since old.moment image (omega arith) left)

    all_since : (P : Image → Type 0) → (SettlesTo P old → LeavesOnly P old new) → ((image : Image) → old.may_leave image → P image) → old.may_leave old.reads → (image : Image) → new.left_since old.moment image → P image
    all_since P leaves all images image left = ⊎_elim (all image) (λ p. p) (since P leaves (inr (all, images)) image left)

    -- what a crash may leave now it might have left since the beginning
    now_since : (image : Image) → new.may_leave image → new.left_since old.moment image
    now_since image left = last.counts_now old.moment image g.carries.keeps.change.1.time.later left

    again : (contents : Contents) → MayGoOn read.task contents old → MayGoOn read.task contents new
    again contents may =
        let added = g.carries.keeps.change.0 in
        let change = g.carries.keeps.change.1 in
        let tells = λ (cell : Cell). told_kept _ old.reads new.reads change.told cell in
        record {
          ready = record {
            cells = λ cell of. tells cell (may.ready.cells cell of);
            images = change.images may.ready.images;
            slots = slots_kept read.task valid.0 valid.1 n old new added change.events g.events may.ready.slots;
            ready = λ image left. all_since (IsReadyIdle read.task) (g.carries.keeps.ready may.ready.cells) may.ready.ready may.ready.images image (now_since image left);
          };
          cells = λ cell of. tells cell (may.cells cell of);
          sound = λ image left. all_since (IsSound true read.task.input read.task.plan read.task.digest contents) (g.carries.keeps.sound true contents may.ready.cells) may.sound may.ready.images image (now_since image left);
          within = within_kept read.task valid.0 valid.1 n old new added change.events g.events may.within;
        }

    well : ((status ≡ 0) ⊎ (status ≡ 6) → (flights new ≡ []) × (IsSome (old.reads Gate) → (image : Image) → new.may_leave image → is_armed image ≡ true))
        → (status ≡ 0 → (asked : Bool) (contents : Contents) → HoldsContents asked read.task contents old → Extends (replies read.task.input contents read.orders ++ left_text (steps_left read n)) k.before.sink k.after.sink)
        → (status ≡ 0 → (contents : Contents) → HoldsContents true read.task contents old → WentOn read contents new n) → ServesWell k read status
    well done told went = record {
      safe = λ asked contents tells. since (IsSound asked read.task.input read.task.plan read.task.digest contents) (g.carries.keeps.sound asked contents tells);
      ready = λ tells. since (IsReadyIdle read.task) (g.carries.keeps.ready tells);
      stays = since (λ image. is_armed image ≡ true) g.carries.armed;
      change = g.carries.keeps.change;
      rounds = n;
      found = g.found;
      events = g.events;
      again = again;
      landed = λ d. (done d).0;
      armed = λ d. (done d).1;
      told = told;
      went = went;
    }

  -- with another status than 0, and than 6
  undone : Goes → ((status ≡ 0) ⊎ (status ≡ 6) → ⊥) → ServesWell k read status
  undone (n, g) not = well n g (λ d. absurd (not d)) (λ zero. absurd (not (inl zero))) (λ zero. absurd (not (inl zero)))

  -- with 6
  unput : (r : Scripted) → AreOfScripted k.before.folder names script r → (orders : List Order) (n : ℕ) → ServesAll (record { task = r.task; orders = orders }) old new n → (status ≡ 0 → ⊥)
      → ServesWell k read status
  unput r are orders n made not =
      let m = subst (λ (s : Scripted). ServesAll (record { task = s.task; orders = orders }) old new n) (same r are) made in
      well n m.goes (λ d. (m.landed, m.armed)) (λ zero. absurd (not zero)) (λ zero. absurd (not zero))

  done : (text : List ℕ) (found : ℕ) → ServesAll read old new found → IsServed read old found text → (status ≡ 0 → Extends text k.before.sink k.after.sink) → ServesWell k read status
  done text found all (answers, are, said) put = well found all.goes (λ d. (all.landed, all.armed))
      (λ zero asked contents held.
      let left = left_text (steps_left read found) in
      subst (λ (t : List ℕ). Extends t k.before.sink k.after.sink) (said ∙ ap (λ (replied : List ℕ). replied ++ left) (are asked contents held)) (put zero))
      (λ zero. all.went)

  -- the same for what the files stand for
  done_of : (text : List ℕ) (r : Scripted) (found : ℕ) → r ≡ read → ServesAll r old new found × IsServed r old found text
      → (status ≡ 0 → Extends text k.before.sink k.after.sink) → ServesWell k read status
  done_of text r found it h put = let (all, served) = subst (λ (s : Scripted). ServesAll s old new found × IsServed s old found text) it h in done text found all served put

  well_at : (o : Outcome) → status ≡ code o → IsOrNotPut (WorldEnds k (Live names script)) k.before.sink k.after.sink o → Says k.before.sink k.after.sink o → ServesWell k read status
  well_at (Done text) at h says = let s = h.store in done_of text s.0 s.2.0 (same s.0 s.1) (s.2.1, s.2.2) (λ zero. says.done refl)
  well_at (SinkFault text) at (rose, inl h) says = let s = h.store in unput s.0 s.1 s.0.orders s.2.0 s.2.1 (λ zero. absurd (omega (arith, at, zero)))
  well_at (SinkFault text) at (rose, inr h) says = let s = h.store in unput s.0 s.1 (take s.2.1.whole s.0.orders) s.2.0 s.2.1.makes (λ zero. absurd (omega (arith, at, zero)))
  well_at o at h says = undone (goes o h.store) (not_done o tt at)

  pub serves_well : ServesWell k read status
  serves_well = let e = ends_of ends (Live names script) l in well_at e.outcome e.is e.so e.says

  -- Completeness

  -- a ground of the command is one of what the files stand for
  session_ground : ForScripted k.before.folder names script (λ r. ¬ IsServable r old) → ¬ IsServable read old
  session_ground (r, are, not) = subst (λ (s : Scripted). ¬ IsServable s old) (same r are) not

  serves : ((o : Outcome) → (resumes read.task old).Stops o → ⊥) → Succeeds k (¬ IsServable read old) status
  serves none fine quiet sound = refused_to k status session_ground
      (status_so ends files is (Live names script) l
      (λ o h. only_done (resumes read.task old) (IsServed read old) none o (follow (scripted_in names script files) (scripted_exact names script files) (live_rest old) read holds o h)) fine quiet sound)

  pub live_resumes : ResumesLanding k read.task (¬ IsServable read old) status
  live_resumes tells before = serves (no_resume_refusal read.task old valid.0 valid.1 tells.cells (held_landing read.task old tells before))

  pub live_in_flight : ResumesInFlight k read.task (¬ IsServable read old) status
  live_in_flight ready named = serves (no_resume_refusal read.task old valid.0 valid.1 ready.cells (held_in_flight read.task old ready named))

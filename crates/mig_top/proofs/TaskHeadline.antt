-- What `move`, `resume` and `halt` promise, from the causes of their outcomes and what they leave; also where copies may be in flight.
use Rattle.mig_top.proofs.Common.{Adds, AllMayHalt, AreFlights, AreOfTask, At, BeginsAfter, BeginsRun, Bool, Call, Carries, Cell, ChangedOnly, Contents, Disk, Done, EndsAs, Extends, Files, FindsTask}
use Rattle.mig_top.proofs.Common.{Finishes, FolderFault, Form, FormCause, FormEndsAs, Gate, Halt, HaltLeaves, HaltsAll, HaltsInPart, HaltsWell, HasContents, Head, IfSome, Image}
use Rattle.mig_top.proofs.Common.{IsArrived, IsClosingCell, IsCutShort, IsHaltCell, IsHalted, IsInput, IsJobCell, IsLanded, IsLayoutSaved, IsListed, IsOrNotPut, IsPermutation-refl, IsReadyIdle}
use Rattle.mig_top.proofs.Common.{IsReadyInFlight, IsReadyOnceLanded, IsResumable, IsResumeRefusal, IsSafe, IsShownFault, IsSomeAnd, IsSound, IsStandRefusal, IsStartRefusal, IsState, IsTargetOf}
use Rattle.mig_top.proofs.Common.{InputLists, IsUntouched, IsUnwritten, KeepsHalting, Lands, LeavesOnly, List, MayBeHalting, MayHalt, Memory, Move, MoveLeaves, MovesWell, OthersStay, Outcome, Refusal}
use Rattle.mig_top.proofs.Common.{Resume, ResumeLeaves, ResumesHalting, ResumesInFlight, ResumesWell, Runs, SavesLayout, Says, Settles, SettlesTo, SinkFault, Slot, Some, Spot}
use Rattle.mig_top.proofs.Common.{StartsInFlight, StartsWell, State, StaysArmed, StoreFault, StoreLeaves, Task, TaskNames, Tells, TellsStill, Untouched, WorldEnds, WroteNothing, [], ap}
use Rattle.mig_top.proofs.Common.{append-nil, arith, code, count_most, count_of, disk_at, done_text, ended, events_none, false, false≢true, flights, halted_text, idle_sound, inl, inr, is_armed}
use Rattle.mig_top.proofs.Common.{is_one, length, map, not_done, refl, resumes, same_image, same_none, same_wider, settles_land, slot_of, stands, starts, subst, sym, task_in, true, ℕ, ⊎_elim, ◌∙◌}
use Rattle.mig_top.proofs.Common.{◌≡◌, ◌⊎◌}
use Rattle.mig_top.proofs.Common.{FolderFailed, HoldsIn, IsHalting, IsHaltSafe, IsReady, MovesBy, MovesLanding, NoCell, None, ResumesLanding, ShowsNoGround}
use Rattle.mig_top.proofs.Common.{SinkFailed, StartsLanding, StoreFailed}
use Rattle.mig_top.proofs.EndsOf.{done_by, ends_of, ends_so, holds_by, one_changed, refused_so, refused_to, told_at, unrefused}
use Rattle.mig_top.proofs.Exactness.{comes_exactly, is_task, task_in_exact}
use Rattle.mig_top.proofs.StoreCommands.{halt_rest, move_rest, resume_rest, saved_only}
use Rattle.mig_top.proofs.Steps.{follow, lead, only_done}
use Rattle.mig_top.proofs.StoreEnds.{form_quiet, quiet, untouched_quiet}
use Rattle.mig_mover.proofs.LandedImages.{journal_landed, one_image, told_landed}
use Rattle.mig_mover.specs.Holdings.{IsUnrefused}
use Rattle.mig_top.specs.Calls.{Succeeds}
use Rattle.mig_top.specs.Ends.{IsRefusable}
use Rattle.mig_top.specs.carry.Leaves.{ForTask}
use Rattle.mig_top.proofs.StoreExact.{named_refused, resume_apart, start_apart}
use Rattle.mig_words.specs.declared.endings.StoreRefusal.TheVariants as refusal
use Rattle.mig_base.proofs.Landing.{flights_none, no_target}
use Rattle.mig_base.specs.Flights.{in_flight}

no_flights : (s : State) → s.events ≡ None → flights s ≡ []
no_flights s = ap in_flight

-- what is so before holds once the store is settled
settles_held : (s : State) (P : Image → Type 0) → HoldsIn s P → SettlesTo P s
settles_held s P (inl now) = inl (now.0, no_flights s now.1)
settles_held s P (inr told) = inr told

-- and of what reads give once copies have ended
landed_held : (s : State) (P : Image → Type 0) → HoldsIn s P → (image : Image) → IsLanded s image → (s.may_leave s.reads → s.may_leave image) → P image
landed_held s P (inl now) image landed left = subst P (same_image s.reads image
    (same_wider (IsTargetOf (flights s)) NoCell (λ cell any. no_target (flights s) cell (no_flights s now.1) any) s.reads image landed.others)) now.0
landed_held s P (inr told) image landed left = told.0 image (left told.1)

-- a resumption isn't refused where what reads give once copies have ended is ready, or names the plan
pub no_resume_refusal : (task : Task) (store : State) → IsInput task.input → Runs task.input task.plan → Tells (IsJobCell task.input task.plan) store.reads
    → ((image : Image) → IsLanded store image → (store.may_leave store.reads → store.may_leave image) → IsReadyIdle task image × (is_armed image ≡ true → image Head ≡ Some task.digest))
    → (o : Outcome) → IsShownFault task.input store (IsResumeRefusal task) o → ⊥
no_resume_refusal task store valid runs cells held o h =
    let at = held h.image h.landed h.left in
    resume_apart task valid runs h.image (told_landed store h.image h.landed (IsJobCell task.input task.plan) cells) (λ armed. rw (at.1 armed) refl) at.0 h.fault h.shows

module _ (task : Task) (store : State) (ready : IsReadyInFlight task store) where
  armed_at : (image : Image) → IsLanded store image → is_armed image ≡ is_armed store.reads
  armed_at image landed = ap is_one (journal_landed store image landed ready.slots Gate refl)

  pub held_in_flight : (is_armed store.reads ≡ true → store.reads Head ≡ Some task.digest) → (image : Image) → IsLanded store image
      → (store.may_leave store.reads → store.may_leave image) → IsReadyIdle task image × (is_armed image ≡ true → image Head ≡ Some task.digest)
  held_in_flight named image landed left = (
    ready.ready image (left ready.images),
    λ armed. journal_landed store image landed ready.slots Head refl ∙ named (sym (armed_at image landed) ∙ armed),
  )

-- or where that image is ready, or the journal names the plan
pub held_landing : (task : Task) (store : State) → TellsStill (IsJobCell task.input task.plan) store → IsReadyOnceLanded task store ⊎ ((is_armed store.reads ≡ true) × (store.reads Head ≡ Some task.digest))
    → (image : Image) → IsLanded store image → (store.may_leave store.reads → store.may_leave image) → IsReadyIdle task image × (is_armed image ≡ true → image Head ≡ Some task.digest)
held_landing task store tells (inl (other, lands, ready)) image landed left =
    let now : IsReady task.input task.plan image = subst (IsReady task.input task.plan) (one_image store tells.sources other image lands landed) ready in
    (λ idle. now, λ armed. absurd (false≢true (sym now.idle ∙ armed)))
held_landing task store tells (inr (armed, named)) image landed left = (
  λ idle. absurd (false≢true (sym idle ∙ ap is_one (journal_landed store image landed tells.slots Gate refl) ∙ armed)),
  λ still. journal_landed store image landed tells.slots Head refl ∙ named,
)

-- a command comes to its end, and is done or ends otherwise only where something fails, or the store refuses
pub status_so : {k : Call} {words : List (List ℕ)} {status : ℕ} → EndsAs k words status → (files : Files) → k.before.folder.files ≡ Some files → (form : Form) → IsListed words form
    → ((o : Outcome) → FormCause files k.before.store form o → code o ≡ 0) → Succeeds k (IsRefusable k form) status
status_so {k = k} {status = status} ends files is form l done fine quiet sound = elim (ends_so ends files is form l fine quiet) [
  | inl e ↦ inl (e.2 ∙ done e.0 e.1)
  | inr (inl seven) ↦ inr (inl seven)
  | inr (inr five) ↦ inr (inr (refused_so k form status sound five))
]

-- files stand for one task
pub one_task : (files : Files) (names : TaskNames) (a b : Task) → FindsTask files names a → FindsTask files names b → a ≡ b
one_task files names = (task_in_exact names files).one_found

-- also as far as the files of a folder are told
pub same_task : (k : Call) (files : Files) (names : TaskNames) (task : Task) → k.before.folder.files ≡ Some files → FindsTask files names task
    → (t : Task) → AreOfTask k.before.folder names t → t ≡ task
same_task k files names task is holds t are = one_task files names t task (told_at (λ f. FindsTask f names t) k.before.folder.files files is are) holds

module _ {k : Call} {words : List (List ℕ)} {status : ℕ} (ends : EndsAs k words status) (files : Files) (names : TaskNames) (task : Task) (is : k.before.folder.files ≡ Some files)
    (holds : FindsTask files names task) where
  -- a ground of this command is one of its task
  start_ground : Tells (IsJobCell task.input task.plan) k.before.store.reads → ForTask k.before.folder names (λ t. ¬ Tells (IsJobCell t.input t.plan) k.before.store.reads) → ⊥
  start_ground tells (t, are, untold) = untold (subst (λ (u : Task). Tells (IsJobCell u.input u.plan) k.before.store.reads) (sym (same_task k files names task is holds t are)) tells)

  resume_ground : ForTask k.before.folder names (λ t. ¬ IsUnrefused t k.before.store) → ¬ IsUnrefused task k.before.store
  resume_ground (t, are, refused) = subst (λ (u : Task). ¬ IsUnrefused u k.before.store) (same_task k files names task is holds t are) refused

  -- where each image that reads may give once copies have ended is ready
  starts_from : IsListed words (Move names) → Tells (IsJobCell task.input task.plan) k.before.store.reads
      → ((image : Image) → IsLanded k.before.store image → (k.before.store.may_leave k.before.store.reads → k.before.store.may_leave image) → IsReady task.input task.plan image)
      → (FolderFailed k → ⊥) → (SinkFailed k → ⊥) → (StoreFailed k → ⊥) → (status ≡ 0) ⊎ (status ≡ 7)
  starts_from l cells ready fine quiet sound =
      let valid = is_task files names task holds in
      unrefused k status (start_ground cells)
      (status_so ends files is (Move names) l (λ o h. only_done (starts task k.before.store) (λ _ text. text ≡ done_text task.plan 0)
      (λ o h. start_apart task valid.0 valid.1 h.image (told_landed k.before.store h.image h.landed (IsJobCell task.input task.plan) cells) (ready h.image h.landed h.left) h.fault h.shows)
      o (follow (task_in names files) (task_in_exact names files) (move_rest k.before.store) task holds o h)) fine quiet sound)

  starts_well : IsListed words (Move names) → StartsWell k task status
  starts_well l cells ready = starts_from l cells (landed_held k.before.store (IsReady task.input task.plan) ready)

  starts_landing : IsListed words (Move names) → StartsLanding k task status
  starts_landing l tells (image, landed, ready) = starts_from l tells.cells
      (λ other lands left. subst (IsReady task.input task.plan) (one_image k.before.store tells.sources image other landed lands) ready)

  starts_in_flight : IsListed words (Move names) → StartsInFlight k task status
  starts_in_flight l ready idle = starts_from l ready.cells
      (λ image landed left. ready.ready image (left ready.images) (armed_at task k.before.store ready image landed ∙ idle))

  resumes_from : {Ground : Type 0} → (¬ IsUnrefused task k.before.store → Ground) → IsListed words (Resume names) → Tells (IsJobCell task.input task.plan) k.before.store.reads
      → ((image : Image) → IsLanded k.before.store image → (k.before.store.may_leave k.before.store.reads → k.before.store.may_leave image)
      → IsReadyIdle task image × (is_armed image ≡ true → image Head ≡ Some task.digest)) → Succeeds k Ground status
  resumes_from shows l cells held fine quiet sound =
      let valid = is_task files names task holds in
      refused_to k status (λ ground. shows (resume_ground ground)) (status_so ends files is (Resume names) l
      (λ o h. only_done (resumes task k.before.store) (λ found text. text ≡ done_text task.plan found) (no_resume_refusal task k.before.store valid.0 valid.1 cells held)
      o (follow (task_in names files) (task_in_exact names files) (resume_rest k.before.store) task holds o h)) fine quiet sound)

  resumes_well : IsListed words (Resume names) → ResumesWell k task status
  resumes_well l cells held = resumes_from shows l cells (landed_held k.before.store (λ image. IsReadyIdle task image × (is_armed image ≡ true → image Head ≡ Some task.digest)) held)
    where
      shows : ¬ IsUnrefused task k.before.store → ¬ ShowsNoGround task k.before.store
      shows refused none =
          let landed = no_flights k.before.store none.alone in
          refused (record { slots = subst AreFlights (sym landed) flights_none; told = none.cells; kept = λ armed named. (landed, none.kept armed named) })

  resumes_landing : IsListed words (Resume names) → ResumesLanding k task (¬ IsUnrefused task k.before.store) status
  resumes_landing l tells before = resumes_from (λ refused. refused) l tells.cells (held_landing task k.before.store tells before)

  resumes_in_flight : IsListed words (Resume names) → ResumesInFlight k task (¬ IsUnrefused task k.before.store) status
  resumes_in_flight l ready named = resumes_from (λ refused. refused) l ready.cells (held_in_flight task k.before.store ready named)

-- what holds whatever the outcome
pub record AreKept (task : Task) (old new : State) : Type 0 where
  pub sound : (asked : Bool) (contents : Contents) → Tells (IsJobCell task.input task.plan) old.reads → SettlesTo (IsSound asked task.input task.plan task.digest contents) old
      → LeavesOnly (IsSound asked task.input task.plan task.digest contents) old new
  pub ready : Tells (IsJobCell task.input task.plan) old.reads → SettlesTo (IsReadyIdle task) old → LeavesOnly (IsReadyIdle task) old new
  pub armed : StaysArmed old new

pub leaves_same : (P : Image → Type 0) (old new : State) → IsUntouched old new → LeavesOnly P old new
leaves_same P old new same = record { later = omega (arith, same.moment); since = λ t image le left. inl (same.since t image left) }

untouched_kept : (task : Task) (old new : State) → IsUntouched old new → AreKept task old new
untouched_kept task old new same =
    record { sound = λ asked contents tells before. leaves_same _ old new same; ready = λ tells before. leaves_same _ old new same; armed = λ before. leaves_same _ old new same }

-- For `halt`: where nothing was written

pub record IsQuiet (old new : State) : Type 0 where
  pub wrote : WroteNothing old new
  pub kept : (image : Image) → new.may_leave image → old.may_leave image
  pub ended : Adds (BeginsRun (flights old) []) old new

module _ (old new : State) (law : IsState old) where
  by_lands : Lands old new → IsQuiet old new
  by_lands lands = record {
    wrote = quiet old new law (IsTargetOf (flights old)) lands.added lands.change;
    kept = λ image left. let from = lands.change.crash image left in subst old.may_leave (same_image from.0 image from.2) from.1;
    ended = λ some. (lands.added, lands.part, lands.change.events);
  }

  -- no event is the beginning of the ends of the copies in flight
  none_ended : BeginsRun (flights old) [] []
  none_ended = (map ended (flights old), record { order = flights old; rest = []; each_once = IsPermutation-refl (flights old); is = sym (append-nil (map ended (flights old))); then_rounds = refl })

  pub by_untouched : IsUntouched old new → IsQuiet old new
  by_untouched same = record {
    wrote = untouched_quiet old new law same;
    kept = same.leaves;
    ended = λ some. ([], none_ended, same.events ∙ events_none old.events);
  }

  by_settles : Settles old new → IsQuiet old new
  by_settles settles = by_lands (settles_land old new settles)

-- a slot has the name of its disk alone
same_slot : (a b : InputLists) → a.disks ≡ b.disks → (spot : Spot) → slot_of a spot ≡ slot_of b spot
same_slot a b e spot = ap (λ (disks : List Disk). Slot (disk_at disks spot.disk.0).name spot.slot) e

-- where a plan is halted, a migration over the layout there begins well
begins_well : (task : Task) (rounds : ℕ) (contents : Contents) (image : Image) → IsHalted task.input task.plan contents image rounds → (begun : Task) → BeginsAfter task rounds begun
    → IsSound true begun.input begun.plan begun.digest contents image
begins_well task rounds contents image halted begun after = idle_sound true begun.input begun.plan begun.digest contents image stand halted.idle
  where
    stand : HasContents begun.input (At begun.input begun.plan 0) contents image
    stand item spot at = ap image (same_slot begun.input task.input after.disks spot) ∙ halted.stand item spot (sym (after.spots item) ∙ at)

-- where all that a crash may leave is so, it is so once the store is settled
all_settle : (task : Task) (contents : Contents) (s : State) → s.may_leave s.reads → AllMayHalt task contents s → MayHalt task contents s
all_settle task contents s images (inl all) = inl (inr (all, images))
all_settle task contents s images (inr (n, all)) = inr (n, inr (all, images))

all_kept : (task : Task) (contents : Contents) (old new : State) → ((image : Image) → new.may_leave image → old.may_leave image) → AllMayHalt task contents old → AllMayHalt task contents new
all_kept task contents old new kept (inl all) = inl (λ image left. all image (kept image left))
all_kept task contents old new kept (inr (n, all)) = inr (n, λ image left. all image (kept image left))

closing_cell : (task : Task) (k : ℕ) (cell : Cell) → IsClosingCell task k cell → IsHaltCell task.input task.plan cell
closing_cell task k cell (inl gate) = inl (inr (inl gate))
closing_cell task k cell (inr free) = inr (free.0, free.1, free.3)

-- The promises

module _ {k : Call} {words : List (List ℕ)} {status : ℕ} (ends : EndsAs k words status) (law : IsState k.before.store) (files : Files) (names : TaskNames) (task : Task)
    (is : k.before.folder.files ≡ Some files) (holds : FindsTask files names task) where
  abbrev old : State
  old = k.before.store

  abbrev new : State
  new = k.after.store

  same : (t : Task) → AreOfTask k.before.folder names t → t ≡ task
  same = same_task k files names task is holds

  kept_of : (t : Task) → AreOfTask k.before.folder names t → Carries t old new → AreKept task old new
  kept_of t are h = subst (λ (u : Task). AreKept u old new) (same t are) (record { sound = h.keeps.sound; ready = h.keeps.ready; armed = h.armed })

  finished_of : (t : Task) (found : ℕ) → AreOfTask k.before.folder names t → Finishes t old new found → (found : ℕ) × Finishes task old new found
  finished_of t found are h = (found, subst (λ (u : Task). Finishes u old new found) (same t are) h)

  move_kept : (o : Outcome) → MoveLeaves k.before.folder old new names o → AreKept task old new
  move_kept (Done text) h = kept_of h.0 h.1 h.2.0.carries
  move_kept (StoreFault before) h = kept_of h.0 h.1 h.2.carries
  move_kept (Refusal refusal.NotStarted) h = untouched_kept task old new h
  move_kept (Refusal r) h = kept_of h.0 h.1 h.2.carries
  move_kept o h = untouched_kept task old new h

  resume_kept : (o : Outcome) → ResumeLeaves k.before.folder old new names o → AreKept task old new
  resume_kept (Done text) h = kept_of h.0 h.1 h.2.1.moves.carries
  resume_kept (StoreFault before) h = kept_of h.0 h.1 h.2.0.2.carries
  resume_kept o h = move_kept o h

  module _ (form : Form) (l : IsListed words form) (form_kept : (o : Outcome) → StoreLeaves k form o → AreKept task old new)
      (form_finished : (text : List ℕ) → StoreLeaves k form (Done text) → (found : ℕ) × Finishes task old new found) (uncut : (text : List ℕ) → IsCutShort k form text → ⊥) where
    e : FormEndsAs k form status
    e = ends_of ends form l

    kept : AreKept task old new
    kept = holds_by e (AreKept task old new) (λ o h. form_kept o h.store)

    finished : (status ≡ 0) ⊎ (status ≡ 6) → (found : ℕ) × Finishes task old new found
    finished done = let d = done_by e (λ text h. uncut text h.cause) done in form_finished d.0 d.1.store

    -- each image since the beginning
    since : (P : Image → Type 0) → LeavesOnly P old new → ((image : Image) → old.may_leave image → P image) → (image : Image) → new.left_since old.moment image → P image
    since P leaves all image left = ⊎_elim (λ past. all image (law.only_now image past)) (λ p. p) (leaves.since old.moment image (omega arith) left)

    moves_by : (Before : (Image → Type 0) → Type 0) → ((P : Image → Type 0) → Before P → SettlesTo P old) → MovesBy Before k task status
    moves_by Before settles = record {
      safe = λ asked contents tells images all. since (IsSound asked task.input task.plan task.digest contents) (kept.sound asked contents tells (inr (all, images))) all;
      ready = λ tells images all. since (IsReadyIdle task) (kept.ready tells (inr (all, images))) all;
      armed = λ images all. since (λ image. is_armed image ≡ true) (kept.armed (inr (all, images))) all;
      reached = λ done contents tells before. (finished done).1.reached contents tells (settles (IsSound true task.input task.plan task.digest contents) before);
      arrived = λ done contents tells before. (finished done).1.arrived contents tells (settles (IsSafe task.input task.plan task.digest contents) before);
      settled = λ done. (finished done).1.settled;
    }

    form_moves : MovesWell k task status × MovesLanding k task status
    form_moves = (moves_by (HoldsIn old) (settles_held old), moves_by (λ P. SettlesTo P old) (λ P before. before))

  -- what `move` promises, where copies may be in flight too
  pub moves_well : IsListed words (Move names) → (MovesWell k task status × StartsWell k task status) × (MovesLanding k task status × StartsLanding k task status × StartsInFlight k task status)
  moves_well l =
      let moves = form_moves (Move names) l move_kept (λ text h. finished_of h.0 0 h.1 h.2.0.finishes) (λ text h. h) in
      ((moves.0, starts_well ends files names task is holds l), (moves.1, starts_landing ends files names task is holds l, starts_in_flight ends files names task is holds l))

  -- Where closing the plan early was stopped no item is lost

  abbrev Since : Type 0
  Since = (contents : Contents) (n : ℕ) → Tells (IsJobCell task.input task.plan) old.reads → MayBeHalting task contents old n
      → (image : Image) → new.left_since old.moment image → old.may_leave image ⊎ IsSafe task.input task.plan task.digest contents image

  by_keeps : (t : Task) → AreOfTask k.before.folder names t → KeepsHalting t old new → Since
  by_keeps t are keeps contents n tells may image left =
      ⊎_elim (λ past. inl (law.only_now image past)) (λ safe. inr safe)
      ((subst (λ (u : Task). KeepsHalting u old new) (same t are) keeps contents n tells may).since old.moment image (omega arith) left)

  since_form : (o : Outcome) → StoreLeaves k (Resume names) o → Since
  since_form (Done text) h = by_keeps h.0 h.1 h.2.1.halting
  since_form (StoreFault before) h = by_keeps h.0 h.1 h.2.1
  since_form (SinkFault text) h = λ contents n tells may image left. inl (untouched_quiet old new law h image left)
  since_form o h = λ contents n tells may image left. inl (form_quiet k law (Resume names) o h (λ writes. writes) image left)

  -- and each arrives

  abbrev Arrives : Task → Type 0
  Arrives t = (contents : Contents) (n : ℕ) → Tells (IsJobCell t.input t.plan) old.reads → MayBeHalting t contents old n → IsArrived t.input t.plan t.digest contents new.reads

  arrives_done : (text : List ℕ) → StoreLeaves k (Resume names) (Done text) → Arrives task
  arrives_done text h = subst Arrives (same h.0 h.1) h.2.1.halted

  halting_by : (May : Contents → ℕ → Type 0) → ((contents : Contents) (n : ℕ) → May contents n → MayBeHalting task contents old n) → IsListed words (Resume names)
      → ResumesHalting May k task status
  halting_by May gives l =
      let e = ends_of ends (Resume names) l in
      record {
        safe = λ contents n tells may. holds_by e Since (λ o h. since_form o h.store) contents n tells (gives contents n may);
        arrived = λ done contents n tells may. let d = done_by e (λ text h. h.cause) done in arrives_done d.0 d.1.store contents n tells (gives contents n may);
      }

  still_halting : (contents : Contents) (n : ℕ) → IsHalting task old contents n → MayBeHalting task contents old n
  still_halting contents n (alone, armed, held) =
      record { armed = armed; slots = subst AreFlights (sym (no_flights old alone)) flights_none; images = settles_held old (λ image. IsHaltSafe task.input task.plan task.digest contents image n) held }

  pub resumes_all : IsListed words (Resume names) → (MovesWell k task status × ResumesWell k task status × ResumesHalting (IsHalting task old) k task status)
      × (MovesLanding k task status × ResumesLanding k task (¬ IsUnrefused task old) status × ResumesInFlight k task (¬ IsUnrefused task old) status
      × ResumesHalting (λ contents. MayBeHalting task contents old) k task status)
  resumes_all l =
      let moves = form_moves (Resume names) l resume_kept (λ text h. finished_of h.0 h.2.0 h.1 h.2.1.moves.finishes) (λ text h. h) in (
        (moves.0, resumes_well ends files names task is holds l, halting_by (IsHalting task old) still_halting l),
        (
          moves.1,
          resumes_landing ends files names task is holds l,
          resumes_in_flight ends files names task is holds l,
          halting_by (λ contents. MayBeHalting task contents old) (λ contents n may. may) l,
        ),
      )

  -- `halt`

  module _ (layout : List ℕ) (l : IsListed words (Halt names layout)) where
    -- Completeness

    not_shown : AreFlights (flights old) → is_armed old.reads ≡ true → old.reads Head ≡ Some task.digest → (o : Outcome) → IsShownFault task.input old (IsStandRefusal task) o → ⊥
    not_shown are armed named o h =
        let same : h.image Head ≡ Some task.digest = journal_landed old h.image h.landed are Head refl ∙ named in
        named_refused task h.image (ap is_one (journal_landed old h.image h.landed are Gate refl) ∙ armed)
        (rw same refl) (rw same refl) h.fault h.shows

    completes : AreFlights (flights old) → is_armed old.reads ≡ true → old.reads Head ≡ Some task.digest → Succeeds k (¬ IsUnrefused task old) status
    completes are armed named fine quiet sound =
        refused_to k status (resume_ground ends files names task is holds)
        (status_so ends files is (Halt names layout) l (λ o h. only_done (stands task old) (λ found text. text ≡ halted_text task.plan found)
        (not_shown are armed named) o (follow (task_in names files) (task_in_exact names files) (halt_rest old) task holds o h)) fine quiet sound)

    -- The promise, by what is left

    others_kept : ChangedOnly layout k.before.folder k.after.folder → IsSomeAnd k.after.folder.files (OthersStay layout files)
    others_kept changed = told_at (λ f. IsSomeAnd k.after.folder.files (OthersStay layout f)) k.before.folder.files files is changed

    quiet_end : IsQuiet old new → ChangedOnly layout k.before.folder k.after.folder → ((status ≡ 0) ⊎ (status ≡ 6) → ⊥) → HaltsWell k files task layout status
    quiet_end q changed not = record {
      rounds = count_of (length task.plan) old.reads;
      found = record { most = count_most (length task.plan) old.reads; found = λ tells are. refl };
      safe = λ contents tells may image left. inl (q.wrote image left);
      again = λ contents tells images all. all_kept task contents old new q.kept all;
      halted = λ done. absurd (not done);
      settled = λ done. absurd (not done);
      saved = λ done. absurd (not done);
      first = inl q.wrote;
      others = others_kept changed;
      cells = λ image left. (image, q.wrote image left, same_none (IsHaltCell task.input task.plan) image);
      ended = q.ended;
      told = λ zero. absurd (not (inl zero));
      halts = completes;
      next = λ done. absurd (not done);
    }

    -- the plan was closed in part, or whole, where the command is done; and with status 0 its text was put
    pub record Closes (t : Task) (rounds : ℕ) : Type 0 where
      pub part : HaltsInPart t old new rounds
      pub saves : SavesLayout t layout rounds k.before.folder k.after.folder
      pub whole : (status ≡ 0) ⊎ (status ≡ 6) → HaltsAll t old new rounds
      pub said : status ≡ 0 → Extends (halted_text t.plan rounds) k.before.sink k.after.sink

    written_well : (rounds : ℕ) → Closes task rounds → HaltsWell k files task layout status
    written_well rounds c =
        let saved = told_at (λ f. IsSomeAnd k.after.folder.files (IsLayoutSaved task layout rounds f)) k.before.folder.files files is c.saves in
        record {
          rounds = rounds;
          found = c.part.found;
          safe = λ contents tells may image left. ⊎_elim (λ past. inl (law.only_now image past)) (λ safe. inr safe) ((c.part.safe contents tells may).since old.moment image (omega arith) left);
          again = λ contents tells images all. inr (rounds, c.part.again contents tells (all_settle task contents old images all));
          halted = λ done contents tells may. (c.whole done).halted contents tells may;
          settled = λ done. (c.whole done).settled;
          saved = λ done. saved;
          first = inr saved;
          others = others_kept (saved_only task layout rounds k.before.folder k.after.folder c.saves);
          cells = λ image left. ⊎_elim (λ past. (image, law.only_now image past, same_none (IsHaltCell task.input task.plan) image))
              (λ from. (from.0, from.1, same_wider (IsClosingCell task rounds) (IsHaltCell task.input task.plan) (closing_cell task rounds) from.0 image from.2))
              (c.part.change.2.time.since old.moment image (omega arith) left);
          ended = λ some. (c.part.change.0, c.part.change.1, c.part.change.2.events);
          told = c.said;
          halts = completes;
          next = λ done contents tells may begun after. begins_well task rounds contents new.reads ((c.whole done).halted contents tells may) begun after;
        }

    -- The ends

    written_end : (t : Task) → AreOfTask k.before.folder names t → (rounds : ℕ) → Closes t rounds → HaltsWell k files task layout status
    written_end t are rounds c = written_well rounds (subst (λ (u : Task). Closes u rounds) (same t are) c)

    unwritten_end : IsUnwritten old new → IsQuiet old new
    unwritten_end = ⊎_elim (by_untouched old new law) (by_settles old new law)

    unchanged_end : IsQuiet old new → Untouched k.before.folder k.after.folder → ((status ≡ 0) ⊎ (status ≡ 6) → ⊥) → HaltsWell k files task layout status
    unchanged_end q kept = quiet_end q (one_changed k.before.folder k.after.folder layout kept)

    well_at : (o : Outcome) → status ≡ code o → IsOrNotPut (WorldEnds k (Halt names layout)) k.before.sink k.after.sink o → Says k.before.sink k.after.sink o → HaltsWell k files task layout status
    well_at (Done text) at h says =
        let s = h.store in
        let said = λ (zero : status ≡ 0). subst (λ (t : List ℕ). Extends t k.before.sink k.after.sink) s.2.3 (says.done refl) in
        written_end s.0 s.1 s.2.0 (record { part = s.2.1.part; saves = s.2.2; whole = λ done. s.2.1; said = said })
    well_at (SinkFault text) at (rose, inr h) says = absurd h.cause
    well_at (SinkFault text) at (rose, inl h) says =
        let s = h.store in
        written_end s.0 s.1 s.2.0 (record { part = s.2.1.part; saves = s.2.2; whole = λ done. s.2.1; said = λ zero. absurd (omega (arith, at, zero)) })
    well_at (StoreFault before) at h says = by h.store
      where
        not : (status ≡ 0) ⊎ (status ≡ 6) → ⊥
        not = not_done (StoreFault before) tt at

        by : HaltLeaves k.before.folder k.after.folder old new names layout (StoreFault before) → HaltsWell k files task layout status
        by (inl quiet) = quiet_end (by_lands old new law quiet.0) h.leaves not
        by (inr w) = written_end w.0 w.1 w.2.0 (record { part = w.2.1; saves = w.2.2; whole = λ done. absurd (not done); said = λ zero. absurd (not (inl zero)) })
    well_at FolderFault at h says = quiet_end (unwritten_end h.store) h.leaves (not_done FolderFault tt at)
    well_at Memory at h says = unchanged_end (unwritten_end h.store) h.leaves (not_done Memory tt at)
    well_at (Refusal refusal.NotStarted) at h says = unchanged_end (by_settles old new law h.store) h.leaves (not_done (Refusal refusal.NotStarted) tt at)
    well_at (Refusal (refusal.OtherPlan kept ours)) at h says = unchanged_end (by_settles old new law h.store) h.leaves (not_done (Refusal (refusal.OtherPlan kept ours)) tt at)
    well_at o at h says = unchanged_end (by_untouched old new law h.store) h.leaves (not_done o tt at)

    pub halts_well : HaltsWell k files task layout status
    halts_well = let e = ends_of ends (Halt names layout) l in well_at e.outcome e.is e.so e.says

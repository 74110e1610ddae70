-- How `fill`, `move`, `resume` and `halt` end.
use Rattle.mig_top.proofs.Common.{AreOfLayout, AreOfTask, Call, Carries, Cell, ChangedOnly, ChangesOnly, CommandError, Contents, Done, EndsHalted, Event, Files, Fill, FolderState, Gate, Halt}
use Rattle.mig_top.proofs.Common.{HaltsAll, HaltsInPart, HasFound, HasMade, Head, IfSome, Image, IsClosingCell, IsFault, IsFillFault, IsFillRefusal, IsHaltCell, IsHaltSafe, IsJobCell, IsLayoutSaved, IsOutcomeOf}
use Rattle.mig_top.proofs.Common.{IsResumable, IsResumeFault, IsResumeRefusal, IsSafe, IsSafeAt, IsSettled, IsShownFault, IsSome, IsSomeAnd, IsStandFault, IsStandRefusal, IsStanding, IsStartFault}
use Rattle.mig_top.proofs.Common.{InputLists, IsStartRefusal, IsStartable, IsState, IsTargetOf, KeepsHaltSafe, KeepsHalting, Lands, LeavesOnly, List, MayHalt, Move, MoveFault, MovesAll, MovesInPart}
use Rattle.mig_top.proofs.Common.{NoCell, None, Option, OthersStay, Outcome, Resume, ResumesAll, ResumesInPart, SaveEnds, SavesLayout, Settles, Some, State, Step, Task, TaskNames, Tells}
use Rattle.mig_top.proofs.Common.{Untouched, WasFillable, WorldEnds, WritesListed, [], and_then, append-nil, arith, changes_then, changes_wider, count_of, done_text, false, false≢true, fault_outcome}
use Rattle.mig_top.proofs.Common.{filled_text, fills, finds, flights, four_and, gate_kept, halted_text, inl, inr, is_armed, journal_kept, layout_in, leaves_then, length, outcome_of, quiet_leaves}
use Rattle.mig_top.proofs.Common.{refl, resumes, same_image, settled_reads, settles_land, settles_landed, stands, starts, subst, sym, task_in, tells_more, ℕ, ◌∙◌, ◌≡◌, ◌≤◌, ◌⊎◌}
use Rattle.mig_top.proofs.Steps.{if_map, lead}
use Rattle.mig_top.proofs.StoreEnds.{settled_left}
use Rattle.mig_base.specs.Slots.{IsListedCell}
use Rattle.mig_base.specs.Stores.{Changes}
use Rattle.mig_mover.specs.Stands.{Stands}
use Rattle.mig_top.proofs.EndsOf.{failed_to, one_changed}
use Rattle.mig_mover.specs.Holdings.{IsUnrefused}
use Rattle.mig_store.specs.Grounds.{FailedOr}
use Rattle.mig_top.specs.Ends.{IsRefusable}
use Rattle.mig_mover.specs.declared.faults.MoveFault.TheVariants as fault
use Rattle.mig_words.specs.declared.endings.CommandError.TheVariants as ending
use Rattle.mig_top.specs.Calls as calls

-- what is left of `move` once its task is known, and of `resume`
abbrev pub move_rest : State → Task → Step (List ℕ)
move_rest store task = and_then (starts task store) (λ _. finds (λ text. text ≡ done_text task.plan 0))

abbrev pub resume_rest : State → Task → Step (List ℕ)
resume_rest store task = and_then (resumes task store) (λ found. finds (λ text. text ≡ done_text task.plan found))

-- what a refusal of a store that is settled shows
pub shown_by : (k : Call) (input : InputLists) (f : MoveFault) → Settles k.before.store k.after.store → (Shows : Image → MoveFault → Type 0) → Shows k.after.store.reads f
    → IsShownFault input k.before.store Shows (fault_outcome input f)
shown_by k input f settles Shows h = record {
  fault = f;
  is = refl;
  image = k.after.store.reads;
  landed = settles_landed k.before.store k.after.store settles;
  left = settled_left k.before.store k.after.store settles;
  shows = h;
}

-- what is left of a command once its files are read leads to its outcome
pub rest_cause : {A : Type 0} (k : Call) (first : Files → Step A) (rest : A → Step (List ℕ)) (read : A) → IfSome k.before.folder.files (λ files. (first files).Passes read)
    → (o : Outcome) → IsOutcomeOf (rest read) o → IfSome k.before.folder.files (λ files. IsOutcomeOf (and_then (first files) rest) o)
rest_cause k first rest read are o h = if_map k.before.folder.files (λ files holds. lead (first files) rest read holds o h) are

-- `move` and `resume`

module _ {k : Call} {names : TaskNames} (same : Untouched k.before.folder k.after.folder) {task : Task} (are : AreOfTask k.before.folder names task)
    (carries : Carries task k.before.store k.after.store) where
  -- `move`

  pub move_done : MovesAll task k.before.store k.after.store 0 → MovesInPart task k.before.store k.after.store 0 → IsStartable task k.before.store
      → WorldEnds k (Move names) (Done (done_text task.plan 0))
  move_done all part startable = record {
    cause = rest_cause k (task_in names) (move_rest k.before.store) task are (Done (done_text task.plan 0)) (tt, startable, refl);
    leaves = same;
    store = (task, are, (all, part));
  }

  -- where it is refused, by a store that is settled
  pub move_refused : MovesInPart task k.before.store k.after.store 0 → (f : MoveFault) → IsFault (k.refuses × ¬ Tells (IsJobCell task.input task.plan) k.before.store.reads) task k.before.store k.after.store f
      → IsStartFault f → WorldEnds k (Move names) (fault_outcome task.input f)
  move_refused part fault.Store h kind = record { cause = (failed_to k.before.store k.after.store untold h, refl); leaves = same; store = (task, are, part) }
    where
      untold : ¬ Tells (IsJobCell task.input task.plan) k.before.store.reads → IsRefusable k (Move names)
      untold not = (task, are, not)
  move_refused part fault.NotStarted h kind = absurd kind
  move_refused part f h kind = record {
    cause = rest_cause k (task_in names) (move_rest k.before.store) task are (fault_outcome task.input f) (inl (shown_by k task.input f h.0 (IsStartRefusal task) h.1));
    leaves = same;
    store = (task, are, record { carries = carries; settles = h.0 });
  }

  -- `resume`

  pub resume_done : (found : ℕ) → ResumesAll task k.before.store k.after.store found → MovesInPart task k.before.store k.after.store found → IsResumable task k.before.store found
      → WorldEnds k (Resume names) (Done (done_text task.plan found))
  resume_done found all part resumable = record {
    cause = rest_cause k (task_in names) (resume_rest k.before.store) task are (Done (done_text task.plan found)) (found, resumable, refl);
    leaves = same;
    store = (task, are, (found, all, part, refl));
  }

  pub resume_refused : ResumesInPart task k.before.store k.after.store → KeepsHalting task k.before.store k.after.store → (f : MoveFault) → IsFault (k.refuses × ¬ IsUnrefused task k.before.store) task k.before.store k.after.store f
      → IsResumeFault f → WorldEnds k (Resume names) (fault_outcome task.input f)
  resume_refused part halting fault.Store h kind = record { cause = (failed_to k.before.store k.after.store ground h, refl); leaves = same; store = (task, are, (part, halting)) }
    where
      ground : ¬ IsUnrefused task k.before.store → IsRefusable k (Resume names)
      ground not = (task, are, not)
  resume_refused part halting fault.NotStarted h kind = absurd kind
  resume_refused part halting fault.Started h kind = absurd kind
  resume_refused part halting f h kind = record {
    cause = rest_cause k (task_in names) (resume_rest k.before.store) task are (fault_outcome task.input f) (inl (shown_by k task.input f h.0 (IsResumeRefusal task) h.1));
    leaves = same;
    store = (task, are, record { carries = carries; settles = h.0 });
  }

-- `fill`

-- what is left of it once its layout is read
abbrev pub fill_rest : State → InputLists → Step (List ℕ)
fill_rest store input = and_then (fills input store) (λ _. finds (λ text. text ≡ filled_text input))

module _ {k : Call} {disks now : List ℕ} (same : Untouched k.before.folder k.after.folder) (input : InputLists) (layout : AreOfLayout k.before.folder disks now input)
    (writes : WritesListed input k.before.store k.after.store) where
  -- the layout was read, and the store refused
  pub fill_refused : (f : MoveFault) → IsFillFault (k.refuses × ¬ Tells (IsListedCell input) k.before.store.reads) input k.before.store k.after.store f → WorldEnds k (Fill disks now) (fault_outcome input f)
  fill_refused fault.Store h = record { cause = (failed_to k.before.store k.after.store untold h, refl); leaves = same; store = (input, layout, writes) }
    where
      untold : ¬ Tells (IsListedCell input) k.before.store.reads → IsRefusable k (Fill disks now)
      untold not = (input, layout, not)
  fill_refused fault.Started h =
      let shows = shown_by k input fault.Started h.0 (IsFillRefusal input) h.1 in
      record { cause = rest_cause k (layout_in disks now) (fill_rest k.before.store) input layout (fault_outcome input fault.Started) (inl shows); leaves = same; store = h.0 }
  fill_refused (fault.Occupied disk slot) h =
      let shows = shown_by k input (fault.Occupied disk slot) h.0 (IsFillRefusal input) h.1 in
      record { cause = rest_cause k (layout_in disks now) (fill_rest k.before.store) input layout (fault_outcome input (fault.Occupied disk slot)) (inl shows); leaves = same; store = h.0 }
  fill_refused _ h = absurd h.1

  -- it is done
  pub fill_done : HasMade input k.after.store.reads → IsSettled k.after.store → flights k.after.store ≡ [] → is_armed k.after.store.reads ≡ false → WasFillable input k.before.store
      → WorldEnds k (Fill disks now) (Done (filled_text input))
  fill_done made settled landed idle fillable = record {
    cause = rest_cause k (layout_in disks now) (fill_rest k.before.store) input layout (Done (filled_text input)) (tt, fillable, refl);
    leaves = same;
    store = (input, layout, record { made = made; settled = settled; landed = landed; idle = idle; writes = writes });
  }

-- `halt`

-- what is left of it once its task is known
abbrev pub halt_rest : State → Task → Step (List ℕ)
halt_rest store task = and_then (stands task store) (λ found. finds (λ text. text ≡ halted_text task.plan found))

-- Once it is known where the plan stands

module _ (task : Task) (old mid : State) (k : ℕ) (stood : Stands task old mid k) where
  pub has_found : HasFound task old k
  has_found = record { most = stood.most; found = stood.found }

  pub is_standing : IsStanding task old k
  is_standing = record {
    found = has_found;
    running = λ are told. sym (gate_kept old mid stood.settles are) ∙ stood.at.running (subst IsSome (sym (journal_kept old mid stood.settles are Gate refl)) told);
    ours = λ are. subst (λ (o : Option (List ℕ)). IfSome o (λ kept. kept ≡ task.digest)) (journal_kept old mid stood.settles are Head refl) stood.at.ours;
  }

  -- the settled store is safe
  module _ (contents : Contents) (tells : Tells (IsHaltCell task.input task.plan) old.reads) where
    tells_mid : Tells (IsHaltCell task.input task.plan) mid.reads
    tells_mid = tells_more old mid stood.settles (IsHaltCell task.input task.plan) tells

    by_halting : (n : ℕ) → IsHaltSafe task.input task.plan task.digest contents mid.reads n → IsSafe task.input task.plan task.digest contents mid.reads
    by_halting n (inl after) = subst (IsSafeAt task.input task.plan task.digest contents mid.reads) (sym after.count) after.safe
    by_halting n (inr halted) = absurd (false≢true (sym halted.idle ∙ stood.at.running (tells_mid Gate (inl (inr (inl refl))))))

    safe_mid : MayHalt task contents old → IsSafe task.input task.plan task.digest contents mid.reads
    safe_mid (inl safe) = settled_reads old mid stood.settles (IsSafe task.input task.plan task.digest contents) safe
    safe_mid (inr (n, halting)) = by_halting n (settled_reads old mid stood.settles (λ image. IsHaltSafe task.input task.plan task.digest contents image n) halting)

  -- and then it is closed, in part or whole
  module _ (law : IsState old) (law_mid : IsState mid) (new : State) (law_new : IsState new) (keeps : KeepsHaltSafe task k mid new) (change : ChangesOnly (IsClosingCell task k) mid new) where
    abbrev HaltSafe : Contents → Image → Type 0
    HaltSafe contents image = IsHaltSafe task.input task.plan task.digest contents image k

    abbrev Reach : Cell → Type 0
    Reach cell = IsTargetOf (flights old) cell ⊎ IsClosingCell task k cell

    closing : (contents : Contents) → Tells (IsHaltCell task.input task.plan) old.reads → MayHalt task contents old → LeavesOnly (HaltSafe contents) mid new
    closing contents tells may = keeps contents (tells_mid contents tells) (safe_mid contents tells may)

    settling : Lands old mid
    settling = settles_land old mid stood.settles

    -- what a crash leaves of the settled store
    at_mid : (contents : Contents) → Tells (IsHaltCell task.input task.plan) old.reads → MayHalt task contents old → (image : Image) → mid.may_leave image → HaltSafe contents image
    at_mid contents tells may image left =
        subst (HaltSafe contents) (same_image mid.reads image (stood.settles.settled image left))
        (inl (record {
          armed = stood.at.running (tells_mid contents tells Gate (inl (inr (inl refl))));
          count = count;
          safe = subst (IsSafeAt task.input task.plan task.digest contents mid.reads) count (safe_mid contents tells may);
        }))
      where
        count : count_of (length task.plan) mid.reads ≡ k
        count = stood.at.count (λ cell of. tells_mid contents tells cell (inl of))

    pub in_part : HaltsInPart task old new k
    in_part = record {
      found = has_found;
      safe =
          λ contents tells may. leaves_then (HaltSafe contents) old mid new (quiet_leaves (HaltSafe contents) (IsTargetOf (flights old)) settling.added old mid law settling.change)
          (closing contents tells may);
      again = λ contents tells may image left.
          let run = closing contents tells may in
          now contents tells may image (run.since mid.moment image (omega arith) (law_new.counts_now mid.moment image run.later left));
      change = (
        settling.added,
        settling.part,
        subst (λ (added : List Event). Changes Reach (IsClosingCell task k) added old new) (append-nil settling.added)
            (changes_then Reach (IsClosingCell task k) settling.added [] old mid new
            (changes_wider Reach (IsClosingCell task k) (IsTargetOf (flights old)) NoCell (λ cell of. inl of) (λ cell none. absurd none) settling.added old mid settling.change)
            (changes_wider Reach (IsClosingCell task k) (IsClosingCell task k) (IsClosingCell task k) (λ cell of. inr of) (λ cell of. of) [] mid new change)),
      );
    }
      where
        now : (contents : Contents) → Tells (IsHaltCell task.input task.plan) old.reads → MayHalt task contents old → (image : Image) → mid.left_since mid.moment image ⊎ HaltSafe contents image
            → HaltSafe contents image
        now contents tells may image (inl past) = at_mid contents tells may image (law_mid.only_now image past)
        now contents tells may image (inr safe) = safe

    pub in_whole : EndsHalted task k mid new → IsSettled new → HaltsAll task old new k
    in_whole halts settled = record { part = in_part; halted = λ contents tells may. halts contents (tells_mid contents tells) (safe_mid contents tells may); settled = settled }

-- a change of a folder that begins with the files of another
module _ (R : Files → Files → Type 0) (before from to : FolderState) (same : from.files ≡ before.files) where
  pub changes_before : calls.RelatesFiles from to R → calls.RelatesFiles before to R
  changes_before = subst (λ (o : Option Files). IfSome o (λ files. IsSomeAnd to.files (R files))) same

pub saved_only : (task : Task) (layout : List ℕ) (k : ℕ) (old new : FolderState) → SavesLayout task layout k old new → ChangedOnly layout old new
saved_only task layout k old new saves = if_map old.files (λ files. at new.files files) saves
  where
    at : (o : Option Files) (files : Files) → IsSomeAnd o (IsLayoutSaved task layout k files) → IsSomeAnd o (OthersStay layout files)
    at None files h = h
    at (Some f) files h = h.saves.others

-- The ends

halt_ground : (k : Call) (names : TaskNames) (layout : List ℕ) (task : Task) → AreOfTask k.before.folder names task → ¬ IsUnrefused task k.before.store → IsRefusable k (Halt names layout)
halt_ground k names layout task are not = (task, are, not)

module _ {k : Call} {names : TaskNames} {layout : List ℕ} where
  -- it isn't known where the plan stands
  pub halt_refused : (task : Task) → AreOfTask k.before.folder names task → Untouched k.before.folder k.after.folder → Lands k.before.store k.after.store → (f : MoveFault)
      → IsStandFault (k.refuses × ¬ IsUnrefused task k.before.store) task k.before.store k.after.store f → WorldEnds k (Halt names layout) (fault_outcome task.input f)
  halt_refused task are same lands fault.Store h =
      record { cause = (failed_to k.before.store k.after.store (halt_ground k names layout task are) h, refl); leaves = one_changed k.before.folder k.after.folder layout same; store = inl (lands, same) }
  halt_refused task are same lands fault.NotStarted h =
      let shows = shown_by k task.input fault.NotStarted h.0 (IsStandRefusal task) h.1 in
      record { cause = rest_cause k (task_in names) (halt_rest k.before.store) task are (fault_outcome task.input fault.NotStarted) (inl shows); leaves = same; store = h.0 }
  halt_refused task are same lands (fault.OtherPlan kept ours) h =
      let shows = shown_by k task.input (fault.OtherPlan kept ours) h.0 (IsStandRefusal task) h.1 in
      record { cause = rest_cause k (task_in names) (halt_rest k.before.store) task are (fault_outcome task.input (fault.OtherPlan kept ours)) (inl shows); leaves = same; store = h.0 }
  halt_refused task are same lands _ h = absurd h

  -- the layout isn't saved
  pub halt_unsaved : (loaded : FolderState) → loaded.files ≡ k.before.folder.files → k.before.folder.faults ≤ loaded.faults → Settles k.before.store k.after.store → (e : CommandError)
      → SaveEnds layout loaded k.after.folder e
      → WorldEnds k (Halt names layout) (outcome_of (four_and names.files []) e)
  halt_unsaved loaded same later settles ending.FolderFault h = record {
    cause = (let rose = h.0 in omega (arith, later, rose), tt);
    leaves = changes_before (OthersStay layout) k.before.folder loaded k.after.folder same h.1;
    store = inr settles;
  }
  halt_unsaved loaded same later settles ending.Memory h = record { cause = tt; leaves = h ∙ same; store = inr settles }
  halt_unsaved loaded same later settles _ h = absurd h

  module _ (task : Task) (are : AreOfTask k.before.folder names task) (loaded : FolderState) (same : loaded.files ≡ k.before.folder.files) (found : ℕ)
      (saves : SavesLayout task layout found loaded k.after.folder) where
    -- the store fails while the plan is closed
    pub halt_failed : HaltsInPart task k.before.store k.after.store found → FailedOr (k.refuses × ¬ IsUnrefused task k.before.store) k.before.store k.after.store → (f : MoveFault) → f ≡ fault.Store
        → WorldEnds k (Halt names layout) (fault_outcome task.input f)
    halt_failed part failed f is =
        let saved = changes_before (IsLayoutSaved task layout found) k.before.folder loaded k.after.folder same saves in
        subst (λ (f : MoveFault). WorldEnds k (Halt names layout) (fault_outcome task.input f)) (sym is) (record {
          cause = (failed_to k.before.store k.after.store (halt_ground k names layout task are) failed, refl);
          leaves = saved_only task layout found k.before.folder k.after.folder saved;
          store = inr (task, are, (found, part, saved));
        })

    -- it is closed
    pub halt_done : HaltsAll task k.before.store k.after.store found → IsStanding task k.before.store found → WorldEnds k (Halt names layout) (Done (halted_text task.plan found))
    halt_done all standing =
        let saved = changes_before (IsLayoutSaved task layout found) k.before.folder loaded k.after.folder same saves in
        record {
          cause = rest_cause k (task_in names) (halt_rest k.before.store) task are (Done (halted_text task.plan found)) (found, standing, refl);
          leaves = saved_only task layout found k.before.folder k.after.folder saved;
          store = (task, are, (found, all, saved, refl));
        }

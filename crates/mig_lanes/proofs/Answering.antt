-- What starting and resuming a plan promise, by how it was entered and what it answers.
use Rattle.mig_lanes.proofs.Common.{All-contains, AreFlights, CanTake, Carries, Contains, Contents, Err, Faults, Finishes, Gate, HasHeader}
use Rattle.mig_lanes.proofs.Common.{HasStarted, Head, IfSome, Image, IsFault, IsFirstLost, IsFirstUsed, IsJobCell, IsJournalFault, IsPlanFault}
use Rattle.mig_lanes.proofs.Common.{IsPlanSpot, IsReached, IsReady, IsReadyIdle, IsRefusal, IsResumeFault, IsSome, IsStartFault, IsTask, IsUnused}
use Rattle.mig_lanes.proofs.Common.{KeepsHalting, List, MayBeHalting, MoveFault, None, NotStarted, NotThere, Occupied, Ok, Option, OtherPlan, Resumes}
use Rattle.mig_lanes.proofs.Common.{Settles, SettlesTo, Some, Spot, Started, Starts, State, Store, Task, Tells, ap, arith, armed_told, false}
use Rattle.mig_lanes.proofs.Common.{false≢true, first_byte, flights, gate_kept, get_or, get_or_from_slice_get, inl, inr, is_armed, item_cell}
use Rattle.mig_lanes.proofs.Common.{item_name, journal_kept, no_spot, reached, refl, settled_reads, shifts_of, slice_get-get_or}
use Rattle.mig_lanes.proofs.Common.{slice_get_within, slot_of, subst, sym, tells_more, true, ℕ, ◌∙◌, ◌≡◌, ◌⊎◌}
use Rattle.mig_store.specs.Grounds.{FailedOr}
use Rattle.mig_base.specs.Arrivals.{IsArrived}
use Rattle.mig_mover.specs.Holdings.{IsUnrefused}
use Rattle.mig_mover.proofs.ShiftedSlots.{shifted_named, target_named}
use Rattle.mig_lanes.proofs.RunLaws.{still_reached}

if_some_is : (cell : Option (List ℕ)) (bytes : List ℕ) (P : List ℕ → Type 0) → cell ≡ Some bytes → IfSome cell P → P bytes
if_some_is cell bytes P is holds = subst (λ (o : Option (List ℕ)). IfSome o P) is holds

-- where the cells are told, a ground of their not being so is none
calm_told : {A R T : Type 0} → T → (A → ⊥) → A ⊎ (R × (T → ⊥)) → ⊥
calm_told told calm (inl failed) = calm failed
calm_told told calm (inr why) = why.1 told

start_of_resume : (fault : MoveFault) → IsResumeFault fault → IsStartFault fault
start_of_resume Started kind = absurd kind
start_of_resume NotStarted kind = kind
start_of_resume _ kind = tt

-- where the gate is 1 and the store doesn't fail, the reason is what the journal names
module _ (task : Task) (old new : State) (kept : List ℕ) (at : HasStarted old kept) (Q : Type 0) (calm : FailedOr Q old new → ⊥) where
  not_idle : Settles old new → is_armed new.reads ≡ false → ⊥
  not_idle settles idle = false≢true (sym idle ∙ gate_kept old new settles at.slots ∙ at.armed)

  named : Settles old new → (P : List ℕ → Type 0) → IfSome (new.reads Head) P → P kept
  named settles P = if_some_is (new.reads Head) kept P (journal_kept old new settles at.slots Head refl ∙ at.head)

  plan_fault : (fault : MoveFault) → IsStartFault fault → IsFault Q task old new fault → IsPlanFault task kept fault
  plan_fault Store kind is = calm is
  plan_fault Started kind is = named is.0 (λ bytes. bytes ≡ task.digest) is.1.1
  plan_fault (OtherPlan theirs ours) kind is =
      let same : theirs ≡ kept = named is.0 (λ bytes. theirs ≡ bytes) is.1.1 in
      (same, λ e. is.1.2 (same ∙ e), is.1.3)
  plan_fault NotStarted kind is = kind
  plan_fault _ kind is = not_idle is.0 is.1.0

ours_started : (task : Task) (fault : MoveFault) → IsPlanFault task task.digest fault → fault ≡ Started
ours_started task Started is = refl
ours_started task (OtherPlan theirs ours) is = absurd (is.1 refl)
ours_started task _ is = absurd is

theirs_other : (task : Task) (kept : List ℕ) → (kept ≡ task.digest → ⊥) → (f : MoveFault) → IsPlanFault task kept f → f ≡ OtherPlan kept task.digest
theirs_other task kept theirs Started is = absurd (theirs is)
theirs_other task kept theirs (OtherPlan they ours) is = λ i. OtherPlan (is.0 i) (is.2 i)
theirs_other task kept theirs _ is = absurd is

-- What slots show

both_none : (cell : Option (List ℕ)) (P : List ℕ → Type 0) → IsSome cell → IfSome cell P → IfSome cell (λ slot. P slot → ⊥) → ⊥
both_none None P some has out = false≢true some
both_none (Some slot) P some has out = out has

module _ (task : Task) (is : IsTask task) (image : Image) (tells : Tells (IsJobCell task.input task.plan) image) (ready : IsReady task.input task.plan image) where
  -- an image that is ready shows no item to be lost, and no target to be used
  not_lost : (item : ℕ) → IsFirstLost task.input task.plan image item → ⊥
  not_lost item lost = both_none (image (item_cell task.input item)) (HasHeader (item_name task.input item)) told (ready.there item lost.in_range lost.shifted) lost.lost
    where
      told : IsSome (image (item_cell task.input item))
      told =
          let spot = get_or task.input.spots item no_spot in
          let here = slice_get-get_or task.input.spots item no_spot (omega (arith, lost.in_range, is.valid.spots_len)) in
          tells (item_cell task.input item) (inr (spot, shifted_named task.input task.plan is.runs item spot here lost.shifted, refl))

  not_used : (spot : Spot) → IsFirstUsed task.input task.plan image spot → ⊥
  not_used spot used = both_none (image (slot_of task.input spot)) (λ slot. first_byte slot ≡ 1) told used.used
      (subst (IsUnused task.input image) used.target (All-contains (CanTake task.input image) (shifts_of task.plan) used.shift ready.unused has (λ taken. used.free (subst (Contains task.input.spots) used.target taken))))
    where
      has : Contains (shifts_of task.plan) used.shift
      has = (used.place, slice_get_within (shifts_of task.plan) used.place used.shift used.at, get_or_from_slice_get (shifts_of task.plan) used.place used.shift used.shift used.at)

      told : IsSome (image (slot_of task.input spot))
      told = tells (slot_of task.input spot) (inr (spot, subst (IsPlanSpot task.plan) used.target (target_named task.plan used.shift has), refl))

  -- nor anything else that keeps it from being started
  none_shown : (fault : MoveFault) → IsStartFault fault → IsRefusal task image fault → ⊥
  none_shown Store kind shown = shown
  none_shown NotStarted kind shown = kind
  none_shown (NotThere item) kind shown = not_lost item.0 shown.1
  none_shown (Occupied disk slot) kind shown = not_used (record { disk = disk; slot = slot }) shown.2
  none_shown _ kind shown = false≢true (sym ready.idle ∙ shown.0 (tells Gate (inl (inr (inl refl)))))

module _ (task : Task) (is : IsTask task) (old new : State) (tells : Tells (IsJobCell task.input task.plan) old.reads) where
  settled_none : Settles old new → IsReady task.input task.plan new.reads → (f : MoveFault) → IsStartFault f → IsRefusal task new.reads f → ⊥
  settled_none settles = none_shown task is new.reads (tells_more old new settles (IsJobCell task.input task.plan) tells)

  -- where each image whose gate isn't 1 is ready
  unrefused_of : SettlesTo (IsReadyIdle task) old → (Q : Type 0) (fault : MoveFault) → IsFault Q task old new fault → IsJournalFault fault
  unrefused_of ready Q (NotThere item) is = settled_none is.0 (settled_reads old new is.0 (IsReadyIdle task) ready is.1.0) (NotThere item) tt is.1
  unrefused_of ready Q (Occupied d s) is = settled_none is.0 (settled_reads old new is.0 (IsReadyIdle task) ready is.1.0) (Occupied d s) tt is.1
  unrefused_of ready Q _ is = tt

  -- a store that is ready isn't refused
  no_fault : SettlesTo (IsReady task.input task.plan) old → (Q : Type 0) → (FailedOr Q old new → ⊥)
      → (fault : MoveFault) → IsStartFault fault → IsFault Q task old new fault → ⊥
  no_fault before Q calm Store kind fault = calm fault
  no_fault before Q calm f kind fault = settled_none fault.0 (settled_reads old new fault.0 (IsReady task.input task.plan) before) f kind fault.1

-- The promises

module _ (task : Task) (is : IsTask task) (old new : State) where
  has_started : (c : Contents) → AreFlights (flights old) → IsReached task.input task.plan task.digest c old.reads → HasStarted old task.digest
  has_started c are reached = record { slots = are; armed = reached.arrived.armed; head = reached.arrived.safe.head reached.arrived.armed }

  none : {T : Type 0} (Q : Type 0) (x : T) → ((kept : List ℕ) → HasStarted old kept → (kept ≡ task.digest → ⊥) → ⊥) → Faults Q task old new (Ok x)
  none Q x ours = record { fault = tt; unrefused = λ tells before. tt; other = λ kept at theirs calm. absurd (ours kept at theirs) }

  module _ (Q : Type 0) (fault : MoveFault) (kind : IsStartFault fault) (why : IsFault Q task old new fault) where
    one : {T : Type 0} → Faults {T = T} Q task old new (Err fault)
    one = record {
      fault = why;
      unrefused = λ tells before. unrefused_of task is old new tells before Q fault why;
      other = λ kept at theirs calm. ap Err (theirs_other task kept theirs fault (plan_fault task old new kept at Q calm fault kind why));
    }

    ours : HasStarted old task.digest → (FailedOr Q old new → ⊥) → fault ≡ Started
    ours at calm = ours_started task fault (plan_fault task old new task.digest at Q calm fault kind why)

  module _ (refuses : Type 0) (carries : Carries task old new) where
    module _ (finishes : Finishes task old new 0) (idle : AreFlights (flights old) → IsSome (old.reads Gate) → is_armed old.reads ≡ false) where
      running : (kept : List ℕ) → HasStarted old kept → ⊥
      running kept at = false≢true (sym (idle at.slots (armed_told old.reads at.armed)) ∙ at.armed)

      pub starts : Starts refuses task old new (Ok tt)
      starts = record {
        carries = carries;
        finishes = finishes;
        idle = idle;
        kind = tt;
        faults = none _ tt (λ kept at theirs. running kept at);
        ready = λ tells before calm. refl;
        started = λ at calm. absurd (running task.digest at);
        reached = λ contents are reached calm. absurd (running task.digest (has_started contents are reached));
      }

    pub starts_not : (f : MoveFault) → IsStartFault f → IsFault (refuses × ¬ Tells (IsJobCell task.input task.plan) old.reads) task old new f
        → Starts refuses task old new (Err f)
    starts_not f kind why = record {
      carries = carries;
      finishes = tt;
      idle = tt;
      kind = kind;
      faults = one _ f kind why;
      ready = λ tells before calm. absurd (no_fault task is old new tells before _ (calm_told tells calm) f kind why);
      started = λ at calm. ap Err (ours _ f kind why at calm);
      reached = λ contents are reached calm. ap Err (ours _ f kind why (has_started contents are reached) calm);
    }

    module _ (halting : KeepsHalting task old new) where
      pub resumes : (k : ℕ) → Finishes task old new k
          → (AreFlights (flights old) → IsSome (old.reads Gate) → is_armed old.reads ≡ true → IfSome (old.reads Head) (λ kept. kept ≡ task.digest))
          → ((contents : Contents) (n : ℕ) → Tells (IsJobCell task.input task.plan) old.reads → MayBeHalting task contents old n
          → IsArrived task.input task.plan task.digest contents new.reads) → Resumes refuses task old new (Ok k)
      resumes k finishes named halted = record {
        carries = carries;
        finishes = finishes;
        ours = named;
        kind = tt;
        faults = none _ k (λ kept at theirs. theirs (if_some_is (old.reads Head) kept (λ bytes. bytes ≡ task.digest) at.head
            (named at.slots (armed_told old.reads at.armed) at.armed)));
        ready = λ tells before calm. refl;
        resumed = λ at calm. refl;
        reached = λ contents tells are reached calm. ap Ok (finishes.found.found tells are ∙ reached.arrived.count);
        kept = still_reached task is old new k finishes;
        halting = halting;
        halted = halted;
      }

      module _ (f : MoveFault) (kind : IsResumeFault f) (why : IsFault (refuses × ¬ IsUnrefused task old) task old new f) where
        runs : HasStarted old task.digest → (FailedOr (refuses × ¬ IsUnrefused task old) old new → ⊥) → ⊥
        runs at calm = subst IsResumeFault (ours _ f (start_of_resume f kind) why at calm) kind

        pub resumes_not : Resumes refuses task old new (Err f)
        resumes_not = record {
          carries = carries;
          finishes = tt;
          ours = tt;
          kind = kind;
          faults = one _ f (start_of_resume f kind) why;
          ready = λ tells before calm. absurd (no_fault task is old new tells before _ calm f (start_of_resume f kind) why);
          resumed = λ at calm. absurd (runs at calm);
          reached = λ contents tells are reached calm. absurd (runs (has_started contents are reached) calm);
          kept = tt;
          halting = halting;
          halted = tt;
        }

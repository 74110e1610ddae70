-- What the first sync of a call gives.
use Rattle.mig_mover.proofs.Common.{Adds, All, All-contains, AreFlights, BeginsRun, Cell, Changes, ChangesOnly, Contains-get_or, Contains-permutation}
use Rattle.mig_mover.proofs.Common.{Contents, Ends, Enters, EntersOn, Err, Event, Flight, Gate, Head, Idle, IfErr, IfOk, IfSome, Image, IsCopy}
use Rattle.mig_mover.proofs.Common.{IsFault, IsFaultOn, IsHaltSafe, IsJobCell, IsLanded, IsPermutation, IsPermutation-sym, IsPlanFault, IsReadyIdle}
use Rattle.mig_mover.proofs.Common.{IsRefusal, IsRun, IsRunning, IsSafeAt, IsSettled, IsSome, IsSound, IsState, IsTargetOf, Keeps, KeepsOn, Lands}
use Rattle.mig_mover.proofs.Common.{LeavesOnly, List, Mark, MayBeHalting, MoveFault, NoCell, None, NotStarted, NotThere, Occupied, Ok, Option}
use Rattle.mig_mover.proofs.Common.{OtherPlan, Result, SameBut, Seen, Settles, SettlesTo, Some, Started, State, Store, Task, Tells, [], ap}
use Rattle.mig_mover.proofs.Common.{append-nil, arith, cases_Bool, changes_leave, changes_then, changes_wider, count_idle, count_is, count_of}
use Rattle.mig_mover.proofs.Common.{counted, ended, events_none, false, false≢true, flights, flights_same, from_same, get_or, inl, inr, is_armed}
use Rattle.mig_mover.proofs.Common.{is_marked, is_one, is_running, is_slot, leaves_then, length, map, map-append, no_target, quiet_leaves, refl}
use Rattle.mig_mover.proofs.Common.{same_image, same_wider, settled_change, subst, suc, sym, target_left, target_permuted, then_step, told_kept, true}
use Rattle.mig_mover.proofs.Common.{ℕ, ◌++◌, ◌∙◌, ◌≡◌, ◌≤◌, ◌⊎◌}

module _ (these : List Flight) (old new : State) (ends : Ends these old new) where
  within : (cell : Cell) → IsTargetOf these cell → IsTargetOf (flights old) cell
  within cell any = target_permuted (these ++ flights new) (flights old) cell (IsPermutation-sym _ _ ends.others) (target_left these (flights new) cell any)

  landing : Changes (IsTargetOf (flights old)) NoCell (map ended these) old new
  landing = changes_wider (IsTargetOf (flights old)) NoCell (IsTargetOf these) NoCell within (λ cell out. out) (map ended these) old new ends.change

  pub ends_land : Lands old new
  ends_land = record {
    added = map ended these;
    part = (
      map ended (flights new),
      record {
        order = these ++ flights new;
        rest = [];
        each_once = ends.others;
        is = sym (map-append ended these (flights new)) ∙ sym (append-nil (map ended (these ++ flights new)));
        then_rounds = refl;
      },
    );
    change = landing;
  }

  pub ends_settle : flights new ≡ [] → IsSettled new → Settles old new
  ends_settle none settled =
      let all : IsPermutation (flights old) these = subst (IsPermutation (flights old)) (ap (λ (l : List Flight). these ++ l) none ∙ append-nil these) ends.others in
      record {
        added = map ended these;
        ended = record {
          order = these;
          rest = [];
          each_once = all;
          is = sym (append-nil (map ended these));
          then_rounds = refl;
        };
        change = landing;
        copied = λ k d lt. All-contains (λ (c : Flight). IsCopy (old.reads c.from) (new.reads c.to)) these (get_or (flights old) k d) ends.copied
            (Contains-permutation (flights old) these (get_or (flights old) k d) all (Contains-get_or (flights old) k d lt));
        landed = none;
        settled = settled;
      }

run_begins : (before : List Flight) (added : List Event) → IsRun before [] added → BeginsRun before [] added
run_begins before added is = ([], subst (IsRun before []) (sym (append-nil added)) is)

-- Where no copy is in flight, or images are told

module _ (old mid : State) (settles : Settles old mid) where
  pub settles_landed : IsLanded old mid.reads
  settles_landed = record { others = settles.change.told; copied = settles.copied }

  pub settles_land : Lands old mid
  settles_land = record { added = settles.added; part = run_begins (flights old) settles.added settles.ended; change = settles.change }

  -- what would hold of the settled store holds of it
  pub settled_reads : (P : Image → Type 0) → SettlesTo P old → P mid.reads
  settled_reads P (inl now) = subst P (same_image old.reads mid.reads (same_wider (IsTargetOf (flights old)) NoCell (λ cell any. no_target (flights old) cell now.1 any) old.reads mid.reads settles.change.told)) now.0
  settled_reads P (inr told) =
      let from = settles.change.crash mid.reads (settles.change.images told.1) in
      subst P (same_image from.0 mid.reads from.2) (told.0 from.0 from.1)

  pub tells_more : (P : Cell → Type 0) → Tells P old.reads → Tells P mid.reads
  tells_more P tells cell of = told_kept (IsTargetOf (flights old)) old.reads mid.reads settles.change.told cell (tells cell of)

  -- a cell that is no slot is as it was
  pub journal_kept : AreFlights (flights old) → (cell : Cell) → is_slot cell ≡ false → mid.reads cell ≡ old.reads cell
  journal_kept are cell none = settles.change.told.same cell (λ any.
      let slot : is_slot any.1.to ≡ true = (subst (λ (f : Flight). (is_slot f.from ≡ true) × (is_slot f.to ≡ true)) any.3 (are.slots any.0 any.1 any.2)).1 in
      false≢true (sym none ∙ ap is_slot (sym any.4) ∙ slot))

  pub gate_kept : AreFlights (flights old) → is_armed mid.reads ≡ is_armed old.reads
  gate_kept are = ap is_one (journal_kept are Gate refl)

  pub count_kept : AreFlights (flights old) → (rounds : ℕ) → count_of rounds mid.reads ≡ count_of rounds old.reads
  count_kept are rounds = at (cases_Bool (is_armed old.reads))
    where
      mark : (n : ℕ) → is_marked mid.reads n ≡ is_marked old.reads n
      mark n = ap is_one (journal_kept are (Mark n) refl)

      at : (is_armed old.reads ≡ true) ⊎ (is_armed old.reads ≡ false) → count_of rounds mid.reads ≡ count_of rounds old.reads
      at (inl armed) =
          let was = counted rounds old.reads armed in
          count_is rounds mid.reads (gate_kept are ∙ armed) (count_of rounds old.reads) (record {
            most = was.most;
            each = λ n low high. mark n ∙ was.each n low high;
            next = λ lt. mark (suc (count_of rounds old.reads)) ∙ was.next lt;
          })
      at (inr idle) = count_idle rounds mid.reads (gate_kept are ∙ idle) ∙ sym (count_idle rounds old.reads idle)

  pub settles_quiet : (new : State) → ChangesOnly NoCell mid new → Settles old new
  settles_quiet new quiet = record {
    added = settles.added;
    ended = settles.ended;
    change = subst (λ (l : List Event). Changes (IsTargetOf (flights old)) NoCell l old new) (append-nil settles.added)
        (changes_then (IsTargetOf (flights old)) NoCell settles.added [] old mid new settles.change
        (changes_wider (IsTargetOf (flights old)) NoCell NoCell NoCell (λ cell out. absurd out) (λ cell out. out) [] mid new quiet));
    copied = subst (λ (image : Image). All (λ c. IsCopy (old.reads c.from) (image c.to)) (flights old)) (same_image mid.reads new.reads quiet.told) settles.copied;
    landed = flights_same mid new quiet.events ∙ settles.landed;
    settled = settled_change NoCell [] mid new quiet settles.settled;
  }

  pub ended_added : (P : Cell → Type 0) (new : State) → ChangesOnly P mid new → Adds (IsRun (flights old) []) old new
  ended_added P new change told = (settles.added, settles.ended, change.events ∙ sym (events_none mid.events) ∙ settles.change.events)

-- what ended so far is added
pub landed_added : (old new : State) → Lands old new → Adds (BeginsRun (flights old) []) old new
landed_added old new lands told = (lands.added, lands.part, lands.change.events)

pub run_part : (old new : State) → Adds (IsRun (flights old) []) old new → Adds (BeginsRun (flights old) []) old new
run_part old new adds told = let a = adds told in (a.0, run_begins (flights old) a.0 a.1, a.2)

-- what changed once copies in flight have ended, and then these cells
module _ (P : Cell → Type 0) {old mid : State} (lands : Lands old mid) where
  pub landed_change : Changes (λ cell. IsTargetOf (flights old) cell ⊎ P cell) P lands.added old mid
  landed_change = changes_wider _ _ _ NoCell (λ cell any. inl any) (λ cell out. absurd out) lands.added old mid lands.change

  pub landed_more : {new : State} → ChangesOnly P mid new → Changes (λ cell. IsTargetOf (flights old) cell ⊎ P cell) P lands.added old new
  landed_more {new} change = subst (λ (l : List Event). Changes (λ cell. IsTargetOf (flights old) cell ⊎ P cell) P l old new) (append-nil lands.added)
      (changes_then _ P lands.added [] old mid new landed_change (changes_wider _ _ P P (λ cell of. inr of) (λ cell of. of) [] mid new change))

module _ (old : State) (law : IsState old) (P : Image → Type 0) where
  pub lands_leave : (new : State) → Lands old new → LeavesOnly P old new
  lands_leave new lands = quiet_leaves P (IsTargetOf (flights old)) lands.added old new law lands.change

  pub settles_leave : (mid : State) → Settles old mid → (new : State) → LeavesOnly P mid new → LeavesOnly P old new
  settles_leave mid settles new = leaves_then P old mid new (quiet_leaves P (IsTargetOf (flights old)) settles.added old mid law settles.change)

module _ (task : Task) (old : State) (law : IsState old) where
  pub keeps_lands : (new : State) → Lands old new → old.faults ≤ new.faults → Keeps task old new
  keeps_lands new lands later = record {
    sound = λ asked contents tells sound. lands_leave old law _ new lands;
    ready = λ tells ready. lands_leave old law _ new lands;
    change = (lands.added, landed_change (IsJobCell task.input task.plan) lands);
    later = later;
  }

  module _ (mid : State) (settles : Settles old mid) (later : old.faults ≤ mid.faults) (new : State) where
    pub keeps_from : KeepsOn task mid new → Keeps task old new
    keeps_from keeps = record {
      sound = λ asked contents tells sound. settles_leave old law _ mid settles new
          (keeps.sound asked contents (tells_more old mid settles (IsJobCell task.input task.plan) tells) (settled_reads old mid settles (IsSound asked task.input task.plan task.digest contents) sound));
      ready = λ tells ready. settles_leave old law _ mid settles new
          (keeps.ready (tells_more old mid settles (IsJobCell task.input task.plan) tells) (settled_reads old mid settles (IsReadyIdle task) ready));
      change = let lands = settles_land old mid settles in (lands.added, landed_more (IsJobCell task.input task.plan) lands keeps.change);
      later = omega (arith, later, keeps.later);
    }

    pub enters_from : (k : ℕ) → EntersOn task mid new k → Enters task old new k
    enters_from k enters = record {
      done = λ asked contents tells sound. enters.done asked contents (tells_more old mid settles (IsJobCell task.input task.plan) tells) (settled_reads old mid settles (IsSound asked task.input task.plan task.digest contents) sound);
      landed = enters.landed;
      most = enters.most;
      found = λ tells are. enters.found (tells_more old mid settles (IsJobCell task.input task.plan) tells) ∙ count_kept old mid settles are (length task.plan);
      armed = λ told. enters.armed (told_kept (IsTargetOf (flights old)) old.reads mid.reads settles.change.told Gate told);
      ready = λ are idle told. (
        mid.reads,
        settles_landed old mid settles,
        enters.ready (gate_kept old mid settles are ∙ idle) (told_kept (IsTargetOf (flights old)) old.reads mid.reads settles.change.told Gate told),
      );
    }

    refused : (fault : MoveFault) → ChangesOnly NoCell mid new × IsRefusal task mid.reads fault → Settles old new × IsRefusal task new.reads fault
    refused fault was = (settles_quiet old mid settles new was.0, subst (λ (image : Image). IsRefusal task image fault) (same_image mid.reads new.reads was.0.told) was.1)

    pub fault_from : (R Q : Type 0) → (R → Q) → (fault : MoveFault) → IsFaultOn R task mid new fault → IsFault Q task old new fault
    fault_from R Q f Store (inl rose) = inl (omega (arith, later, rose))
    fault_from R Q f Store (inr why) = inr (f why)
    fault_from R Q f Started was = refused Started was
    fault_from R Q f (OtherPlan kept ours) was = refused (OtherPlan kept ours) was
    fault_from R Q f NotStarted was = refused NotStarted was
    fault_from R Q f (NotThere item) was = refused (NotThere item) was
    fault_from R Q f (Occupied disk slot) was = refused (Occupied disk slot) was

pub if_ok_is : {T E : Type 0} {P : Type 0} (r : Result T E) → P → IfOk r (λ x. P)
if_ok_is (Ok x) p = p
if_ok_is (Err e) p = tt

pub if_ok : {T E : Type 0} {P Q : T → Type 0} (r : Result T E) → ((x : T) → P x → Q x) → IfOk r P → IfOk r Q
if_ok (Ok x) gives p = gives x p
if_ok (Err e) gives p = tt

pub if_ok_both : {T E : Type 0} {P Q R : T → Type 0} (r : Result T E) → ((x : T) → P x → Q x → R x) → IfOk r P → IfOk r Q → IfOk r R
if_ok_both (Ok x) gives p q = gives x p q
if_ok_both (Err e) gives p q = tt

pub if_err : {T E : Type 0} {P Q : E → Type 0} (r : Result T E) → ((e : E) → P e → Q e) → IfErr r P → IfErr r Q
if_err (Ok x) gives p = tt
if_err (Err e) gives p = gives e p

-- Where the gate is 1

pub armed_told : (image : Image) → is_armed image ≡ true → IsSome (image Gate)
armed_told image armed = at (image Gate) armed
  where
    at : (cell : Option (List ℕ)) → is_one cell ≡ true → IsSome cell
    at None one = absurd (false≢true one)
    at (Some bytes) one = refl

-- a look at such a journal sees that a plan is being carried out
pub never_idle : (image : Image) (seen : Seen) → (IsSome (image Gate) → is_running seen ≡ is_armed image) → seen ≡ Idle → is_armed image ≡ true → ⊥
never_idle image seen gate is armed = false≢true (sym (ap is_running is) ∙ gate (armed_told image armed) ∙ armed)

-- where closing the plan early was stopped, what reads give once the store is settled is safe
module _ (task : Task) (contents : Contents) (old mid : State) (settles : Settles old mid) (n : ℕ) (may : MayBeHalting task contents old n) where
  pub halting_armed : is_armed mid.reads ≡ true
  halting_armed = gate_kept old mid settles may.slots ∙ may.armed

  pub halting_sound : IsSound false task.input task.plan task.digest contents mid.reads
  halting_sound = at (settled_reads old mid settles (λ image. IsHaltSafe task.input task.plan task.digest contents image n) may.images)
    where
      at : IsHaltSafe task.input task.plan task.digest contents mid.reads n → IsSound false task.input task.plan task.digest contents mid.reads
      at (inl after) = record { safe = subst (IsSafeAt task.input task.plan task.digest contents mid.reads) (sym after.count) after.safe; clean = λ asked. absurd (false≢true asked) }
      at (inr halted) = absurd (false≢true (sym halted.idle ∙ halting_armed))

-- Refusals

-- what holds of the digest that a look found in the head holds of the head
pub head_is : (image : Image) (kept : List ℕ) → IfSome (image Head) (λ bytes. kept ≡ bytes) → (Q : List ℕ → Type 0) → Q kept → IfSome (image Head) Q
head_is image kept head Q q = at (image Head) head
  where
    at : (cell : Option (List ℕ)) → IfSome cell (λ bytes. kept ≡ bytes) → IfSome cell Q
    at None is = is
    at (Some bytes) is = subst Q is q

-- a store whose journal names a plan is refused by it
module _ (task : Task) (old new : State) (settles : Settles old new) (running : IsRunning new.reads) (kept : List ℕ)
    (head : IfSome (new.reads Head) (λ bytes. kept ≡ bytes)) where
  pub plan_fault : (R : Type 0) (fault : MoveFault) → IsPlanFault task kept fault → IsFault R task old new fault
  plan_fault R Store is = absurd is
  plan_fault R Started is = (settles, (running, head_is new.reads kept head (λ bytes. bytes ≡ task.digest) is))
  plan_fault R (OtherPlan theirs ours) is =
      let named = head_is new.reads kept head (λ bytes. theirs ≡ bytes) is.0 in
      (settles, (running, named, subst (λ (bytes : List ℕ). bytes ≡ task.digest → ⊥) (sym is.0) is.1, is.2))
  plan_fault R NotStarted is = absurd is
  plan_fault R (NotThere item) is = absurd is
  plan_fault R (Occupied disk slot) is = absurd is

-- what a look says of the gate
pub seen_idle : (image : Image) → (IsSome (image Gate) → false ≡ is_armed image) → is_armed image ≡ false
seen_idle image said = at (image Gate) refl
  where
    at : (cell : Option (List ℕ)) → cell ≡ image Gate → is_armed image ≡ false
    at None none = ap is_one (sym none)
    at (Some bytes) some = sym (said (subst IsSome some refl))

-- where no copy is in flight, a sync changes nothing that reads give
pub settled_same : (old mid : State) → flights old ≡ [] → Settles old mid → old.reads ≡ mid.reads
settled_same old mid none settles = same_image old.reads mid.reads (record {
  same = λ cell out. settles.change.told.same cell (λ target. no_target (flights old) cell none target);
  shape = settles.change.told.shape;
})

-- what follows from what a settled store gives, and from the cells that change
pub settled_leave : {P : Cell → Type 0} {Q : Image → Type 0} {old new : State} → IsSettled old → ChangesOnly P old new
    → ((image : Image) → SameBut P old.reads image → Q image) → LeavesOnly Q old new
settled_leave settled change gives =
    changes_leave _ _ _ [] _ _ change (λ before image left same. gives image (from_same _ _ before image (settled before left) same))

-- nothing changed, and then these cells
pub quiet_wider : {P : Cell → Type 0} {old new : State} → ChangesOnly NoCell old new → ChangesOnly P old new
quiet_wider quiet = changes_wider _ _ NoCell NoCell (λ cell out. absurd out) (λ cell out. absurd out) [] _ _ quiet

pub after_quiet : {P : Cell → Type 0} {old mid new : State} → ChangesOnly NoCell old mid → ChangesOnly P mid new → ChangesOnly P old new
after_quiet quiet change = then_step _ _ _ _ _ (λ cell of. of) (quiet_wider quiet) change

-- one of these cells changed besides
pub slot_step : {P : Cell → Type 0} {slot : Cell} {old mid new : State} → ChangesOnly P old mid → ChangesOnly (λ c. c ≡ slot) mid new → P slot
    → ChangesOnly P old new
slot_step {P} first second of = then_step _ _ _ _ _ (λ cell is. subst P (sym is) of) first second

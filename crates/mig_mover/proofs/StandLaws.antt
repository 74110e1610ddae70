-- Where a migration stands: the first sync, and then what looks at a settled store find.
use Rattle.mig_mover.proofs.Common.{AreFlights, ChangesOnly, Err, Gate, Head, IfErr, IfOk, IfSome, Image, IsAt, IsJobCell, IsJournal, IsMark, IsOk, IsOtherFault, IsRefusal, IsRunning, IsSome}
use Rattle.mig_mover.proofs.Common.{IsStandFault, List, MoveFault, NoCell, NotStarted, NotThere, Occupied, Ok, Option, OtherPlan, Result, Settles, Some, Stands, Started, State, Store, Task}
use Rattle.mig_mover.proofs.Common.{Tells, arith, cond-true, count_of, false, false≢true, flights, inl, inr, is_armed, is_marked, length, prefix_len, range_with_len, refl, same_image, subst, sym}
use Rattle.mig_mover.proofs.Common.{true, ℕ, ◌∙◌, ◌≡◌, ◌≤◌}
use Rattle.mig_store.specs.Grounds.{FailedOr}
use Rattle.mig_mover.proofs.Settling.{tells_more, journal_kept, gate_kept, count_kept, settles_quiet, head_is}

module _ (task : Task) (old mid : State) (settles : Settles old mid) (later : old.faults ≤ mid.faults) (running : IsRunning mid.reads)
    (kept : List ℕ) (head : IfSome (mid.reads Head) (λ bytes. kept ≡ bytes)) (new : State) (quiet : ChangesOnly NoCell mid new) where
  reads : mid.reads ≡ new.reads
  reads = same_image mid.reads new.reads quiet.told

  -- so many rounds count where the gate is 1
  counted_at : (k : ℕ) → (Tells (IsMark (length task.plan)) mid.reads → k ≡ prefix_len (is_marked mid.reads) (range_with_len 1 (length task.plan)))
      → Tells (IsJournal (length task.plan)) mid.reads → count_of (length task.plan) mid.reads ≡ k
  counted_at k count tells = cond-true _ _ _ (running (tells Gate (inr (inl refl)))) ∙ sym (count (λ cell mark. tells cell (inr (inr mark))))

  pub stands_at : (k : ℕ) → k ≤ length task.plan → kept ≡ task.digest
      → (Tells (IsMark (length task.plan)) mid.reads → k ≡ prefix_len (is_marked mid.reads) (range_with_len 1 (length task.plan))) → Stands task old new k
  stands_at k most ours count = record {
    settles = settles_quiet old mid settles new quiet;
    most = most;
    at = subst (λ (image : Image). IsAt task image k) reads (record {
      running = running;
      ours = head_is mid.reads kept head (λ bytes. bytes ≡ task.digest) ours;
      count = counted_at k count;
    });
    found = λ tells are. sym (counted_at k count (λ cell of. tells_more old mid settles (IsJobCell task.input task.plan) tells cell (inl of))) ∙ count_kept old mid settles are (length task.plan);
  }

  refused : (fault : MoveFault) → IsRefusal task mid.reads fault → Settles old new × IsRefusal task new.reads fault
  refused fault is = (settles_quiet old mid settles new quiet, subst (λ (image : Image). IsRefusal task image fault) reads is)

  pub stand_fault : (R Q : Type 0) → (R → Q) → (fault : MoveFault) → IsOtherFault R task kept mid new fault → IsStandFault Q task old new fault
  stand_fault R Q f Store (inl rose) = inl (omega (arith, later, rose))
  stand_fault R Q f Store (inr why) = inr (f why)
  stand_fault R Q f Started is = absurd is
  stand_fault R Q f (OtherPlan theirs ours) is = refused (OtherPlan theirs ours) (
    running,
    head_is mid.reads kept head (λ bytes. theirs ≡ bytes) is.0,
    subst (λ (bytes : List ℕ). bytes ≡ task.digest → ⊥) (sym is.0) is.1,
    is.2,
  )
  stand_fault R Q f NotStarted is = absurd is
  stand_fault R Q f (NotThere item) is = absurd is
  stand_fault R Q f (Occupied disk slot) is = absurd is

pub if_ok_all : {T E : Type 0} {A B C P : T → Type 0} (r : Result T E) → ((x : T) → A x → B x → C x → P x) → IfOk r A → IfOk r B → IfOk r C → IfOk r P
if_ok_all (Ok x) gives a b c = gives x a b c
if_ok_all (Err e) gives a b c = tt

-- What is answered where the store doesn't fail

module _ (task : Task) (Q : Type 0) (old new : State) (are : AreFlights (flights old)) (calm : FailedOr Q old new → ⊥) where
  module _ (settles : Settles old new) where
    gate_now : is_armed new.reads ≡ is_armed old.reads
    gate_now = gate_kept old new settles are

    head_now : (P : List ℕ → Type 0) (kept : List ℕ) → old.reads Head ≡ Some kept → IfSome (new.reads Head) P → P kept
    head_now P kept head holds = subst (λ (cell : Option (List ℕ)). IfSome cell P) (journal_kept old new settles are Head refl ∙ head) holds

    -- a gate that isn't 1 stays so
    not_running : IsSome (old.reads Gate) → is_armed old.reads ≡ false → IsRunning new.reads → ⊥
    not_running told idle running = false≢true (sym idle ∙ sym gate_now ∙ running (subst IsSome (sym (journal_kept old new settles are Gate refl)) told))

    not_idle : is_armed old.reads ≡ true → is_armed new.reads ≡ false → ⊥
    not_idle armed idle = false≢true (sym idle ∙ gate_now ∙ armed)

  -- the gate isn't 1
  pub not_started : IsSome (old.reads Gate) → is_armed old.reads ≡ false → (r : Result ℕ MoveFault) → IfOk r (Stands task old new) → IfErr r (IsStandFault Q task old new) → r ≡ Err NotStarted
  not_started told idle (Ok k) ok err = absurd (not_running ok.settles told idle ok.at.running)
  not_started told idle (Err Store) ok err = absurd (calm err)
  not_started told idle (Err Started) ok err = absurd err
  not_started told idle (Err (OtherPlan theirs ours)) ok err = absurd (not_running err.0 told idle err.1.0)
  not_started told idle (Err NotStarted) ok err = refl
  not_started told idle (Err (NotThere item)) ok err = absurd err
  not_started told idle (Err (Occupied disk slot)) ok err = absurd err

  module _ (armed : is_armed old.reads ≡ true) (kept : List ℕ) (head : old.reads Head ≡ Some kept) where
    -- it is 1, and the head has another digest
    pub other_plan : (kept ≡ task.digest → ⊥) → (r : Result ℕ MoveFault) → IfOk r (Stands task old new) → IfErr r (IsStandFault Q task old new) → r ≡ Err (OtherPlan kept task.digest)
    other_plan other (Ok k) ok err = absurd (other (head_now ok.settles (λ bytes. bytes ≡ task.digest) kept head ok.at.ours))
    other_plan other (Err Store) ok err = absurd (calm err)
    other_plan other (Err Started) ok err = absurd err
    other_plan other (Err (OtherPlan theirs ours)) ok err =
        let first : theirs ≡ kept = head_now err.0 (λ bytes. theirs ≡ bytes) kept head err.1.1 in
        let second : ours ≡ task.digest = err.1.3 in
        λ i. Err (OtherPlan (first i) (second i))
    other_plan other (Err NotStarted) ok err = absurd (not_idle err.0 armed err.1)
    other_plan other (Err (NotThere item)) ok err = absurd err
    other_plan other (Err (Occupied disk slot)) ok err = absurd err

    -- it is 1, and the head has the job's
    pub stands_ok : kept ≡ task.digest → (r : Result ℕ MoveFault) → IfErr r (IsStandFault Q task old new) → IsOk r
    stands_ok ours (Ok k) err = refl
    stands_ok ours (Err Store) err = absurd (calm err)
    stands_ok ours (Err Started) err = absurd err
    stands_ok ours (Err (OtherPlan theirs mine)) err = absurd (err.1.2 (head_now err.0 (λ bytes. theirs ≡ bytes) kept head err.1.1 ∙ ours))
    stands_ok ours (Err NotStarted) err = absurd (not_idle err.0 armed err.1)
    stands_ok ours (Err (NotThere item)) err = absurd err
    stands_ok ours (Err (Occupied disk slot)) err = absurd err

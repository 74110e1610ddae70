-- What a look at a settled store says, why no ground to refuse is among its cells, and faults that are handed on.
use Rattle.mig_mover.proofs.Common.{ChangesOnly, Err, Gate, HasHead, Head, IfErr, IfSome, Image, IsKept, IsKeptMarked, IsMark, IsRunning, IsSome}
use Rattle.mig_mover.proofs.Common.{IsTargetOf, IsUnrefused, List, MoveFault, NoCell, None, Ok, Option, Result, Rose, Seen, Settles, Some, State}
use Rattle.mig_mover.proofs.Common.{Store, Task, Tells, [], ap, cond-true, count_of, counted, failed_ground, failed_ground_after, false≢true, flights}
use Rattle.mig_mover.proofs.Common.{inl, inr, is_armed, is_marked, is_running, length, look_quiet, prefix_len, quiet_same, range_with_len, refl}
use Rattle.mig_mover.proofs.Common.{remembers_then, remembers_wider, rose_from, still_none, subst, sym, then_quiet, then_step, told_kept, true, ℕ}
use Rattle.mig_mover.proofs.Common.{◌∙◌, ◌≡◌, ◌≤◌, ◌⊎◌}
use Rattle.std.specs.Prelude.{IsErrAnd}
use Rattle.mig_journal.specs.declared.looking.Seen.TheVariants.{Running}
use Rattle.mig_mover.proofs.SeenSlots.{ground_after, ground_to, rose_after}
use Rattle.mig_mover.proofs.Settling.{after_quiet, gate_kept, head_is, journal_kept, quiet_wider, settled_same}

-- a fault of the store
pub store_fault : {T : Type 0} (P : MoveFault → Type 0) (r : Result T MoveFault) → IsErrAnd r (λ e. e ≡ Store) → P Store → IfErr r P
store_fault P (Ok x) is holds = absurd is
store_fault P (Err e) is holds = subst P (sym is) holds

-- what is so after two calls of a store
pub ruleset two_calls = (then_quiet, then_step, after_quiet, quiet_wider, look_quiet, still_none, quiet_same, remembers_then, remembers_wider)

-- and where one of them fails
pub ruleset failed_calls = (failed_ground, failed_ground_after, ground_after, ground_to, rose_after, store_fault)

-- a ground that an earlier image shows too
pub ground_back : {R G H : Type 0} → (H → G) → R × (G → ⊥) → R × (H → ⊥)
ground_back back why = (why.0, λ is. why.1 (back is))

-- the same where the journal names the plan
pub ground_ours : {R K G H : Type 0} → (K → H → G) → R × K × (G → ⊥) → R × (H → ⊥)
ground_ours back why = (why.0, λ is. why.2 (back why.1 is))

-- a store refused what the plan asks that the journal names
pub rose_ours : {a b c : ℕ} {R K G H : Type 0} → a ≤ b → K → (G → H) → Rose b c ⊎ (R × G) → Rose a c ⊎ (R × K × H)
rose_ours later ours f (inl rose) = inl (rose_from later rose)
rose_ours later ours f (inr why) = inr (why.0, ours, f why.1)

-- the cells show none after the rounds that were counted
pub kept_marked : (task : Task) (old new : State) (k rounds : ℕ) → rounds ≡ length task.plan → ChangesOnly NoCell old new
    → (Tells (IsMark rounds) old.reads → k ≡ prefix_len (is_marked old.reads) (range_with_len 1 rounds)) → IsKeptMarked task old.reads
    → IsKept task new.reads k
kept_marked task old new k rounds is quiet count kept =
    let counted = subst (λ (n : ℕ). Tells (IsMark n) old.reads → k ≡ prefix_len (is_marked old.reads) (range_with_len 1 n)) is count in
    subst (λ (image : Image). IsKept task image k) (quiet_same old new quiet) (subst (IsKept task old.reads) (sym (counted kept.told)) kept.kept)

-- where the gate is 1 and the head is the task's
kept_running : (task : Task) (old mid : State) → Settles old mid → IsRunning mid.reads → IfSome (mid.reads Head) (λ bytes. bytes ≡ task.digest)
    → IsUnrefused task old
    → IsKeptMarked task mid.reads
kept_running task old mid settles armed head is = record {
  told = subst (Tells (IsMark (length task.plan))) same (λ cell mark. is.told cell (inl (inr (inr mark))));
  kept = subst (IsKept task mid.reads) some (subst (λ (image : Image). IsKept task image (count_of (length task.plan) image)) same kept.1);
}
  where
    told_gate : IsSome (mid.reads Gate)
    told_gate = told_kept (IsTargetOf (flights old)) old.reads mid.reads settles.change.told Gate (is.told Gate (inl (inr (inl refl))))

    was_armed : is_armed old.reads ≡ true
    was_armed = sym (gate_kept old mid settles is.slots) ∙ armed told_gate

    was_ours : old.reads Head ≡ Some task.digest
    was_ours = by (old.reads Head) refl (is.told Head (inl (inl refl))) (subst (λ (o : Option (List ℕ)). IfSome o (λ bytes. bytes ≡ task.digest))
        (journal_kept old mid settles is.slots Head refl) head)
      where
        by : (o : Option (List ℕ)) → old.reads Head ≡ o → IsSome o → IfSome o (λ bytes. bytes ≡ task.digest) → old.reads Head ≡ Some task.digest
        by None at told ours = absurd (false≢true told)
        by (Some bytes) at told ours = at ∙ ap Some ours

    kept : (flights old ≡ []) × IsKept task old.reads (count_of (length task.plan) old.reads)
    kept = is.kept was_armed was_ours

    same : old.reads ≡ mid.reads
    same = settled_same old mid kept.0 settles

    some : count_of (length task.plan) mid.reads ≡ prefix_len (is_marked mid.reads) (range_with_len 1 (length task.plan))
    some = cond-true _ _ _ (armed told_gate)

-- a look saw that the plan with this digest is being carried out
pub saw_plan : (seen : Seen) (kept : List ℕ) → seen ≡ Running kept → (task : Task) (old mid : State) → Settles old mid
    → (IsSome (mid.reads Gate) → is_running seen ≡ is_armed mid.reads) → HasHead seen (mid.reads Head)
    → IsRunning mid.reads × IfSome (mid.reads Head) (λ bytes. kept ≡ bytes) × (kept ≡ task.digest → IsUnrefused task old
    → IsKeptMarked task mid.reads)
saw_plan seen kept is task old mid settles gate head =
    let running : IsRunning mid.reads = λ told. sym (gate told) ∙ ap is_running is in
    let named = subst (λ (s : Seen). HasHead s (mid.reads Head)) is head in
    (running, named, λ ours. kept_running task old mid settles running (head_is mid.reads kept named (λ bytes. bytes ≡ task.digest) ours))

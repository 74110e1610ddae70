-- How what is noted of files stays true.
use Rattle.mig_files.proofs.Common.{Bool, CallError, Cell, Contains, Disk, Err, FilesState, Gate, HasCallCause, Head, IsCallCause, IsFalse}
use Rattle.mig_files.proofs.Common.{IsFilesState, IsNoted, IsQuiet, IsSettledAt, IsStep, IsTracked, IsTrue, IsWriteStep, Journal, KeepsClaim}
use Rattle.mig_files.proofs.Common.{KeepsFlags, KeepsFlushed, Leaves, List, Mark, Notes, Place, SameNotes, Slot, StaysAlive, StaysSame, Sync}
use Rattle.mig_files.proofs.Common.{TouchesFile, WritesAlive, ap, arith, cases_Bool, cell_len, false, false≢true, file_of, inl, inr, offset_of, refl}
use Rattle.mig_files.proofs.Common.{subst, sym, true, ℕ, ◌∙◌, ◌≡◌}
use Rattle.mig_files.proofs.Derivation.{write_at_cell}
use Rattle.mig_calls.proofs.FilesSteps.{change_then, look_change}
use Rattle.mig_files.proofs.FilesSteps.{no_change}

-- a file that was synced doesn't undo what was
pub flushed_kept : {place : Place} {a b : FilesState} → Leaves (Sync place) a b → IsTrue (b.flushed place) → KeepsFlushed a b
flushed_kept {place} {a} {b} leaves is other was = elim (cases_Bool (b.flushed other)) [
  | inl is_on ↦ is_on
  | inr is_off ↦ leaves.flushed other (λ e. false≢true (sym is_off ∙ ap b.flushed e ∙ is)) was
]

pub step_none : {t : Notes} {s : FilesState} → IsTracked t s → IsStep t s s
step_none is = record { tracked = is; change = no_change; later = omega arith; more = omega arith }

pub step_then : {t u : Notes} {a b c : FilesState} → IsStep t a b → IsStep u b c → IsStep u a c
step_then first then = record {
  tracked = then.tracked;
  change = change_then first.change then.change;
  later = omega (arith, first.later, then.later);
  more = omega (arith, first.more, then.more);
}

pub alive_none : {t : Notes} {s : FilesState} → IsFalse t.lost → StaysAlive t s s
alive_none alive = record { alive = alive; flushed = λ place is. is; claimed = λ is. is }

pub alive_then : {t u : Notes} {a b c : FilesState} → StaysAlive t a b → StaysAlive u b c → StaysAlive u a c
alive_then first then = record {
  alive = then.alive;
  flushed = λ place is. then.flushed place (first.flushed place is);
  claimed = λ is. then.claimed (first.claimed is);
}

pub alive_same : {t : Notes} {a b : FilesState} → StaysSame a b → IsFalse t.lost → StaysAlive t a b
alive_same same alive = record {
  alive = alive;
  flushed = λ place is. ap (λ (f : Place → Bool). f place) same.flushed ∙ is;
  claimed = λ is. same.claimed ∙ is;
}

-- where flags are kept nothing is lost
pub alive_kept : {t : Notes} {a b : FilesState} → KeepsFlags a b → IsFalse t.lost → StaysAlive t a b
alive_kept flags alive = alive_same (record { flushed = flags.flushed; claimed = flags.rights.claimed }) alive

-- what an error says of the counts
pub cause_of : {T : Type 0} {a b : FilesState} {error what : CallError} → error ≡ what → HasCallCause {T = T} a b (Err error) → IsCallCause a b what
cause_of {T} {a} {b} is has = subst (IsCallCause a b) is has.cause

-- a quiet call leaves true what is noted
pub quiet_step : {t : Notes} {a b : FilesState} → IsTracked t a → IsQuiet a b → IsStep t a b
quiet_step {t} {a} {b} is quiet = record {
  tracked = record {
    lost = λ on. omega (arith, is.lost on, quiet.later);
    claimed = λ off on. quiet.flags.rights.claimed ∙ is.claimed off on;
    named = λ off. quiet.flags.named ∙ is.named off;
    disks = λ disk out. ap (λ (f : Place → Bool). f (Disk disk)) quiet.flags.flushed ∙ is.disks disk out;
    journal = λ off. ap (λ (f : Place → Bool). f Journal) quiet.flags.flushed ∙ is.journal off;
  };
  change = quiet.change;
  later = quiet.later;
  more = quiet.more;
}

-- a file was synced, and is noted as such
pub place_synced : (place : Place) {t u : Notes} {a b : FilesState} → IsTracked t a → IsFalse t.lost → SameNotes t u → Leaves (Sync place) a b → KeepsClaim a b
    → IsTrue (b.flushed place)
    → ((p : List ℕ) → ¬ (Disk p ≡ place) → Contains t.dirty p → Contains u.dirty p) → (¬ (Journal ≡ place) → IsFalse u.unsynced → IsFalse t.unsynced) → IsTracked u b
place_synced place {t} {u} {a} {b} is alive same leaves keeps done disks journal = record {
  lost = λ on. absurd (false≢true (sym alive ∙ sym same.lost ∙ on));
  claimed = λ off on. keeps (is.claimed alive (sym same.claimed ∙ on));
  named = λ off. leaves.named refl ∙ is.named (sym same.made ∙ off);
  disks = λ disk out. elim (cases_Bool (b.flushed (Disk disk))) [
    | inl on ↦ on
    | inr off ↦
        let apart : ¬ (Disk disk ≡ place) = λ e. false≢true (sym off ∙ ap b.flushed e ∙ done) in
        leaves.flushed (Disk disk) apart (is.disks disk (λ has. out (disks disk apart has)))
  ];
  journal = λ off. elim (cases_Bool (b.flushed Journal)) [
    | inl on ↦ on
    | inr not ↦
        let apart : ¬ (Journal ≡ place) = λ e. false≢true (sym not ∙ ap b.flushed e ∙ done) in
        leaves.flushed Journal apart (is.journal (journal apart off))
  ];
}

-- more is noted
pub tracked_more : {t u : Notes} {s : FilesState} → SameNotes t u → (IsFalse u.unsynced → IsFalse t.unsynced) → ((p : List ℕ) → Contains t.dirty p → Contains u.dirty p)
    → IsTracked t s → IsTracked u s
tracked_more same journal dirty is = record {
  lost = λ on. is.lost (sym same.lost ∙ on);
  claimed = λ off on. is.claimed (sym same.lost ∙ off) (sym same.claimed ∙ on);
  named = λ off. is.named (sym same.made ∙ off);
  disks = λ disk out. is.disks disk (λ has. out (dirty disk has));
  journal = λ off. is.journal (journal off);
}

-- a file was written that is noted
pub place_written : (place : Place) {t u : Notes} {a b : FilesState} → IsTracked t a → IsFalse t.lost → IsNoted t place → u.dirty ≡ t.dirty → u.unsynced ≡ t.unsynced
    → u.claimed ≡ t.claimed → u.lost ≡ t.lost
    → (IsFalse u.made → IsTrue b.named) → TouchesFile place a b → b.claimed ≡ a.claimed → IsTracked u b
place_written place {t} {u} {a} {b} is alive noted dirty unsynced claimed lost named touch same = record {
  lost = λ on. absurd (false≢true (sym alive ∙ sym lost ∙ on));
  claimed = λ off on. same ∙ is.claimed alive (sym claimed ∙ on);
  named = named;
  disks = λ disk out.
      let not : ¬ Contains t.dirty disk = λ has. out (subst (λ (l : List (List ℕ)). Contains l disk) (sym dirty) has) in
      touch.others (Disk disk) (λ e. not (subst (IsNoted t) (sym e) noted)) ∙ is.disks disk not;
  journal = λ off.
      let not : IsFalse t.unsynced = sym unsynced ∙ off in
      touch.others Journal (λ e. false≢true (sym not ∙ subst (IsNoted t) (sym e) noted)) ∙ is.journal not;
}

-- what was only looked at is no write
pub step_is_write : {t : Notes} {file : Place} {at n : ℕ} {a b : FilesState} → IsStep t a b → IsWriteStep t file at n a b
step_is_write step = record { tracked = step.tracked; change = look_change step.change; later = step.later; more = step.more }

pub write_step_then : {t u : Notes} {file : Place} {at n : ℕ} {a b c : FilesState} → IsWriteStep t file at n a b → IsWriteStep u file at n b c → IsWriteStep u file at n a c
write_step_then first then = record {
  tracked = then.tracked;
  change = change_then first.change then.change;
  later = omega (arith, first.later, then.later);
  more = omega (arith, first.more, then.more);
}

pub writes_none : {t : Notes} {s : FilesState} → IsFalse t.lost → WritesAlive t s s
writes_none alive = record { alive = alive; claimed = λ is. is }

pub writes_then : {t u : Notes} {a b c : FilesState} → WritesAlive t a b → WritesAlive u b c → WritesAlive u a c
writes_then first then = record {
  alive = then.alive;
  claimed = λ is. then.claimed (first.claimed is);
}

pub alive_is_write : {t : Notes} {a b : FilesState} → StaysAlive t a b → WritesAlive t a b
alive_is_write is = record { alive = is.alive; claimed = is.claimed }

pub unsynced_back : (a b : Bool) → (IsTrue a → IsTrue b) → IsFalse b → IsFalse a
unsynced_back true b is off = absurd (false≢true (sym off ∙ is refl))
unsynced_back false b is off = refl

-- a write of a cell behind what was only looked at
pub step_at_cell : {t u : Notes} (cell : Cell) {file : Place} {at n : ℕ} {a b c : FilesState} → file ≡ file_of cell → at ≡ offset_of cell → n ≡ cell_len cell → IsStep t a b
    → IsWriteStep u file at n b c
    → IsWriteStep u (file_of cell) (offset_of cell) (cell_len cell) a c
step_at_cell {t} {u} cell {file} {at} {n} {a} {b} {c} is_file is_at is_n step write = record {
  tracked = write.tracked;
  change = write_at_cell cell is_file is_at is_n step.change write.change;
  later = omega (arith, step.later, write.later);
  more = omega (arith, step.more, write.more);
}

-- after a sync that didn't fail
pub synced_alive : {place : Place} {t : Notes} {a b : FilesState} → IsFalse t.lost → Leaves (Sync place) a b → KeepsClaim a b → IsTrue (b.flushed place) → StaysAlive t a b
synced_alive alive leaves keeps done = record {
  alive = alive;
  flushed = flushed_kept leaves done;
  claimed = keeps;
}

-- all files of cells are settled
pub settled_cell : {s : FilesState} → IsFilesState s → IsTrue s.claimed → IsTrue s.named → ((disk : List ℕ) → IsTrue (s.flushed (Disk disk))) → IsTrue (s.flushed Journal)
    → (cell : Cell) → IsSettledAt s (file_of cell)
settled_cell law claimed named disks journal (Slot d t) = law.settled (law.sure claimed) named (Disk d) (disks d)
settled_cell law claimed named disks journal Head = law.settled (law.sure claimed) named Journal journal
settled_cell law claimed named disks journal Gate = law.settled (law.sure claimed) named Journal journal
settled_cell law claimed named disks journal (Mark n) = law.settled (law.sure claimed) named Journal journal

-- how steps that only look follow one another
pub ruleset steps = (step_none, step_then, quiet_step, alive_none, alive_then, alive_same, alive_kept)

-- how steps follow one another where some write
pub ruleset write_steps = (step_none, step_then, step_is_write, write_step_then, writes_none, writes_then, alive_is_write)

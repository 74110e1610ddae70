-- Reading the three files without asking for room.
use Rattle.mig_csv.proofs.Common.{AcceptedTight, Disk, DiskId, DisksFault, Fault, FaultButRoom, FileKind, InputError, InputLists, IsInputError}
use Rattle.mig_csv.proofs.Common.{IsRefusalOf, IsTightRefusal, List, NextFault, ThreeFiles, NowFault, Option, RefusedAs, RefusedTightAs}
use Rattle.mig_csv.proofs.Common.{RefusesMissing, Why, arith, clean_of, is_fault, refl, stage_of, ℕ, ⊤, ◌<◌}
use Rattle.mig_base.specs.declared.faults.FileKind.TheVariants as file
use Rattle.mig_base.specs.declared.faults.Why.TheVariants as why
use Rattle.mig_csv.specs.declared.errors.InputError.TheVariants as error
use Rattle.mig_csv.proofs.Whole.{AreRead}

-- files that are read so are read up to room, and the other way round
pub read_of : (fs : ThreeFiles) (i : InputLists) → AcceptedTight fs i → AreRead fs i
read_of fs i a = record {
  disks = clean_of fs i a file.Disks;
  now = clean_of fs i a file.Now;
  next = clean_of fs i a file.Next;
  missing = λ n h. a.sound file.Now n why.NotInNext (refl, h);
  listed = a.listed;
}

pub accepted_tight : (fs : ThreeFiles) (i : InputLists) → AreRead fs i → AcceptedTight fs i
accepted_tight fs i r = record { sound = sound; listed = r.listed }
  where
    sound : (f : FileKind) (n : ℕ) (w : Why) → ¬ (FaultButRoom fs f n w)
    sound f n (why.NoRoom a b c) h = h
    sound f n why.NotInNext h = r.missing n h.1
    sound file.Disks n w h = r.disks n w h
    sound file.Now n w h = r.now n w h
    sound file.Next n w h = r.next n w h

-- What is refused for another cause than room is refused without room, and the other way round

abbrev pub IsOtherCause : Why → Type 0
IsOtherCause (why.NoRoom name needs slots) = ⊥
IsOtherCause w = ⊤

but_room : (fs : ThreeFiles) (f : FileKind) (n : ℕ) (w : Why) → IsOtherCause w → Fault fs f n w → FaultButRoom fs f n w
but_room fs f n (why.NoRoom a b c) other h = absurd other
but_room fs f n w other h = h

pub other_cause : (fs : ThreeFiles) (f : FileKind) (n : ℕ) (w : Why) → FaultButRoom fs f n w → IsOtherCause w
other_cause fs f n (why.NoRoom a b c) h = absurd h
other_cause fs f n w h = tt

pub refused_tight : (fs : ThreeFiles) (f : FileKind) (n : ℕ) (w : Why) → IsOtherCause w → RefusedAs fs f n w → RefusedTightAs fs f n w
refused_tight fs f n w other h = record { fault = but_room fs f n w other h.fault; first = λ g m v before x. h.first g m v before (is_fault fs g m v x) }

-- a disk that lacks room comes last
before_room : (fs : ThreeFiles) (f : FileKind) (n : ℕ) (w : Why) → FaultButRoom fs f n w → stage_of f w < 4
before_room fs f n (why.NoRoom a b c) h = absurd h
before_room fs f n why.NotInNext h = omega arith
before_room fs file.Disks n w h = omega arith
before_room fs file.Now n w h = omega arith
before_room fs file.Next n w h = omega arith

pub refused_with_room : (fs : ThreeFiles) (f : FileKind) (n : ℕ) (w : Why) → RefusedTightAs fs f n w → RefusedAs fs f n w
refused_with_room fs f n w h = grind (arith, is_fault, before_room)

-- The same of refusals

abbrev pub IsOther : InputError → Type 0
IsOther (error.Refused f n w) = IsOtherCause w
IsOther error.Memory = ⊤

pub tight_refusal : (fs : ThreeFiles) (e : InputError) → IsOther e → IsInputError fs e → IsTightRefusal fs e
tight_refusal fs error.Memory other h = tt
tight_refusal fs (error.Refused f n w) other h = refused_tight fs f n w other h

pub refusal_of_tight : (fs : ThreeFiles) (e : InputError) → IsTightRefusal fs e → IsInputError fs e
refusal_of_tight fs error.Memory h = tt
refusal_of_tight fs (error.Refused f n w) h = refused_with_room fs f n w h

pub disks_other : (bytes : List ℕ) (e : InputError) → IsRefusalOf file.Disks (DisksFault bytes) e → IsOther e
disks_other bytes (error.Refused f n (why.NoRoom a b c)) h = h.1.holds.holds
disks_other bytes (error.Refused f n w) h = tt
disks_other bytes error.Memory h = tt

pub now_other : (disks : List Disk) (bytes : List ℕ) (e : InputError) → IsRefusalOf file.Now (NowFault disks bytes) e → IsOther e
now_other disks bytes (error.Refused f n (why.NoRoom a b c)) h = h.1.holds.holds
now_other disks bytes (error.Refused f n w) h = tt
now_other disks bytes error.Memory h = tt

pub next_other : (disks : List Disk) (items : List (List ℕ)) (bytes : List ℕ) (e : InputError) → IsRefusalOf file.Next (NextFault disks items bytes) e → IsOther e
next_other disks items bytes (error.Refused f n (why.NoRoom a b c)) h = h.1.holds.holds
next_other disks items bytes (error.Refused f n w) h = tt
next_other disks items bytes error.Memory h = tt

pub missing_other : (next : List (Option DiskId)) (e : InputError) → RefusesMissing next e → IsOther e
missing_other next (error.Refused f n why.NotInNext) h = tt
missing_other next (error.Refused f n w) h = absurd h
missing_other next error.Memory h = tt

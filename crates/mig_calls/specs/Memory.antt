-- Files in memory, as the steps that were made on them tell.
use Rattle.std.specs.Prelude.{◌≡◌, ◌⊎◌, ◌≤◌, ◌&&◌, Bool, true, false, ℕ, List, [], ◌∷◌, IsTrue, IsFalse, length, take, fold, map, refl}
use Rattle.std.proofs.Common.{inl, inr, sym, ◌∙◌, ap, subst, arith}
use Rattle.std.proofs.lemmas.Bool.{cases_Bool, cond-true, cond-false, and_parts, false≢true}
use Rattle.std.proofs.lemmas.List.{take_all}
use Rattle.mig_calls.specs.declared.places.Place.{Place}
use Rattle.mig_calls.specs.declared.file_bytes.Byte.{Byte}
use Rattle.mig_calls.specs.declared.mem_file.Change.{Change}
use Rattle.mig_calls.specs.declared.mem_file.Change.TheVariants.{Made, Wrote, Synced}
use Rattle.mig_calls.specs.declared.mem_disk.FilesStep.{FilesStep}
use Rattle.mig_calls.specs.declared.mem_disk.FilesStep.TheVariants.{Changed, Named, Crashed}
use Rattle.mig_calls.specs.Files.{FilesState, IsFilesState, PlaceBytes}
use Rattle.mig_calls.specs.Places.{is_place}
use Rattle.mig_calls.specs.MemFiles.{FileMoment, SeenFile, no_file, place_of, look, change_file, changed, with_name, crashed}

-- the files at one moment
pub record FilesMoment : Type 0 where
  pub files : Place → FileMoment
  -- the device has the names of all files
  pub named : Bool

-- whether the change leaves the names that the device has
abbrev pub keeps_name : Change → Bool
keeps_name Made = false
keeps_name change = true

-- after one step more
abbrev pub after_step : FilesMoment → FilesStep → FilesMoment
after_step m (Changed place change) = record { files = change_file place (changed change) m.files; named = keeps_name change && m.named }
after_step m Named = record { files = λ place. with_name (m.files place); named = true }
after_step m (Crashed pick) = record { files = λ place. crashed pick (m.files place); named = true }

-- no files
abbrev pub blank_files : FilesMoment
blank_files = record { files = λ place. no_file; named = true }

abbrev pub files_after : List FilesStep → FilesMoment
files_after steps = fold after_step blank_files steps

-- what reads give
abbrev pub reads_of : FilesMoment → PlaceBytes
reads_of m place i = ((m.files place).now i).shown

-- these are the file's bytes, but where they aren't settled
abbrev pub FitsFile : (ℕ → Byte) → (ℕ → ℕ) → Type 0
FitsFile file bytes = (i : ℕ) → IsFalse (file i).loose → bytes i ≡ (file i).shown

-- they are those of one of these files
abbrev pub FitsOne : List (ℕ → Byte) → (ℕ → ℕ) → Type 0
FitsOne [] bytes = ⊥
FitsOne (file ∷ files) bytes = FitsFile file bytes ⊎ FitsOne files bytes

-- what a crash may leave under a name: the file that has it, or one that the device may have there
abbrev pub MayHold : FileMoment → (ℕ → ℕ) → Type 0
MayHold f bytes = FitsOne (f.now ∷ f.olds) bytes

abbrev pub MayLeaveFiles : FilesMoment → PlaceBytes → Type 0
MayLeaveFiles m files = (place : Place) → MayHold (m.files place) (files place)

abbrev pub FilesLeftSince : List FilesStep → ℕ → PlaceBytes → Type 0
FilesLeftSince steps t files = (k : ℕ) × (t ≤ k) × (k ≤ length steps) × MayLeaveFiles (files_after (take k steps)) files

-- the lists that a program keeps show what the steps made
pub record IsDisk (steps : List FilesStep) (table : List Place) (seen : List SeenFile) : Type 0 where
  pub places : table ≡ map place_of seen
  pub shown : (place : Place) → look seen place ≡ (files_after steps).files place

-- Files in memory, as contracts see them.
pub record FileMemory : Type 0 where
  pub steps : List FilesStep
  -- how often a call has failed, or the store gave up
  pub faults : ℕ
  -- how often the store refused for what it found
  pub refused : ℕ
  -- how often a call was not made, and might be made again
  pub unmade : ℕ
  -- this process has claimed the right to write
  pub claimed : Bool
  -- no sync has failed since the files were mounted
  pub usable : Bool

-- what they tell
abbrev pub files_state : FileMemory → FilesState
files_state m = record {
  told = λ place. true;
  reads = reads_of (files_after m.steps);
  may_leave = MayLeaveFiles (files_after m.steps);
  moment = length m.steps;
  left_since = FilesLeftSince m.steps;
  faults = m.faults;
  refused = m.refused;
  unmade = m.unmade;
  claimed = m.claimed && m.usable;
  named = (files_after m.steps).named;
  flushed = λ place. ((files_after m.steps).files place).flushed;
  usable = m.usable;
}

-- What every moment keeps

-- all bytes of a file that was synced are settled
abbrev pub IsSyncedSettled : FileMoment → Type 0
IsSyncedSettled f = IsTrue f.flushed → (i : ℕ) → IsFalse (f.now i).loose

pub record IsFilesMoment (m : FilesMoment) : Type 0 where
  -- once the device has the names it has no other files under them
  pub olds : IsTrue m.named → (place : Place) → (m.files place).olds ≡ []
  pub sound : (place : Place) → IsSyncedSettled (m.files place)

change_sound : (change : Change) (f : FileMoment) → IsSyncedSettled f → IsSyncedSettled (changed change f)
change_sound Made f is = is
change_sound (Wrote at values) f is = λ flushed. absurd (false≢true flushed)
change_sound Synced f is = λ flushed i. refl

change_olds : (change : Change) (f : FileMoment) → IsTrue (keeps_name change) → (changed change f).olds ≡ f.olds
change_olds Made f keeps = absurd (false≢true keeps)
change_olds (Wrote at values) f keeps = refl
change_olds Synced f keeps = refl

step_kept : (m : FilesMoment) (step : FilesStep) → IsFilesMoment m → IsFilesMoment (after_step m step)
step_kept m (Changed place change) is = record {
  olds = λ named other.
      let parts = and_parts (keeps_name change) m.named named in
      elim (cases_Bool (is_place place other)) [
        | inl same ↦ ap (λ (f : FileMoment). f.olds) (cond-true _ _ _ same) ∙ change_olds change (m.files other) parts.0 ∙ is.olds parts.1 other
        | inr not ↦ ap (λ (f : FileMoment). f.olds) (cond-false _ _ _ not) ∙ is.olds parts.1 other
      ];
  sound = λ other. elim (cases_Bool (is_place place other)) [
    | inl same ↦ subst IsSyncedSettled (sym (cond-true _ _ _ same)) (change_sound change (m.files other) (is.sound other))
    | inr not ↦ subst IsSyncedSettled (sym (cond-false _ _ _ not)) (is.sound other)
  ];
}
step_kept m Named is = record { olds = λ named place. refl; sound = λ place. is.sound place }
step_kept m (Crashed pick) is = record { olds = λ named place. refl; sound = λ place flushed i. refl }

steps_kept : (m : FilesMoment) (steps : List FilesStep) → IsFilesMoment m → IsFilesMoment (fold after_step m steps)
steps_kept m [] is = is
steps_kept m (step ∷ steps) is = steps_kept (after_step m step) steps (step_kept m step is)

pub is_moment : (steps : List FilesStep) → IsFilesMoment (files_after steps)
is_moment steps = steps_kept blank_files steps (record { olds = λ named place. refl; sound = λ place flushed i. refl })

-- where the device has no other file under the name
only_now_fits : (now : ℕ → Byte) (olds : List (ℕ → Byte)) (bytes : ℕ → ℕ) → olds ≡ [] → FitsOne (now ∷ olds) bytes → FitsFile now bytes
only_now_fits now olds bytes none fits = elim (subst (λ (l : List (ℕ → Byte)). FitsOne (now ∷ l) bytes) none fits) [
  | inl here ↦ here
  | inr other ↦ absurd other
]

pub mem_is_state : (m : FileMemory) → IsFilesState (files_state m)
mem_is_state m = record {
  counts_now = λ t files le left. (length m.steps, le, omega arith, subst (λ (l : List FilesStep). MayLeaveFiles (files_after l) files) (sym (take_all (length m.steps) m.steps (omega arith))) left);
  only_now = λ files left. subst (λ (l : List FilesStep). MayLeaveFiles (files_after l) files) (take_all left.0 m.steps left.1) left.3;
  reads_left = λ files left place. inl (λ i calm. refl);
  sure = λ is. (and_parts m.claimed m.usable is).1;
  settled = λ usable named place flushed files left i.
      let is = is_moment m.steps in
      only_now_fits ((files_after m.steps).files place).now ((files_after m.steps).files place).olds (files place)
      (is.olds named place) (left place) i
      (is.sound place flushed i);
}

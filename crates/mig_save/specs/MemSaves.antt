-- A file that is saved in memory, as the steps that were made tell.
use Rattle.std.specs.Prelude.{◌≡◌, ◌⊎◌, ◌≤◌, ◌++◌, ◌&&◌, ◌||◌, Bool, true, false, not, if◌then◌else◌, IsTrue, ℕ, List, [], ◌∷◌, length, take, fold, Option, Some, None}
use Rattle.std.specs.declared.vec.Vec.{Vec}
use Rattle.std.specs.declared.alloc.Global.{Global}
use Rattle.std.proofs.Common.{sym, subst, arith}
use Rattle.std.proofs.lemmas.List.{take_all}
use Rattle.mig_save.specs.declared.mem_save.SaveStep.{SaveStep}
use Rattle.mig_save.specs.declared.mem_save.SaveStep.TheVariants.{Made, Wrote, Synced, Renamed, Removed, FolderSynced}
use Rattle.mig_save.specs.Saves.{Content, SaveState, IsSaveState}

-- the bytes of a file, if there is one
abbrev pub content_of : Option (Vec ℕ Global) → Content
content_of None = None
content_of (Some bytes) = Some bytes.items

-- the name and the new file at one moment
pub record SaveMoment : Type 0 where
  pub stands : Content
  -- what stood under the name since it was last synced
  pub older : List Content
  -- a file came under the name before the device had all of it, so a crash may leave anything
  pub loose : Bool
  pub beside : List ℕ
  pub made : Bool
  pub flushed : Bool
  pub placed : Bool

-- A name that was given is settled once the folder is synced behind it.
abbrev pub after_save_step : SaveMoment → SaveStep → SaveMoment
after_save_step m Made = record m { beside = []; made = true; flushed = false; placed = false }
after_save_step m (Wrote byte) = record m { beside = m.beside ++ byte ∷ []; flushed = false }
after_save_step m Synced = record m { flushed = true }
after_save_step m Renamed = record m {
  stands = Some m.beside;
  older = m.stands ∷ m.older;
  loose = m.loose || not m.flushed;
  made = false;
  placed = true;
}
after_save_step m Removed = record m { beside = []; made = false }
after_save_step m FolderSynced = if m.placed && m.flushed then record m { older = []; loose = false } else m

-- the name before the first step
abbrev pub unsaved : Content → SaveMoment
unsaved first = record { stands = first; older = []; loose = false; beside = []; made = false; flushed = false; placed = false }

abbrev pub save_after : Content → List SaveStep → SaveMoment
save_after first steps = fold after_save_step (unsaved first) steps

-- one of these
abbrev pub IsOneOf : List Content → Content → Type 0
IsOneOf [] content = ⊥
IsOneOf (older ∷ rest) content = (content ≡ older) ⊎ IsOneOf rest content

-- what a crash may leave under the name
abbrev pub MayLeaveContent : SaveMoment → Content → Type 0
MayLeaveContent m content = (content ≡ m.stands) ⊎ (IsOneOf m.older content ⊎ IsTrue m.loose)

abbrev pub ContentLeftSince : Content → List SaveStep → ℕ → Content → Type 0
ContentLeftSince first steps t content = (k : ℕ) × (t ≤ k) × (k ≤ length steps) × MayLeaveContent (save_after first (take k steps)) content

abbrev pub mem_state : Bool → Content → List SaveStep → ℕ → SaveState
mem_state told first steps failures = record {
  told = told;
  stands = (save_after first steps).stands;
  may_leave = MayLeaveContent (save_after first steps);
  moment = length steps;
  left_since = ContentLeftSince first steps;
  beside = (save_after first steps).beside;
  made = (save_after first steps).made;
  flushed = (save_after first steps).flushed;
  placed = (save_after first steps).placed;
  listed = true;
  failures = failures;
}

pub mem_is_state : (told : Bool) (first : Content) (steps : List SaveStep) (failures : ℕ) → IsSaveState (mem_state told first steps failures)
mem_is_state told first steps failures = record {
  counts_now = λ t content le left. (length steps, le, omega arith, subst (λ (l : List SaveStep). MayLeaveContent (save_after first l) content) (sym (take_all (length steps) steps (omega arith))) left);
  only_now = λ content left. subst (λ (l : List SaveStep). MayLeaveContent (save_after first l) content)
      (take_all left.0 steps (omega (arith, left.1))) left.3;
}

-- A name that tells nothing but how many calls failed.
use Rattle.std.specs.Prelude.{ℕ, true, false, [], None}
use Rattle.mig_save.specs.Saves.{SaveState, IsSaveState}

-- What isn't told holds of no content, so each of these may be said.
abbrev pub host_state : ℕ → SaveState
host_state failures = record {
  told = false;
  stands = None;
  may_leave = λ content. ⊥;
  moment = 0;
  left_since = λ t content. ⊥;
  beside = [];
  made = true;
  flushed = true;
  placed = true;
  listed = true;
  failures = failures;
}

pub host_is_state : (failures : ℕ) → IsSaveState (host_state failures)
host_is_state failures = record {
  counts_now = λ t content le none. none;
  only_now = λ content none. none;
}

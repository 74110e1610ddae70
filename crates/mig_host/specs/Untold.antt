-- Files that tell nothing but how many calls failed, how many were not made, how often the store refused, and whether a sync has failed.
use Rattle.std.specs.Prelude.{ℕ, Bool, true, false, ⊤}
use Rattle.mig_calls.specs.Files.{FilesState, IsFilesState}
use Rattle.mig_host.specs.Systems.{SystemState}

-- A system that tells nothing: whatever may have been seen of it, was.
abbrev pub untold : SystemState
untold = record { moment = 0; saw = λ fact t. ⊤ }

-- What isn't told holds of no files, so each of these may be said.
abbrev pub untold_state : ℕ → ℕ → ℕ → Bool → FilesState
untold_state faults refused unmade usable = record {
  told = λ place. false;
  reads = λ place i. 0;
  may_leave = λ files. ⊥;
  moment = 0;
  left_since = λ t files. ⊥;
  faults = faults;
  refused = refused;
  unmade = unmade;
  claimed = usable;
  named = true;
  flushed = λ place. true;
  usable = usable;
}

pub host_is_state : (faults refused unmade : ℕ) (usable : Bool) → IsFilesState (untold_state faults refused unmade usable)
host_is_state faults refused unmade usable = record {
  counts_now = λ t files le none. none;
  only_now = λ files none. none;
  reads_left = λ files none. none;
  sure = λ is. is;
  settled = λ usable named place flushed files none i. absurd none;
}

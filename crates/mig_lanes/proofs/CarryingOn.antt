-- The loop over rounds, and the sync after it.
use Rattle.mig_lanes.proofs.Common.{Adds, AreRounds, Bool, Cell, Changes, Contents, Event, HasDone, Image, IsJobCell, IsSettled, IsSoundAfter, IsSourceSlot, List, NoCell, State, Task, Tells, []}
use Rattle.mig_lanes.proofs.Common.{ap, arith, changes_none, changes_then, changes_wider, copies_of, get_or, map, range_with_len, refl, round_at, same_wider, slot_of, subst, sym, ℕ, ◌++◌, ◌+◌}
use Rattle.mig_lanes.proofs.Common.{◌-◌, ◌∙◌, ◌≡◌}
use Rattle.mig_lanes.proofs.EventSteps.{adds_none}

-- changes of some cells, with events
abbrev pub SomeChange : (Cell → Type 0) → State → State → Type 0
SomeChange P old new = (added : List Event) × Changes P P added old new

module _ (P : Cell → Type 0) where
  pub change_none : (s : State) → SomeChange P s s
  change_none s = ([], changes_none P P s)

  pub change_then : (old mid new : State) → SomeChange P old mid → SomeChange P mid new → SomeChange P old new
  change_then old mid new first second = (first.0 ++ second.0, changes_then P P first.0 second.0 old mid new first.1 second.1)

  pub change_quiet : (old mid new : State) → SomeChange P old mid → Changes NoCell NoCell [] mid new → SomeChange P old new
  change_quiet old mid new first quiet = change_then old mid new first ([], changes_wider P P NoCell NoCell (λ cell out. absurd out) (λ cell out. absurd out) [] mid new quiet)

-- no round yet
pub none_yet : (task : Task) (k : ℕ) (s : State) → Adds (AreRounds (map (copies_of task) (range_with_len (k + 1) (k - k)))) s s
none_yet task k s = adds_none (AreRounds (map (copies_of task) (range_with_len (k + 1) (k - k)))) s s (subst (λ (n : ℕ). AreRounds (map (copies_of task) (range_with_len (k + 1) n)) []) (let e : 0 ≡ k - k = omega arith in e) refl) (changes_none NoCell NoCell s).events

-- what was done is done after a sync
module _ (asked : Bool) (task : Task) (contents : Contents) (k : ℕ) (mid new : State) (same : mid.reads ≡ new.reads) (settled : IsSettled new) where
  pub done_synced : HasDone asked task.input task.plan task.digest contents mid k → HasDone asked task.input task.plan task.digest contents new k
  done_synced done = record {
    sound = subst (λ (image : Image). IsSoundAfter asked task.input task.plan task.digest contents image k) same done.sound;
    erased = λ j d lt. ap (λ (image : Image). image (slot_of task.input (get_or (round_at task.plan k) j d).from)) (sym same) ∙ done.erased j d lt;
    settled = λ image left. same_wider NoCell (IsSourceSlot task.input task.plan k) (λ cell out. absurd out) new.reads image (settled image left);
    tells = subst (λ (image : Image). Tells (IsJobCell task.input task.plan) image) same done.tells;
  }

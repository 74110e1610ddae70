-- The middle of a round, by the laws of safe images.
use Rattle.mig_live.proofs.Common.{All-contains, At, Bool, Cell, Changes, ChangesOnly, Contains, Contains-get_or, Contents, Event, HasDone}
use Rattle.mig_live.proofs.Common.{HoldsZeros, IfSome, Image, IsAmong, IsCopied, IsCopy, IsAmongTargets, IsInUse, IsInput, IsJobCell, IsLegal}
use Rattle.mig_live.proofs.Common.{IsLoose, IsSettled, IsSound, IsSoundAfter, IsSourceSlot, IsTaken, IsUnderway, LeavesOnly, List, InputLists, Mark}
use Rattle.mig_live.proofs.Common.{NoCell, Option, Runs, SameBut, SettledBut, Shift, Some, Spot, State, Tells, [], any_contains, ap, arith, at_target}
use Rattle.mig_live.proofs.Common.{cases_Bool, cases_cell, cases_eq, changes_leave, changes_wider, flights, flights_same, from_disk, get_or}
use Rattle.mig_live.proofs.Common.{get_or_from_slice_get, here, inl, inr, is_marked, is_one, layout_at, leaves, length, marking, one_target}
use Rattle.mig_live.proofs.Common.{other_bytes, refl, round_at, same_image, same_wider, settled_change, slice_get, slice_get-get_or, slice_get_within}
use Rattle.mig_live.proofs.Common.{slot_apart, slot_of, sound_after, subst, suc, sym, target_free, to_disk, told_is, told_kept, unmarked, zero, zeros}
use Rattle.mig_live.proofs.Common.{ℕ, ⊎_elim, ◌+◌, ◌<◌, ◌∙◌, ◌∷◌, ◌≡◌, ◌≤◌, ◌⊎◌}

among_has : (n : ℕ) (shifts : List Shift) (s : Shift) → IsAmong n shifts s → Contains shifts s
among_has n shifts s (place, lt, at) = (place, slice_get_within shifts place s at, get_or_from_slice_get shifts place s s at)

-- the first n of a list that is no longer are all
among_all : (n m : ℕ) (shifts : List Shift) (s : Shift) → length shifts ≤ n → IsAmong m shifts s → IsAmong n shifts s
among_all n m shifts s all (place, lt, at) = (place, (let low = slice_get_within shifts place s at in omega arith), at)

among_more : (n m : ℕ) (shifts : List Shift) (s : Shift) → n ≤ m → IsAmong n shifts s → IsAmong m shifts s
among_more n m shifts s le (place, lt, at) = (place, omega arith, at)

-- one more is the last, or one of those before
among_cases : (n : ℕ) (shifts : List Shift) (s t : Shift) → slice_get shifts n ≡ Some t → IsAmong (n + 1) shifts s → IsAmong n shifts s ⊎ (s ≡ t)
among_cases n shifts s t here (place, lt, at) = elim (cases_eq place n) [
  | inl same ↦ inr cc
  | inr other ↦ inl (place, omega arith, at)
]

filled_more : (input : InputLists) (n m : ℕ) (shifts : List Shift) (cell : Cell) → n ≤ m → IsAmongTargets input n shifts cell → IsAmongTargets input m shifts cell
filled_more input n m shifts cell le (s, among, at) = (s, among_more n m shifts s le among, at)

loose_more : (input : InputLists) (plan : List (List Shift)) (k e c f d : ℕ) (cell : Cell) → e ≤ f → c ≤ d → IsLoose input plan k e c cell → IsLoose input plan k f d cell
loose_more input plan k e c f d cell le_e le_c (inl (s, among, at)) = inl (s, among_more e f (round_at plan k) s le_e among, at)
loose_more input plan k e c f d cell le_e le_c (inr to) = inr (filled_more input c d (round_at plan (suc k)) cell le_c to)

-- the slots of the middle of a round are in use around it
pub loose_in_use : (input : InputLists) (plan : List (List Shift)) (k e c : ℕ) (cell : Cell) → IsLoose input plan k e c cell → IsInUse input plan k cell
loose_in_use input plan k e c cell (inl (s, among, at)) = inl (s.from, any_contains (λ (t : Shift). t.from ≡ s.from) (round_at plan k) s (among_has e (round_at plan k) s among) refl, at)
loose_in_use input plan k e c cell (inr (s, among, at)) = inr (s.to, any_contains (λ (t : Shift). t.to ≡ s.to) (round_at plan (suc k)) s (among_has c (round_at plan (suc k)) s among) refl, at)

-- the same is read, and no other cell is unsettled
pub way_on : (asked : Bool) (input : InputLists) (plan : List (List Shift)) (digest : List ℕ) (contents : Contents) (k : ℕ) (old new : State) (e c : ℕ) → old.reads ≡ new.reads → SettledBut (IsLoose input plan k e c) new → flights new ≡ []
    → IsUnderway asked input plan digest contents old k e c → IsUnderway asked input plan digest contents new k e c
way_on asked input plan digest contents k old new e c same settled landed way = record {
  sound = subst (λ (image : Image). IsSoundAfter asked input plan digest contents image k) same way.sound;
  copied = λ m among. subst (λ (image : Image). image (slot_of input m.to) ≡ Some (contents m.item.0)) same (way.copied m among);
  erased = λ m among out. subst (λ (image : Image). image (slot_of input m.from) ≡ Some zeros) same (way.erased m among out);
  settled = settled;
  landed = landed;
  tells = subst (λ (image : Image). Tells (IsJobCell input plan) image) same way.tells;
}

module _ (input : InputLists) (valid : IsInput input) (plan : List (List Shift)) (runs : Runs input plan) (digest : List ℕ) (contents : Contents) (k : ℕ) (most : k ≤ length plan) (asked : Bool) where
  abbrev pub Sound : Image → Type 0
  Sound = IsSound asked input plan digest contents

  -- every image that a crash may leave is as sound as what reads give
  pub sound_images : (s : State) (e c : ℕ) → IsUnderway asked input plan digest contents s k e c → (image : Image) → s.may_leave image → IsSoundAfter asked input plan digest contents image k
  sound_images s e c way image left = other_bytes input valid plan runs digest contents k most asked s.reads image
      (same_wider (IsLoose input plan k e c) (IsInUse input plan k) (loose_in_use input plan k e c) s.reads image (way.settled image left)) way.sound

  -- a change of slots in use leaves nothing else
  pub step_leaves : (P : Cell → Type 0) → ((cell : Cell) → P cell → IsInUse input plan k cell) → (added : List Event) (old new : State) (e c : ℕ) → Changes P P added old new
      → IsUnderway asked input plan digest contents old k e c → LeavesOnly Sound old new
  step_leaves P used added old new e c change way = changes_leave Sound P P added old new change (λ before image left same.
      sound_after input valid plan runs digest contents k most asked image
      (other_bytes input valid plan runs digest contents k most asked before image (same_wider P (IsInUse input plan k) used before image same) (sound_images old e c way before left)))

  -- and what reads give stays as sound
  step_sound : (P : Cell → Type 0) → ((cell : Cell) → P cell → IsInUse input plan k cell) → (added : List Event) (old new : State) (e c : ℕ) → Changes P P added old new
      → IsUnderway asked input plan digest contents old k e c → IsSoundAfter asked input plan digest contents new.reads k
  step_sound P used added old new e c change way = other_bytes input valid plan runs digest contents k most asked old.reads new.reads
      (same_wider P (IsInUse input plan k) used old.reads new.reads change.told) way.sound

  step_tells : (P : Cell → Type 0) (added : List Event) (old new : State) (e c : ℕ) → Changes P P added old new
      → IsUnderway asked input plan digest contents old k e c → Tells (IsJobCell input plan) new.reads
  step_tells P added old new e c change way cell of = told_kept P old.reads new.reads change.told cell (way.tells cell of)

  -- one source more is erased
  module _ (s : Shift) (old new : State) (e : ℕ) (here : slice_get (round_at plan k) e ≡ Some s) (change : ChangesOnly (λ c. c ≡ slot_of input s.from) old new) where
    erase_used : (cell : Cell) → cell ≡ slot_of input s.from → IsInUse input plan k cell
    erase_used cell at = inl (s.from, any_contains (λ (t : Shift). t.from ≡ s.from) (round_at plan k) s (among_has (e + 1) (round_at plan k) s (e, omega arith, here)) refl, sym at)

    pub erase_leaves : IsUnderway asked input plan digest contents old k e 0 → LeavesOnly Sound old new
    erase_leaves = step_leaves (λ c. c ≡ slot_of input s.from) erase_used [] old new e 0 change

    module _ (way : IsUnderway asked input plan digest contents old k e 0) (zeroed : HoldsZeros (new.reads (slot_of input s.from))) where
      now_zeros : new.reads (slot_of input s.from) ≡ Some zeros
      now_zeros = told_is (new.reads (slot_of input s.from)) zeros
          (step_tells (λ c. c ≡ slot_of input s.from) [] old new e 0 change way (slot_of input s.from)
          (inr (s.from, (k, inl (any_contains (λ (t : Shift). t.from ≡ s.from) (round_at plan k) s (among_has (e + 1) (round_at plan k) s (e, omega arith, here)) refl)), refl))) zeroed

      still_zeros : (m : Shift) → IsAmong (e + 1) (round_at plan k) m → new.reads (slot_of input m.from) ≡ Some zeros
      still_zeros m among = elim (cases_cell (slot_of input m.from) (slot_of input s.from)) [
        | inl same ↦ ap new.reads same ∙ now_zeros
        | inr other ↦ elim (among_cases e (round_at plan k) m s here among) [
          | inl before ↦ change.told.same (slot_of input m.from) other ∙ way.erased m before (λ filled. let low = filled.1.1 in omega arith)
          | inr last ↦ absurd (other (ap (λ (t : Shift). slot_of input t.from) last))
        ]
      ]

      erase_loose : (cell : Cell) → cell ≡ slot_of input s.from → IsLoose input plan k (e + 1) 0 cell
      erase_loose cell at = inl (s, (e, omega arith, here), sym at)

      pub erase_more : IsUnderway asked input plan digest contents new k (e + 1) 0
      erase_more = record {
        sound = step_sound (λ c. c ≡ slot_of input s.from) erase_used [] old new e 0 change way;
        copied = λ m among. absurd (let low = among.1 in omega arith);
        erased = λ m among out. still_zeros m among;
        settled = settled_change (IsLoose input plan k (e + 1) 0) [] old new
            (changes_wider (IsLoose input plan k (e + 1) 0) (IsLoose input plan k (e + 1) 0) (λ c. c ≡ slot_of input s.from) (λ c. c ≡ slot_of input s.from) erase_loose erase_loose [] old new change)
            (λ image left. same_wider (IsLoose input plan k e 0) (IsLoose input plan k (e + 1) 0) (λ cell loose. loose_more input plan k e 0 (e + 1) 0 cell (omega arith) (omega arith) loose) old.reads image (way.settled image left));
        landed = flights_same old new change.events ∙ way.landed;
        tells = step_tells (λ c. c ≡ slot_of input s.from) [] old new e 0 change way;
      }

  -- numbers past the ends of the rounds stand for all
  module _ (s : State) (e c f d : ℕ) (from_more : (m : Shift) → IsAmong e (round_at plan k) m → IsAmong f (round_at plan k) m) (from_less : (m : Shift) → IsAmong f (round_at plan k) m → IsAmong e (round_at plan k) m)
      (to_more : (m : Shift) → IsAmong c (round_at plan (suc k)) m → IsAmong d (round_at plan (suc k)) m) (to_less : (m : Shift) → IsAmong d (round_at plan (suc k)) m → IsAmong c (round_at plan (suc k)) m) where
    filled_same : (cell : Cell) → IsAmongTargets input c (round_at plan (suc k)) cell → IsAmongTargets input d (round_at plan (suc k)) cell
    filled_same cell (t, among, at) = (t, to_more t among, at)

    loose_same : (cell : Cell) → IsLoose input plan k e c cell → IsLoose input plan k f d cell
    loose_same cell (inl (t, among, at)) = inl (t, from_more t among, at)
    loose_same cell (inr filled) = inr (filled_same cell filled)

    pub way_same : IsUnderway asked input plan digest contents s k e c → IsUnderway asked input plan digest contents s k f d
    way_same way = record {
      sound = way.sound;
      copied = λ m among. way.copied m (to_less m among);
      erased = λ m among out. way.erased m (from_less m among) (λ filled. out (filled_same (slot_of input m.from) filled));
      settled = λ image left. same_wider (IsLoose input plan k e c) (IsLoose input plan k f d) loose_same s.reads image (way.settled image left);
      landed = way.landed;
      tells = way.tells;
    }

  -- all sources are erased, and one more is none
  pub past_sources : (s : State) (e f c : ℕ) → length (round_at plan k) ≤ e → e ≤ f → IsUnderway asked input plan digest contents s k e c → IsUnderway asked input plan digest contents s k f c
  past_sources s e f c all le = way_same s e c f c (λ m among. among_more e f (round_at plan k) m le among) (λ m among. among_all e f (round_at plan k) m all among) (λ m among. among) (λ m among. among)

  -- all shifts are copied
  pub past_targets : (s : State) (e c d : ℕ) → length (round_at plan (suc k)) ≤ c → c ≤ d → IsUnderway asked input plan digest contents s k e c → IsUnderway asked input plan digest contents s k e d
  past_targets s e c d all le = way_same s e c e d (λ m among. among) (λ m among. among) (λ m among. among_more c d (round_at plan (suc k)) m le among) (λ m among. among_all c d (round_at plan (suc k)) m all among)

  -- nothing changes but that all is settled
  pub way_settled : (old new : State) (e c : ℕ) → old.reads ≡ new.reads → IsSettled new → flights new ≡ [] → IsUnderway asked input plan digest contents old k e c → IsUnderway asked input plan digest contents new k e c
  way_settled old new e c same settled = way_on asked input plan digest contents k old new e c same (λ image left. same_wider NoCell (IsLoose input plan k e c) (λ cell none. absurd none) new.reads image (settled image left))

  -- a round that is done is the beginning of the middle of the next
  pub from_done : (s : State) (e : ℕ) → length (round_at plan k) ≤ e → flights s ≡ [] → HasDone asked input plan digest contents s k → IsUnderway asked input plan digest contents s k e 0
  from_done s e all none done = record {
    sound = done.sound;
    copied = λ m among. absurd (let low = among.1 in omega arith);
    erased = λ m among out. All-contains (λ (t : Shift). s.reads (slot_of input t.from) ≡ Some zeros) (round_at plan k) m done.erased (among_has e (round_at plan k) m among);
    settled = λ image left. same_wider (IsSourceSlot input plan k) (IsLoose input plan k e 0) loose s.reads image (done.settled image left);
    landed = none;
    tells = done.tells;
  }
    where
      loose : (cell : Cell) → IsSourceSlot input plan k cell → IsLoose input plan k e 0 cell
      loose cell (spot, any, at) =
          let low = any.2 in
          let is = slice_get-get_or (round_at plan k) any.0 any.1 any.2 ∙ ap Some any.3 in
          inl (any.1, (any.0, omega arith, is), ap (λ (p : Spot). slot_of input p) any.4 ∙ at)

  module _ (lt : k < length plan) where
    legal : IsLegal input (At input plan k) (round_at plan (suc k))
    legal = runs.rounds k lt

    to_on_disk : (s : Shift) → Contains (round_at plan (suc k)) s → s.to.disk.0 < length input.disks
    to_on_disk s has = to_disk input (At input plan k) (round_at plan (suc k)) legal s has

    -- one shift more is copied
    module _ (s : Shift) (old new : State) (e c : ℕ) (here : slice_get (round_at plan (suc k)) c ≡ Some s) (added : List Event) (change : Changes (λ x. x ≡ slot_of input s.to) (λ x. x ≡ slot_of input s.to) added old new) where
      has_here : Contains (round_at plan (suc k)) s
      has_here = among_has (c + 1) (round_at plan (suc k)) s (c, omega arith, here)

      copy_used : (cell : Cell) → cell ≡ slot_of input s.to → IsInUse input plan k cell
      copy_used cell at = inr (s.to, any_contains (λ (t : Shift). t.to ≡ s.to) (round_at plan (suc k)) s has_here refl, sym at)

      pub copy_leaves : IsUnderway asked input plan digest contents old k e c → LeavesOnly Sound old new
      copy_leaves = step_leaves (λ x. x ≡ slot_of input s.to) copy_used added old new e c change

      module _ (way : IsUnderway asked input plan digest contents old k e c) (copied : IsCopy (old.reads (slot_of input s.from)) (new.reads (slot_of input s.to))) (none : flights new ≡ []) where
        tells_copied : Tells (IsJobCell input plan) new.reads
        tells_copied = step_tells (λ x. x ≡ slot_of input s.to) added old new e c change way

        now_there : new.reads (slot_of input s.to) ≡ Some (contents s.item.0)
        now_there = told_is (new.reads (slot_of input s.to)) (contents s.item.0)
            (tells_copied (slot_of input s.to) (inr (s.to, (suc k, inr (any_contains (λ (t : Shift). t.to ≡ s.to) (round_at plan (suc k)) s has_here refl)), refl)))
            (subst (λ (o : Option (List ℕ)). IsCopy o (new.reads (slot_of input s.to))) (way.sound.after.safe.stand s.item.0 s.from (leaves input (At input plan k) (round_at plan (suc k)) legal s has_here)) copied)

        still_there : (m : Shift) → IsAmong (c + 1) (round_at plan (suc k)) m → new.reads (slot_of input m.to) ≡ Some (contents m.item.0)
        still_there m among = elim (cases_cell (slot_of input m.to) (slot_of input s.to)) [
          | inl same ↦ subst (λ (t : Shift). new.reads (slot_of input t.to) ≡ Some (contents t.item.0)) (sym (the_one same)) now_there
          | inr other ↦ elim (among_cases c (round_at plan (suc k)) m s here among) [
            | inl before ↦ change.told.same (slot_of input m.to) other ∙ way.copied m before
            | inr last ↦ absurd (other (ap (λ (t : Shift). slot_of input t.to) last))
          ]
        ]
          where
            has_m : Contains (round_at plan (suc k)) m
            has_m = among_has (c + 1) (round_at plan (suc k)) m among

            the_one : slot_of input m.to ≡ slot_of input s.to → m ≡ s
            the_one same = one_target input (At input plan k) (round_at plan (suc k)) legal m s has_m has_here
                (slot_apart input valid m.to s.to (to_on_disk m has_m) (to_on_disk s has_here) same)

        copy_loose : (cell : Cell) → cell ≡ slot_of input s.to → IsLoose input plan k e (c + 1) cell
        copy_loose cell at = inr (s, (c, omega arith, here), sym at)

        pub copy_more : IsUnderway asked input plan digest contents new k e (c + 1)
        copy_more = record {
          sound = step_sound (λ x. x ≡ slot_of input s.to) copy_used added old new e c change way;
          copied = still_there;
          erased = λ m among out. change.told.same (slot_of input m.from) (λ at. out (s, (c, omega arith, here), sym at))
              ∙ way.erased m among (λ filled. out (filled_more input c (c + 1) (round_at plan (suc k)) (slot_of input m.from) (omega arith) filled));
          settled = settled_change (IsLoose input plan k e (c + 1)) added old new
              (changes_wider (IsLoose input plan k e (c + 1)) (IsLoose input plan k e (c + 1)) (λ x. x ≡ slot_of input s.to) (λ x. x ≡ slot_of input s.to) copy_loose copy_loose added old new change)
              (λ image left. same_wider (IsLoose input plan k e c) (IsLoose input plan k e (c + 1)) (λ cell loose. loose_more input plan k e c e (c + 1) cell (omega arith) (omega arith) loose) old.reads image (way.settled image left));
          landed = none;
          tells = tells_copied;
        }

    -- the round is copied and settled, and its mark is set
    module _ (old : State) (e c : ℕ) (all_from : length (round_at plan k) ≤ e) (all_to : length (round_at plan (suc k)) ≤ c) (way : IsUnderway asked input plan digest contents old k e c) where
      from_on_disk : (r : ℕ) → r ≤ length plan → (s : Shift) → Contains (round_at plan r) s → s.from.disk.0 < length input.disks
      from_on_disk zero le s has = absurd (let none = has.1 in omega arith)
      from_on_disk (suc r) le s has = from_disk input (At input plan r) (round_at plan (suc r)) (runs.rounds r (omega arith)) (layout_at input valid plan runs r (omega arith)) s has

      -- what a shift of the round fills is taken after it
      taken : (m : Shift) → Contains (round_at plan k) m → IsAmongTargets input c (round_at plan (suc k)) (slot_of input m.from) → IsTaken (At input plan (suc k)) m.from
      taken m has (t, among, at) =
          let has_t = among_has c (round_at plan (suc k)) t among in
          (t.item.0, at_target input (At input plan k) (round_at plan (suc k)) legal t has_t ∙ ap Some (slot_apart input valid t.to m.from (to_on_disk t has_t) (from_on_disk k most m has) at))

      pub way_copied : IsCopied input plan contents old.reads k
      way_copied = record {
        targets = λ j d in_range. way.copied (get_or (round_at plan (suc k)) j d) (j, omega arith, slice_get-get_or (round_at plan (suc k)) j d in_range);
        sources = λ j d in_range free. way.erased (get_or (round_at plan k) j d) (j, omega arith, slice_get-get_or (round_at plan k) j d in_range)
            (λ filled. free (taken (get_or (round_at plan k) j d) (Contains-get_or (round_at plan k) j d in_range) filled));
      }

      module _ (settled : IsSettled old) (set : State) (mark : ChangesOnly (λ x. x ≡ Mark (suc k)) old set) where
        maybe : (image : Image) → SameBut (λ x. x ≡ Mark (suc k)) old.reads image → IsSound asked input plan digest contents image
        maybe image same = ⊎_elim
            (λ is_set. sound_after input valid plan runs digest contents (suc k) lt asked image
            (marking input valid plan runs digest contents k most lt old.reads image same asked is_set way.sound way_copied))
            (λ unset. sound_after input valid plan runs digest contents k most asked image
            (unmarked input valid plan runs digest contents k most lt old.reads image same asked unset way.sound))
            (cases_Bool (is_marked image (suc k)))

        pub mark_leaves : LeavesOnly Sound old set
        mark_leaves = changes_leave Sound (λ x. x ≡ Mark (suc k)) (λ x. x ≡ Mark (suc k)) [] old set mark
            (λ before image left same. maybe image (subst (λ (b : Image). SameBut (λ x. x ≡ Mark (suc k)) b image) (sym (same_image old.reads before (settled before left))) same))

        pub mark_more : IfSome (set.reads (Mark (suc k))) (λ bytes. bytes ≡ 1 ∷ []) → IsSettled set → IsUnderway asked input plan digest contents set (suc k) 0 0
        mark_more marked settled_set = record {
          sound = marking input valid plan runs digest contents k most lt old.reads set.reads mark.told asked (ap is_one is_set) way.sound way_copied;
          copied = λ m among. absurd (let low = among.1 in omega arith);
          erased = λ m among out. absurd (let low = among.1 in omega arith);
          settled = λ image left. same_wider NoCell (IsLoose input plan (suc k) 0 0) (λ cell none. absurd none) set.reads image (settled_set image left);
          landed = flights_same old set mark.events ∙ way.landed;
          tells = tells_set;
        }
          where
            tells_set : Tells (IsJobCell input plan) set.reads
            tells_set = step_tells (λ x. x ≡ Mark (suc k)) [] old set e c mark way

            is_set : set.reads (Mark (suc k)) ≡ Some (1 ∷ [])
            is_set = told_is (set.reads (Mark (suc k))) (1 ∷ []) (tells_set (Mark (suc k)) (inl (inr (inr (suc k, omega arith, lt, refl))))) marked

-- a shift's two slots differ
pub copy_apart : (input : InputLists) (valid : IsInput input) (plan : List (List Shift)) (runs : Runs input plan) (k : ℕ) (lt : k < length plan) (s : Shift) (place : ℕ) → slice_get (round_at plan (suc k)) place ≡ Some s → slot_of input s.from ≡ slot_of input s.to → ⊥
copy_apart input valid plan runs k lt s place here same =
    let has = among_has (place + 1) (round_at plan (suc k)) s (place, omega arith, here) in
    let legal = runs.rounds k lt in
    let from = from_disk input (At input plan k) (round_at plan (suc k)) legal (layout_at input valid plan runs k (omega arith)) s has in
    let to = to_disk input (At input plan k) (round_at plan (suc k)) legal s has in
    target_free input (At input plan k) (round_at plan (suc k)) legal s has s.item.0
    (leaves input (At input plan k) (round_at plan (suc k)) legal s has ∙ ap Some (slot_apart input valid s.from s.to from to same))

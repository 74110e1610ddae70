-- The steps of calls on a store with no copy in flight.
use Rattle.mig_journal.proofs.Common.{Cell, ChangesOnly, Ends, Err, Flight, IsMoving, IsTargetOf, List, Looks, Mark, NoCell, Ok, OnErr, OnOk, Result, State, [], changes_then, changes_wider}
use Rattle.mig_journal.proofs.Common.{ends_are_quiet, false≢true, flights, flights_same, inl, inr, no_target, same_image, subst, sym, ℕ, ◌∙◌, ◌≡◌, ◌⊎◌}
use Rattle.mig_store.specs.Grounds.{HasGround, IsErasure, IsNoSlot, Remembers, Sights}
use Rattle.mig_base.specs.FaultCounts.{Rose}
use Rattle.mig_base.proofs.Common.{arith, ◌≤◌}

module _ (P : Cell → Type 0) (old mid : State) where
  -- one step more
  pub then_step : (Q : Cell → Type 0) (new : State) → ((cell : Cell) → Q cell → P cell) → ChangesOnly P old mid → ChangesOnly Q mid new → ChangesOnly P old new
  then_step Q new within first second = changes_then P P [] [] old mid new first (changes_wider P P Q Q within within [] mid new second)

  pub then_quiet : (new : State) → ChangesOnly P old mid → ChangesOnly NoCell mid new → ChangesOnly P old new
  then_quiet new first second = then_step NoCell new (λ cell none. absurd none) first second

  -- a sync more
  pub then_sync : (new : State) → flights old ≡ [] → ChangesOnly P old mid → (these : List Flight) → Ends these mid new → ChangesOnly P old new
  then_sync new none first these ends = then_quiet new first (ends_are_quiet mid new (flights_same old mid first.events ∙ none) these ends)

  pub still_none : flights old ≡ [] → ChangesOnly P old mid → flights mid ≡ []
  still_none none change = flights_same old mid change.events ∙ none

-- a look changes nothing where no copy is in flight
pub look_quiet : (old new : State) → flights old ≡ [] → Looks old new → ChangesOnly NoCell old new
look_quiet old new none look = changes_wider NoCell NoCell (IsMoving old) NoCell (λ cell moving. no_target (flights old) cell none moving.1) (λ cell out. absurd out) [] old new look

-- what reads give is the same where nothing changes
pub quiet_same : (old new : State) → ChangesOnly NoCell old new → old.reads ≡ new.reads
quiet_same old new quiet = same_image old.reads new.reads quiet.told

pub sync_same : (mid new : State) → flights mid ≡ [] → (these : List Flight) → Ends these mid new → mid.reads ≡ new.reads
sync_same mid new none these ends = quiet_same mid new (ends_are_quiet mid new none these ends)

pub on_ok_is : {T E : Type 0} {P : Type 0} (r : Result T E) → P → OnOk r P
on_ok_is (Ok x) p = p
on_ok_is (Err e) p = tt

-- a look leaves what reads give of marks
pub look_mark : (old new : State) → Looks old new → (n : ℕ) → old.reads (Mark n) ≡ new.reads (Mark n)
look_mark old new look n = sym (look.told.same (Mark n) (λ moving. false≢true moving.0))

-- two looks are one
pub looks_then : (old mid new : State) → Looks old mid → Looks mid new → Looks old new
looks_then old mid new first second = changes_then (IsMoving old) NoCell [] [] old mid new first
    (changes_wider (IsMoving old) NoCell (IsMoving mid) NoCell (λ cell moving. (moving.0, subst (λ (fs : List Flight). IsTargetOf fs cell) (flights_same old mid first.events) moving.1)) (λ cell out. out) [] mid new second)

-- what was seen is seen still, after one step and another
pub remembers_then : {P : Cell → Type 0} {a b c : Sights} → Remembers P a b → Remembers P b c → Remembers P a c
remembers_then first then slot item out seen = then slot item out (first slot item out seen)

pub remembers_wider : {P Q : Cell → Type 0} {a b : Sights} → ((cell : Cell) → P cell → Q cell) → Remembers P a b → Remembers Q a b
remembers_wider wider kept slot item out seen = kept slot item (λ in_it. out (wider slot in_it)) seen

-- where a cell is written that is no slot
pub remembers_at : (cell : Cell) {a b : Sights} → IsNoSlot cell → Remembers (λ c. c ≡ cell) a b → Remembers IsNoSlot a b
remembers_at cell not kept = remembers_wider (λ c same. subst IsNoSlot (sym same) not) kept

pub remembers_synced : {P : Cell → Type 0} {a b c : Sights} → Remembers P a b → Remembers NoCell b c → Remembers P a c
remembers_synced first then = remembers_then first (remembers_wider (λ cell none. absurd none) then)

-- where there is no ground, a call failed
pub only_rose : {A R G : Type 0} → (G → ⊥) → A ⊎ (R × G) → A
only_rose none (inl rose) = rose
only_rose none (inr (refuses, ground)) = absurd (none ground)

-- a cell of the journal is never erased
pub no_erasure : (cell : Cell) {bytes : List ℕ} {Last : Type 0} → IsNoSlot cell → IsErasure cell bytes × Last → ⊥
no_erasure cell not (erases, last) = false≢true (sym not ∙ erases.slot)

-- a fact that each error says
pub err_any : {T E A : Type 0} (r : Result T E) → A → OnErr r A
err_any (Ok x) a = tt
err_any (Err e) a = a

pub rose_from : {a b c : ℕ} → a ≤ b → Rose b c → Rose a c
rose_from later rose = omega (arith, later, rose)

-- a call that failed is no refusal
pub failed_ground : {T E R G : Type 0} {old new : State} (r : Result T E) → old.faults ≤ new.faults → Rose old.faults new.faults → HasGround R G old new r
failed_ground (Ok x) later rose = record { later = later; failed = tt }
failed_ground (Err e) later rose = record { later = later; failed = inl rose }

pub failed_ground_after : {T E R G : Type 0} {old new : State} (r : Result T E) (mid : State) → old.faults ≤ mid.faults → mid.faults ≤ new.faults → Rose mid.faults new.faults → HasGround R G old new r
failed_ground_after r mid later more rose = failed_ground r (omega (arith, later, more)) (rose_from later rose)

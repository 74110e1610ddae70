-- A waiting item that is shifted to a spare of its next disk, and one that is parked.
use Rattle.mig_tight.proofs.Common.{AreClearedBelow, AreUnawaited, History, InputLists, IsCleared, IsInput, IsOnNext, IsSoundState, IsUnawaited}
use Rattle.mig_tight.proofs.Common.{ItemId, List, PlanState, Preserves, Spot, WaitsFor, [], ap, arith, cases_eq, cases_spot, eq-eqb, false≢true}
use Rattle.mig_tight.proofs.Common.{get_or, get_or-set_other, get_or-set_same, get_or_read, inl, inr, is_relocated, length, length-set, no_spot, not}
use Rattle.mig_tight.proofs.Common.{queue_at, refl, set, shift_count, shifted, source, spot_at, spot_disk, subst, sym, target, true, ℕ, ◌++◌}
use Rattle.mig_tight.proofs.Common.{◌+◌, ◌<◌, ◌∙◌, ◌∷◌, ◌≡◌, ◌≢◌, ◌≤◌}
use Rattle.mig_tight.proofs.Shifting.{shift_to, reaches_more, placed_more, enough_more}
use Rattle.mig_tight.proofs.Queueing.{spot_other, waits_last, AreQueues-filled, AreQueues-parked, shorter}
use Rattle.mig_tight.proofs.Histories.{history_other, history_filled, history_parked}
use Rattle.mig_tight.proofs.Counts.{someone_waits, tight}

pub relocated_apart : (input : InputLists) (item : ℕ) → is_relocated input item ≡ true → source input item ≢ target input item
relocated_apart input item r e = false≢true (sym (ap not (eq-eqb (source input item) (target input item) e)) ∙ r)

pub Preserves-trans : (input : InputLists) (h : ℕ) (a b c : PlanState) → Preserves input h a b → Preserves input h b c → Preserves input h a c
Preserves-trans input h a b c x y = grind arith

-- where nobody waits for the disk of another spare, nobody does later
pub unawaited_after : (input : InputLists) (h : ℕ) (a b : PlanState) → Preserves input h a b → (j : ℕ) → j ≢ h → IsUnawaited a.waiting (spot_at a.spares j) → IsUnawaited b.waiting (spot_at b.spares j)
unawaited_after input h a b on j ne rest = ap (λ (x : Spot). queue_at b.waiting x.disk.0) (on.spares j ne) ∙ on.queues (spot_at a.spares j).disk.0 rest

pub all_unawaited : (input : InputLists) (h : ℕ) (a b : PlanState) → Preserves input h a b → AreUnawaited a → IsUnawaited b.waiting (spot_at b.spares h) → AreUnawaited b
all_unawaited input h a b on rest here j l = grind (arith, cases_eq, unawaited_after)

pub cleared_after : (input : InputLists) (h n : ℕ) (a b : PlanState) → n ≤ length input.items → Preserves input h a b → AreClearedBelow input a n → AreClearedBelow input b n
cleared_after input h n a b le on cleared item l relocated same = elim (cases_spot (spot_at a.spots item) (spot_at input.spots item)) [
  | inl was ↦ on.queues (spot_at input.spots item).disk.0 (cleared item l relocated was)
  | inr moved ↦ absurd (on.moved item (omega (arith, l, le)) moved same)
]

pub cleared_more : (input : InputLists) (n : ℕ) (a b : PlanState) → n ≤ length input.items → Preserves input 0 a b → AreClearedBelow input a n → IsCleared input b n → AreClearedBelow input b (n + 1)
cleared_more input n a b le on cleared here item l = grind (arith, cases_eq, cleared_after)

module _ (input : InputLists) (is : IsInput input) (s : PlanState) (st : IsSoundState input s) where
  -- an item that waits for the disk of a spare goes there
  module _ (h : ℕ) (spare : h < length s.spares) (x : ItemId) (rest : List ItemId) (was : queue_at s.waiting (spot_at s.spares h).disk.0 ≡ rest ++ x ∷ []) where
    abbrev next : PlanState
    next = shifted (record { spots = s.spots; spares = s.spares; waiting = set s.waiting (spot_at s.spares h).disk.0 rest; rounds = s.rounds }) x.0 h

    disk_there : (spot_at s.spares h).disk.0 < length input.disks
    disk_there = spot_disk input.disks (spot_at s.spares h) (st.placed.spares_there h no_spot spare)

    waits : WaitsFor input s.spots (spot_at s.spares h).disk.0 x
    waits = waits_last input s.spots s.waiting (spot_at s.spares h).disk.0 x rest (spot_at s.spares h) st.queues disk_there st.placed.len was refl

    pub item_there : x.0 < length s.spots
    item_there = omega (arith, waits.there, st.placed.len)

    still_none : (u : ℕ) → queue_at s.waiting u ≡ [] → queue_at (set s.waiting (spot_at s.spares h).disk.0 rest) u ≡ []
    still_none = shorter input s.spots s.waiting (spot_at s.spares h).disk.0 x rest (spot_at s.spares h) st.queues disk_there st.placed.len was refl

    pub IsSound-filled : IsSoundState input next
    IsSound-filled = record {
      reaches = reaches_more input is s.spots s.spares x.0 h st.placed waits.there spare s.rounds st.reaches;
      placed = placed_more input is s.spots s.spares x.0 h st.placed waits.there spare;
      enough = enough_more input is s.spots s.spares x.0 h st.placed waits.there spare st.enough;
      queues = AreQueues-filled input s.spots s.waiting (spot_at s.spares h).disk.0 x rest (spot_at s.spares h) st.queues disk_there st.placed.len was refl;
      history = λ item l. elim (cases_eq item x.0) [
        | inl at ↦ subst (λ i. History input next i) (sym at) (history_filled input s.spots s.rounds (shift_to s.spots s.spares x.0 h) s next item_there refl refl refl refl waits.away (sym waits.goes) (st.history x.0 waits.there))
        | inr off ↦ history_other input s.spots s.rounds (shift_to s.spots s.spares x.0 h) s next item_there refl refl refl refl still_none item off (st.history item l)
      ];
    }

    moved_on : (item : ℕ) → item < length input.items → spot_at s.spots item ≢ spot_at input.spots item → spot_at (set s.spots x.0 (spot_at s.spares h)) item ≢ spot_at input.spots item
    moved_on item l moved e = grind (arith, cases_eq, get_or-set_same, no_spot, item_there, waits, relocated_apart, spot_other)

    pub Preserves-filled : Preserves input h s next
    Preserves-filled = grind (arith, length-set, get_or-set_other, no_spot, still_none, moved_on)

  -- an item that was never shifted, from a disk for which others wait, is parked in the first spare
  module _ (unawaited : AreUnawaited s) (spare : 0 < length s.spares) (x : ℕ) (there : x < length input.items) (relocated : is_relocated input x ≡ true) (unmoved : spot_at s.spots x ≡ spot_at input.spots x) (awaited : 0 < length (queue_at s.waiting (spot_at input.spots x).disk.0)) where
    abbrev parked : PlanState
    parked = shifted s x 0

    within : x < length s.spots
    within = omega (arith, there, st.placed.len)

    disk_there_now : (spot_at input.spots x).disk.0 < length input.disks
    disk_there_now = spot_disk input.disks (spot_at input.spots x) (is.on_disks x no_spot (omega (arith, there, is.spots_len)))

    not_none : queue_at s.waiting (spot_at input.spots x).disk.0 ≡ [] → ⊥
    not_none none = absurd (omega (arith, awaited, ap (λ (q : List ItemId). length q) none))

    away : IsOnNext input s.spots x → ⊥
    away on_next = relocated_apart input x relocated (ap (λ (y : Spot). y.disk.0) (sym unmoved) ∙ on_next)

    none_there : queue_at s.waiting (spot_at s.spares 0).disk.0 ≡ []
    none_there = unawaited 0 spare

    far : (spot_at s.spares 0).disk.0 ≢ target input x
    far e = someone_waits s.waiting (target input x) (record { 0 = x }) (st.queues.everyone x there away) (ap (queue_at s.waiting) (sym e) ∙ none_there)

    none_yet : shift_count s.rounds x ≡ 0
    none_yet = grind (arith, not_none, away)

    pub IsSound-parked : IsSoundState input parked
    IsSound-parked = record {
      reaches = reaches_more input is s.spots s.spares x 0 st.placed there spare s.rounds st.reaches;
      placed = placed_more input is s.spots s.spares x 0 st.placed there spare;
      enough = enough_more input is s.spots s.spares x 0 st.placed there spare st.enough;
      queues = AreQueues-parked input s.spots s.waiting x (spot_at s.spares 0) st.queues within far away;
      history = λ item l. elim (cases_eq item x) [
        | inl at ↦ subst (λ i. History input parked i) (sym at) (history_parked input s.spots s.rounds (shift_to s.spots s.spares x 0) s parked within refl refl refl refl relocated (tight input is s st unawaited (spot_at input.spots x).disk.0 disk_there_now awaited) far none_there none_yet)
        | inr off ↦ history_other input s.spots s.rounds (shift_to s.spots s.spares x 0) s parked within refl refl refl refl (λ u e. e) item off (st.history item l)
      ];
    }

    pub moved_now : spot_at (set s.spots x (spot_at s.spares 0)) x ≢ spot_at input.spots x
    moved_now e = not_none (ap (λ (y : Spot). queue_at s.waiting y.disk.0) (sym e ∙ get_or-set_same s.spots x (spot_at s.spares 0) no_spot within) ∙ none_there)

    pub Preserves-parked : Preserves input 0 s parked
    Preserves-parked = grind (arith, length-set, get_or-set_other, no_spot, cases_eq, spot_other)

-- the same as the code reads it
module _ (input : InputLists) (is : IsInput input) (s : PlanState) (st : IsSoundState input s) (h : ℕ) (spare : h < length s.spares) (read : Spot) (at_spare : read ≡ get_or s.spares h read) where
  read_is : read ≡ spot_at s.spares h
  read_is = get_or_read s.spares h read spare at_spare no_spot

  pub queue_there : read.disk.0 < length s.waiting
  queue_there = omega (arith, st.queues.len, ap (λ (x : Spot). x.disk.0) read_is, spot_disk input.disks (spot_at s.spares h) (st.placed.spares_there h no_spot spare))

  pub read_queue : (queue : List ItemId) → queue ≡ get_or s.waiting read.disk.0 queue → queue ≡ queue_at s.waiting (spot_at s.spares h).disk.0
  read_queue queue at = get_or_read s.waiting read.disk.0 queue queue_there at [] ∙ ap (λ (x : Spot). queue_at s.waiting x.disk.0) read_is

  module _ (queue rest : List ItemId) (x : ItemId) (at : queue ≡ get_or s.waiting read.disk.0 queue) (cut : queue ≡ rest ++ x ∷ []) where
    was : queue_at s.waiting (spot_at s.spares h).disk.0 ≡ rest ++ x ∷ []
    was = sym (read_queue queue at) ∙ cut

    pub item_there_read : x.0 < length s.spots
    item_there_read = item_there input is s st h spare x rest was

    abbrev next_at : ℕ → PlanState
    next_at d = shifted (record { spots = s.spots; spares = s.spares; waiting = set s.waiting d rest; rounds = s.rounds }) x.0 h

    pub IsSound-read : IsSoundState input (next_at read.disk.0)
    IsSound-read = subst (λ (y : Spot). IsSoundState input (next_at y.disk.0)) (sym read_is) (IsSound-filled input is s st h spare x rest was)

    pub Preserves-read : Preserves input h s (next_at read.disk.0)
    Preserves-read = subst (λ (y : Spot). Preserves input h s (next_at y.disk.0)) (sym read_is) (Preserves-filled input is s st h spare x rest was)

-- The steps of commands over a store are exact, where it tells the cells that decide and those that copies in flight read.
use Rattle.mig_top.proofs.Common.{All, All-contains, CanTake, Cell, Contains, Gate, Head, IfSome, Image, IsFillCell, IsFillRefusal, IsFillable, IsFirstLost, IsFirstTaken, IsFirstUsed, IsInput}
use Rattle.mig_top.proofs.Common.{InputLists, IsJobCell, IsLanded, IsPlanSpot, IsReady, IsResumeRefusal, IsShownFault, IsSome, IsStandRefusal, IsStartRefusal, IsUnused, List, MoveFault, None, Occupied, Option}
use Rattle.mig_top.proofs.Common.{Outcome, Runs, Some, Spot, Started, State, Task, Tells, TellsStill, ap, arith, code, false, false≢true, fault_outcome, fills, flights, get_or, get_or_from_slice_get}
use Rattle.mig_top.proofs.Common.{inl, inr, is_armed, is_one, is_slot, item_cell, length, no_spot, refl, resumes, shifted_named, shifts_of, slice_get-get_or, slice_get_within, slot_of, stands, starts}
use Rattle.mig_top.proofs.Common.{subst, sym, target_named, true, ℕ, ⊎_elim, ◌<◌, ◌∙◌, ◌≡◌, ◌⊎◌}
use Rattle.mig_mover.proofs.LandedImages.{journal_landed, one_image, told_landed}
use Rattle.mig_mover.specs.Moves.{IsRefusal}
use Rattle.mig_top.proofs.Steps.{IsExact}
use Rattle.mig_mover.specs.declared.faults.MoveFault.TheVariants as fault

module _ (store : State) (sources : All (λ c. IsSome (store.reads c.from)) (flights store)) where
  -- what a step that stops by one of these refusals shows, it shows in each such image
  pub shown_at : {input : InputLists} {Shows : Image → MoveFault → Type 0} {o : Outcome} (image : Image) → IsLanded store image → (h : IsShownFault input store Shows o) → Shows image h.fault
  shown_at {Shows = Shows} image landed h = subst (λ (im : Image). Shows im h.fault) (one_image store sources h.image image h.landed landed) h.shows

  pub shown_one : {input : InputLists} {Shows : Image → MoveFault → Type 0}
      → ((image : Image) → IsLanded store image → (f g : MoveFault) → Shows image f → Shows image g → code (fault_outcome input f) ≡ code (fault_outcome input g))
      → (o p : Outcome) → IsShownFault input store Shows o → IsShownFault input store Shows p → code o ≡ code p
  shown_one one o p h k = ap code h.is ∙ one h.image h.landed h.fault k.fault h.shows (shown_at h.image h.landed k) ∙ sym (ap code k.is)

-- bytes that are told aren't both so and otherwise
told_apart : {P Q : List ℕ → Type 0} (o : Option (List ℕ)) → IsSome o → IfSome o P → IfSome o Q → ((bytes : List ℕ) → P bytes → Q bytes → ⊥) → ⊥
told_apart None told p q apart = false≢true told
told_apart (Some bytes) told p q apart = apart bytes p q

-- `fill`

module _ (input : InputLists) (image : Image) (told : Tells (IsFillCell input) image) where
  not_taken : (spot : Spot) → IsFillable input image → IsFirstTaken input image spot → ⊥
  not_taken spot fillable taken =
      let within = slice_get_within input.spots taken.item spot taken.listed in
      let here = get_or_from_slice_get input.spots taken.item spot spot taken.listed in
      let unused : IsUnused input image spot = subst (λ (s : Spot). IsUnused input image s) here (fillable.unused taken.item spot within) in
      told_apart (image (slot_of input spot)) (told (slot_of input spot) (inr (spot, (taken.item, within, here), refl))) taken.used unused (λ slot p q. q p)

  fill_not_both : (fault : MoveFault) → IsFillable input image → IsFillRefusal input image fault → ⊥
  fill_not_both Started fillable running = false≢true (sym fillable.idle ∙ running (told _ (inl refl)))
  fill_not_both (Occupied disk slot) fillable h = not_taken (record { disk = disk; slot = slot }) fillable h.1
  fill_not_both _ fillable h = absurd h

  one_fill_refusal : (f g : MoveFault) → IsFillRefusal input image f → IsFillRefusal input image g → code (fault_outcome input f) ≡ code (fault_outcome input g)
  one_fill_refusal Started Started h k = refl
  one_fill_refusal Started (Occupied disk slot) h k = absurd (false≢true (sym k.0 ∙ h (told _ (inl refl))))
  one_fill_refusal Started _ h k = absurd k
  one_fill_refusal (Occupied disk slot) Started h k = absurd (false≢true (sym h.0 ∙ k (told _ (inl refl))))
  one_fill_refusal (Occupied disk slot) (Occupied other place) h k = refl
  one_fill_refusal (Occupied disk slot) _ h k = absurd k
  one_fill_refusal _ g h k = absurd h

pub fills_exact : (input : InputLists) (store : State) → TellsStill (IsFillCell input) store → IsExact (fills input store)
fills_exact input store tells =
    record { one_found = λ a b h k. refl; not_both = apart; one_stop = shown_one store tells.sources (λ image landed. one_fill_refusal input image (told image landed)) }
  where
    told : (image : Image) → IsLanded store image → Tells (IsFillCell input) image
    told image landed = told_landed store image landed (IsFillCell input) tells.cells

    apart : (u : Unit {0}) (o : Outcome) → (fills input store).Passes u → (fills input store).Stops o → ⊥
    apart u o (image, landed, fillable) h = fill_not_both input image (told image landed) h.fault fillable (shown_at store tells.sources image landed h)

-- `halt`

-- a journal that names the plan isn't one of another
other_apart : (task : Task) (image : Image) (kept ours : List ℕ) → IsSome (image Head) → IfSome (image Head) (λ k. k ≡ task.digest) → IsRefusal task image (fault.OtherPlan kept ours) → ⊥
other_apart task image kept ours head same h = told_apart (image Head) head same h.1 (λ k p q. h.2 (q ∙ p))

-- and isn't refused
pub named_refused : (task : Task) (image : Image) → is_armed image ≡ true → IsSome (image Head) → IfSome (image Head) (λ kept. kept ≡ task.digest) → (f : MoveFault) → IsStandRefusal task image f → ⊥
named_refused task image armed head ours fault.NotStarted h = false≢true (sym h ∙ armed)
named_refused task image armed head ours (fault.OtherPlan kept plan) h = other_apart task image kept plan head ours h
named_refused task image armed head ours _ h = absurd h

module _ (task : Task) (store : State) (tells : TellsStill (IsJobCell task.input task.plan) store) where
  status : (image : Image) (f : MoveFault) → IsStandRefusal task image f → code (fault_outcome task.input f) ≡ 8
  status image fault.NotStarted h = refl
  status image (fault.OtherPlan kept ours) h = refl
  status image _ h = absurd h

  pub stands_exact : IsExact (stands task store)
  stands_exact =
      record {
        one_found = λ a b h k. h.found.found tells.cells tells.slots ∙ sym (k.found.found tells.cells tells.slots);
        not_both = apart;
        one_stop = shown_one store tells.sources (λ image landed f g h k. status image f h ∙ sym (status image g k));
      }
    where
      apart : (k : ℕ) (o : Outcome) → (stands task store).Passes k → (stands task store).Stops o → ⊥
      apart k o passes h =
          let same = journal_landed store h.image h.landed tells.slots in
          let armed = ap is_one (same Gate refl) ∙ passes.running tells.slots (tells.cells Gate (inl (inr (inl refl)))) in
          let head : h.image Head ≡ store.reads Head = same Head refl in
          named_refused task h.image armed (told_landed store h.image h.landed (IsJobCell task.input task.plan) tells.cells Head (inl (inl refl)))
          (subst (λ (cell : Option (List ℕ)). IfSome cell (λ kept. kept ≡ task.digest)) (sym head) (passes.ours tells.slots))
          h.fault h.shows

-- `move` and `resume`

module _ (task : Task) (valid : IsInput task.input) (runs : Runs task.input task.plan) (image : Image) (told : Tells (IsJobCell task.input task.plan) image) where
  gate : IsSome (image Gate)
  gate = told Gate (inl (inr (inl refl)))

  head : IsSome (image Head)
  head = told Head (inl (inl refl))

  -- an item that is there isn't lost
  not_lost : (item : ℕ) → IsReady task.input task.plan image → IsFirstLost task.input task.plan image item → ⊥
  not_lost item ready lost =
      let within : item < length task.input.spots = omega (arith, lost.in_range, valid.spots_len) in
      let spot = get_or task.input.spots item no_spot in
      let named = shifted_named task.input task.plan runs item spot (slice_get-get_or task.input.spots item no_spot within) lost.shifted in
      told_apart (image (item_cell task.input item)) (told (item_cell task.input item) (inr (spot, named, refl))) (ready.there item lost.in_range lost.shifted) lost.lost (λ slot p q. q p)

  -- a target that can be taken isn't used
  not_used : (spot : Spot) → IsReady task.input task.plan image → IsFirstUsed task.input task.plan image spot → ⊥
  not_used spot ready used =
      let shifts = shifts_of task.plan in
      let within = slice_get_within shifts used.place used.shift used.at in
      let has : Contains shifts used.shift = (used.place, within, get_or_from_slice_get shifts used.place used.shift used.shift used.at) in
      let take = All-contains (CanTake task.input image) shifts used.shift ready.unused has in
      let free = subst (λ (s : Spot). ¬ Contains task.input.spots s) (sym used.target) used.free in
      let unused : IsUnused task.input image spot = subst (λ (s : Spot). IsUnused task.input image s) used.target (take free) in
      told_apart (image (slot_of task.input spot))
      (told (slot_of task.input spot) (inr (spot, subst (IsPlanSpot task.plan) used.target (target_named task.plan used.shift has), refl))) used.used unused (λ slot p q. q p)

  -- where a journal whose gate is 1 names the plan, and the image is ready where it isn't, no resumption is refused
  pub resume_apart : (is_armed image ≡ true → IfSome (image Head) (λ kept. kept ≡ task.digest)) → (is_armed image ≡ false → IsReady task.input task.plan image) → (f : MoveFault)
      → IsResumeRefusal task image f → ⊥
  resume_apart named ready (fault.OtherPlan kept ours) h = other_apart task image kept ours head (named (h.0 gate)) h
  resume_apart named ready (fault.NotThere item) h = not_lost item.0 (ready h.0) h.1
  resume_apart named ready (fault.Occupied disk slot) h = not_used (record { disk = disk; slot = slot }) (ready h.0) h.2
  resume_apart named ready _ h = absurd h

  -- and where it is ready, no start
  pub start_apart : IsReady task.input task.plan image → (f : MoveFault) → IsStartRefusal task image f → ⊥
  start_apart ready fault.NotStarted h = absurd h
  start_apart ready fault.Started h = false≢true (sym ready.idle ∙ h.0 gate)
  start_apart ready f h = resume_apart (λ armed. absurd (false≢true (sym ready.idle ∙ armed))) (λ idle. ready) f h

  -- a refusal that says that the gate is 1 has one status, and one that says that it isn't has another
  code_told : (f : MoveFault) → IsStartRefusal task image f → ((code (fault_outcome task.input f) ≡ 8) × (is_armed image ≡ true)) ⊎ ((code (fault_outcome task.input f) ≡ 9) × (is_armed image ≡ false))
  code_told fault.Started h = inl (refl, h.0 gate)
  code_told (fault.OtherPlan kept ours) h = inl (refl, h.0 gate)
  code_told (fault.NotThere item) h = inr (refl, h.0)
  code_told (fault.Occupied disk slot) h = inr (refl, h.0)
  code_told _ h = absurd h

  -- so refusals that are shown at once have one
  one_start : (f g : MoveFault) → IsStartRefusal task image f → IsStartRefusal task image g → code (fault_outcome task.input f) ≡ code (fault_outcome task.input g)
  one_start f g h k = elim (code_told f h) [
    | inl a ↦ ⊎_elim (λ b. a.0 ∙ sym b.0) (λ b. absurd (false≢true (sym b.1 ∙ a.1))) (code_told g k)
    | inr a ↦ ⊎_elim (λ b. absurd (false≢true (sym a.1 ∙ b.1))) (λ b. a.0 ∙ sym b.0) (code_told g k)
  ]

  -- what refuses a resumption refuses a start too
  resume_starts : (f : MoveFault) → IsResumeRefusal task image f → IsStartRefusal task image f
  resume_starts fault.NotStarted h = absurd h
  resume_starts fault.Started h = absurd h
  resume_starts _ h = h

module _ (task : Task) (store : State) (valid : IsInput task.input) (runs : Runs task.input task.plan) (tells : TellsStill (IsJobCell task.input task.plan) store) where
  gate_told : IsSome (store.reads Gate)
  gate_told = gate task valid runs store.reads tells.cells

  -- what reads give once each copy in flight has ended
  told : (image : Image) → IsLanded store image → Tells (IsJobCell task.input task.plan) image
  told image landed = told_landed store image landed (IsJobCell task.input task.plan) tells.cells

  pub starts_exact : IsExact (starts task store)
  starts_exact =
      record { one_found = λ a b h k. refl; not_both = apart; one_stop = shown_one store tells.sources (λ image landed. one_start task valid runs image (told image landed)) }
    where
      apart : (u : Unit {0}) (o : Outcome) → (starts task store).Passes u → (starts task store).Stops o → ⊥
      apart u o passes h =
          let (image, landed, ready) = passes tells.slots gate_told in
          start_apart task valid runs image (told image landed) ready h.fault (shown_at store tells.sources image landed h)

  pub resumes_exact : IsExact (resumes task store)
  resumes_exact = record { one_found = λ a b h k. h.found tells.cells tells.slots ∙ sym (k.found tells.cells tells.slots); not_both = apart; one_stop = shown_one store tells.sources one }
    where
      one : (image : Image) → IsLanded store image → (f g : MoveFault) → IsResumeRefusal task image f → IsResumeRefusal task image g
          → code (fault_outcome task.input f) ≡ code (fault_outcome task.input g)
      one image landed f g h k =
          let there = told image landed in
          one_start task valid runs image there f g (resume_starts task valid runs image there f h) (resume_starts task valid runs image there g k)

      apart : (k : ℕ) (o : Outcome) → (resumes task store).Passes k → (resumes task store).Stops o → ⊥
      apart k o passes h = resume_apart task valid runs h.image (told h.image h.landed) named ready h.fault h.shows
        where
          same : (cell : Cell) → is_slot cell ≡ false → h.image cell ≡ store.reads cell
          same = journal_landed store h.image h.landed tells.slots

          named : is_armed h.image ≡ true → IfSome (h.image Head) (λ kept. kept ≡ task.digest)
          named armed =
              let head : h.image Head ≡ store.reads Head = same Head refl in
              subst (λ (cell : Option (List ℕ)). IfSome cell (λ kept. kept ≡ task.digest)) (sym head) (passes.ours tells.slots gate_told (sym (ap is_one (same Gate refl)) ∙ armed))

          -- a slot's refusal comes where the gate isn't 1, and there the store was ready
          ready : is_armed h.image ≡ false → IsReady task.input task.plan h.image
          ready idle =
              let (image, landed, so) = passes.ready tells.slots (sym (ap is_one (same Gate refl)) ∙ idle) gate_told in
              subst (IsReady task.input task.plan) (one_image store tells.sources image h.image landed h.landed) so

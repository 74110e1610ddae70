-- Where a migration begins and ends: images before the first round, after the last, and once it is halted.
use Rattle.mig_base.proofs.Common.{All, All-contains, AreFreeZeros, At, Bool, Contents, Gate, HasContents, Head, Image, IsFreeSlot, IsHaltSafe, IsInput, IsNamed, IsReached, IsSafe, IsSafeAfter}
use Rattle.mig_base.proofs.Common.{InputLists, IsSafeAt, IsSound, IsSoundAfter, IsSource, IsTaken, List, Mark, Runs, SameBut, Shift, Some, Spot, ap, arith, cases_Bool, cases_eq, cases_lt, false}
use Rattle.mig_base.proofs.Common.{false≢true, inl, inr, is_armed, is_marked, is_one, length, refl, round_at, slice_get-get_or, slot_of, subst, suc, sym, true, zero, zeros, ℕ, ⊎_elim, ◌+◌, ◌-◌}
use Rattle.mig_base.proofs.Common.{◌<◌, ◌∙◌, ◌≡◌, ◌≤◌, ◌⊎◌}
use Rattle.mig_base.proofs.Rounds.{contains_any, any_contains, in_some, moved_cases, at_target, leaves, cases_source}
use Rattle.mig_base.proofs.MarkCounts.{AreMarked, counted, count_is, count_idle}
use Rattle.mig_base.proofs.SafetyLaws.{slot_apart, now_on_disks, layout_at, source_facts, no_round, target_facts}

-- whatever the marks hold that count, an image with the gate not 1 is sound where the items are where they were
pub idle_sound : (asked : Bool) (input : InputLists) (plan : List (List Shift)) (digest : List ℕ) (contents : Contents) (image : Image) → HasContents input (At input plan 0) contents image → is_armed image ≡ false → IsSound asked input plan digest contents image
idle_sound asked input plan digest contents image stand idle = record {
  safe = subst (IsSafeAt input plan digest contents image) (sym (count_idle (length plan) image idle)) (record {
    stand = stand;
    head = λ armed. absurd (false≢true (sym idle ∙ armed));
    marks = λ armed n past most. absurd (false≢true (sym idle ∙ armed));
  });
  clean = λ is armed. absurd (false≢true (sym idle ∙ armed));
}

-- and what stands while the gate isn't 1 is where the items are now
pub idle_stand : (input : InputLists) (plan : List (List Shift)) (digest : List ℕ) (contents : Contents) (image : Image) → IsSafe input plan digest contents image → is_armed image ≡ false → HasContents input (At input plan 0) contents image
idle_stand input plan digest contents image safe idle = (subst (IsSafeAt input plan digest contents image) (count_idle (length plan) image idle) safe).stand

-- before the first round: the items are where they were, the gate is 1, and no mark is
pub fresh_sound : (asked : Bool) (input : InputLists) (plan : List (List Shift)) (digest : List ℕ) (contents : Contents) (image : Image) → HasContents input (At input plan 0) contents image
    → is_armed image ≡ true → image Head ≡ Some digest → ((n : ℕ) → 1 ≤ n → n ≤ length plan → is_marked image n ≡ false) → IsSoundAfter asked input plan digest contents image 0
fresh_sound asked input plan digest contents image stand armed head marks = record {
  after = record {
    armed = armed;
    count = count_is (length plan) image armed 0 (record { most = omega arith; each = λ n low high. absurd (omega arith); next = λ lt. marks 1 (omega arith) (omega arith) });
    safe = record { stand = stand; head = λ again. head; marks = λ again n past most. marks n (omega arith) most };
  };
  clean = λ is. λ spot vacated. absurd (let h = vacated.earlier in omega arith);
}

module _ (input : InputLists) (valid : IsInput input) (plan : List (List Shift)) (runs : Runs input plan) where
  -- a named spot is on a disk
  pub named_on_disk : (spot : Spot) → IsNamed input plan spot → spot.disk.0 < length input.disks
  named_on_disk spot (inl now) = now_on_disks input valid now.0 spot (slice_get-get_or input.spots now.0 spot now.1 ∙ ap Some now.2)
  named_on_disk spot (inr (zero, inl source)) = absurd (let none = source.2 in omega arith)
  named_on_disk spot (inr (zero, inr target)) = absurd (let none = target.2 in omega arith)
  named_on_disk spot (inr (suc r, inl source)) = elim (cases_lt r (length plan)) [
    | inl lt ↦ (source_facts input valid plan runs (suc r) spot (omega arith) source).0
    | inr past ↦ absurd (let empty = no_round input valid plan runs r past in let lt = source.2 in omega arith)
  ]
  named_on_disk spot (inr (suc r, inr target)) = (target_facts input valid plan runs r spot target).1

  -- a spot that is taken after k rounds and free after n more was left in one of them
  left_later : (n k : ℕ) (spot : Spot) → k + n ≤ length plan → IsTaken (At input plan k) spot → (IsTaken (At input plan (k + n)) spot → ⊥) → (r : ℕ) × (r ≤ k + n) × IsSource plan r spot
  left_later zero k spot le taken free = absurd (free (subst (λ (j : ℕ). IsTaken (At input plan j) spot) (let e : k ≡ k + zero = omega arith in e) taken))
  left_later (suc n) k spot le taken free = elim (cases_source (round_at plan (suc k)) spot) [
    | inl source ↦ (suc k, omega arith, source)
    | inr not ↦ later (left_later n (suc k) spot (omega arith) (stays not) (λ at. free (subst (λ (j : ℕ). IsTaken (At input plan j) spot) (let e : suc k + n ≡ k + suc n = omega arith in e) at)))
  ]
    where
      later : ((r : ℕ) × (r ≤ suc k + n) × IsSource plan r spot) → (r : ℕ) × (r ≤ k + suc n) × IsSource plan r spot
      later (r, le_r, source) = (r, omega arith, source)

      stays : (IsSource plan (suc k) spot → ⊥) → IsTaken (At input plan (suc k)) spot
      stays not = (
        taken.0,
        ⊎_elim
            (λ last. absurd (not (any_contains (λ (s : Shift). s.from ≡ spot) (round_at plan (suc k)) last.0 last.1
            (in_some last.0.from spot (sym (leaves input (At input plan k) (round_at plan (suc k)) (runs.rounds k (omega arith)) last.0 last.1) ∙ ap (λ (j : ℕ). At input plan k j) last.2 ∙ taken.1)))))
            (λ none. none.1 ∙ taken.1)
            (moved_cases (At input plan k) (round_at plan (suc k)) taken.0),
      )

  -- a named spot that is free at the end was left
  named_left : (spot : Spot) → IsNamed input plan spot → (IsTaken (At input plan (length plan)) spot → ⊥) → (r : ℕ) × (r ≤ length plan) × IsSource plan r spot
  named_left spot (inl now) free =
      let found = left_later (length plan) 0 spot (omega arith) (now.0, slice_get-get_or input.spots now.0 spot now.1 ∙ ap Some now.2)
      (λ at. free (subst (λ (j : ℕ). IsTaken (At input plan j) spot) (let e : 0 + length plan ≡ length plan = omega arith in e) at)) in
      (found.0, let h = found.1 in omega arith, found.2)
  named_left spot (inr (zero, inl source)) free = absurd (let none = source.2 in omega arith)
  named_left spot (inr (suc r, inl source)) free = elim (cases_lt r (length plan)) [
    | inl lt ↦ (suc r, omega arith, source)
    | inr past ↦ absurd (let empty = no_round input valid plan runs r past in let lt = source.2 in omega arith)
  ]
  named_left spot (inr (zero, inr target)) free = absurd (let none = target.2 in omega arith)
  named_left spot (inr (suc r, inr target)) free =
      let lt = (target_facts input valid plan runs r spot target).0 in
      let legal = runs.rounds r lt in
      let has = contains_any (λ (s : Shift). s.to ≡ spot) (round_at plan (suc r)) target in
      let found = left_later (length plan - suc r) (suc r) spot (omega arith)
      (target.1.item.0, at_target input (At input plan r) (round_at plan (suc r)) legal target.1 has ∙ ap Some target.4)
      (λ at. free (subst (λ (j : ℕ). IsTaken (At input plan j) spot) (let e : suc r + (length plan - suc r) ≡ length plan = omega arith in e) at)) in
      (found.0, let h = found.1 in omega arith, found.2)

  module _ (digest : List ℕ) (contents : Contents) where
    -- once all rounds are marked and the last sources are zeros, the target is reached
    pub reached : (image : Image) → IsSoundAfter true input plan digest contents image (length plan) → All (λ s. image (slot_of input s.from) ≡ Some zeros) (round_at plan (length plan)) → IsReached input plan digest contents image
    reached image at erased = record {
      arrived = at.after;
      zeros = λ spot named free. zeros_at spot free (named_left spot named free) (cases_source (round_at plan (length plan)) spot);
    }
      where
        before : (r : ℕ) (spot : Spot) → r ≤ length plan → IsSource plan r spot → (IsSource plan (length plan) spot → ⊥) → (r ≡ length plan) ⊎ (r ≡ length plan → ⊥) → r < length plan
        before r spot le source not (inl last) = absurd (not (subst (λ (j : ℕ). IsSource plan j spot) last source))
        before r spot le source not (inr other) = omega arith

        zeros_at : (spot : Spot) → (IsTaken (At input plan (length plan)) spot → ⊥) → ((r : ℕ) × (r ≤ length plan) × IsSource plan r spot) → IsSource plan (length plan) spot ⊎ (IsSource plan (length plan) spot → ⊥) → image (slot_of input spot) ≡ Some zeros
        zeros_at spot free found (inl last) = ap (λ (p : Spot). image (slot_of input p)) (sym last.4)
            ∙ All-contains (λ (s : Shift). image (slot_of input s.from) ≡ Some zeros) (round_at plan (length plan)) last.1 erased (contains_any (λ (s : Shift). s.from ≡ spot) (round_at plan (length plan)) last)
        zeros_at spot free (r, le, source) (inr not) = at.clean refl spot (record {
          round = r;
          earlier = before r spot le source not (cases_eq r (length plan));
          left = source;
          free = free;
          not_source = not;
          not_target = λ target. let lt = (target_facts input valid plan runs (length plan) spot target).0 in omega arith;
        })

    -- what is reached is sound
    pub reached_sound : (image : Image) → IsReached input plan digest contents image → IsSoundAfter true input plan digest contents image (length plan)
    reached_sound image is = record {
      after = is.arrived;
      clean = λ yes. λ spot vacated. is.zeros spot (inr (vacated.round, inl vacated.left)) vacated.free;
    }

    module _ (k : ℕ) (most : k ≤ length plan) where
      -- no item has a free slot
      apart : (item : ℕ) (spot : Spot) → At input plan k item ≡ Some spot → IsFreeSlot input plan k (slot_of input spot) → ⊥
      apart item spot at (other, named, free, same) =
          free (item, at ∙ ap Some (sym (slot_apart input valid other spot (named_on_disk other named) ((layout_at input valid plan runs k most).on_disks item spot at) same)))

      -- other bytes in the free slots lose no item
      pub free_bytes : (old new : Image) → SameBut (IsFreeSlot input plan k) old new → IsSafeAfter input plan digest contents old k → IsSafeAfter input plan digest contents new k
      free_bytes old new same was = record {
        armed = armed;
        count = count_is (length plan) new armed k (record {
          most = most;
          each = λ n low high. ap is_one (mark n) ∙ marks.each n low high;
          next = λ lt. ap is_one (mark (suc k)) ∙ marks.next lt;
        });
        safe = record {
          stand = λ item spot at. same.same (slot_of input spot) (apart item spot at) ∙ was.safe.stand item spot at;
          head = λ again. same.same Head (λ f. let e = f.3 in cc) ∙ was.safe.head was.armed;
          marks = λ again n past le. ap is_one (mark n) ∙ was.safe.marks was.armed n past le;
        };
      }
        where
          armed : is_armed new ≡ true
          armed = ap is_one (same.same Gate (λ f. let e = f.3 in cc)) ∙ was.armed

          mark : (n : ℕ) → new (Mark n) ≡ old (Mark n)
          mark n = same.same (Mark n) (λ f. let e = f.3 in cc)

          marks : AreMarked (length plan) old k
          marks = subst (AreMarked (length plan) old) was.count (counted (length plan) old was.armed)

      -- whatever the gate holds, once the free slots are zeros
      pub gate_bytes : (old new : Image) → SameBut (λ c. c ≡ Gate) old new → IsSafeAfter input plan digest contents old k → AreFreeZeros input plan old k → IsHaltSafe input plan digest contents new k
      gate_bytes old new same was free = at (cases_Bool (is_armed new))
        where
          stand : HasContents input (At input plan k) contents new
          stand item spot at_k = same.same (slot_of input spot) (λ e. cc) ∙ was.safe.stand item spot at_k

          mark : (n : ℕ) → is_marked new n ≡ is_marked old n
          mark n = ap is_one (same.same (Mark n) (λ e. cc))

          marks : AreMarked (length plan) old k
          marks = subst (AreMarked (length plan) old) was.count (counted (length plan) old was.armed)

          at : (is_armed new ≡ true) ⊎ (is_armed new ≡ false) → IsHaltSafe input plan digest contents new k
          at (inl armed) = inl (record {
            armed = armed;
            count = count_is (length plan) new armed k (record { most = most; each = λ n low high. mark n ∙ marks.each n low high; next = λ lt. mark (suc k) ∙ marks.next lt });
            safe = record {
              stand = stand;
              head = λ again. same.same Head (λ e. cc) ∙ was.safe.head was.armed;
              marks = λ again n past le. mark n ∙ was.safe.marks was.armed n past le;
            };
          })
          at (inr idle) = inr (record { idle = idle; stand = stand; zeros = λ spot named not. same.same (slot_of input spot) (λ e. cc) ∙ free spot named not })

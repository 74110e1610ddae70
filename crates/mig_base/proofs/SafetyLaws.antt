-- What the images that a migration may leave keep, round by round, by the definitions alone.
use Rattle.mig_base.proofs.Common.{All-contains, At, Bool, Contains, Contents, Gate, Head, Image, IsCleanAt, IsCopied, IsInUse, IsInput, IsLayout, IsLegal, IsSafeAt, IsSound, IsSoundAfter}
use Rattle.mig_base.proofs.Common.{InputLists, IsSource, IsSpotOf, IsTaken, IsTarget, IsVacated, List, Mark, Runs, SameBut, Shift, Some, Spot, [], after_shifts, ap, arith, cases_eq, cases_lt, disk_at}
use Rattle.mig_base.proofs.Common.{false, get_or_from_slice_get, get_or_past, inl, inr, is_armed, is_marked, is_one, length, no_disk, round_at, slice_get, slice_get_within, slot_of, subst, suc}
use Rattle.mig_base.proofs.Common.{sym, true, zero, zeros, ℕ, ⊎_elim, ◌<◌, ◌∙◌, ◌≡◌, ◌≤◌, ◌⊎◌}
use Rattle.mig_base.proofs.Listed.{one_place}
use Rattle.mig_base.proofs.Rounds.{contains_any, any_contains, in_some, spot_disk, moved_cases, at_target, leaves, to_disk, from_disk, source_free, target_free, layout_kept, cases_source}
use Rattle.mig_base.proofs.MarkCounts.{AreMarked, counted, count_is}

module _ (input : InputLists) (valid : IsInput input) where
  -- different spots are different cells
  pub slot_apart : (p q : Spot) → p.disk.0 < length input.disks → q.disk.0 < length input.disks → slot_of input p ≡ slot_of input q → p ≡ q
  slot_apart p q lt_p lt_q same =
      let names : (disk_at input.disks p.disk.0).name ≡ (disk_at input.disks q.disk.0).name = cc in
      let slots : p.slot ≡ q.slot = cc in
      let disks : p.disk.0 ≡ q.disk.0 = one_disk names in
      λ i. record { disk = record { 0 = disks i }; slot = slots i }
    where
      one_disk : (disk_at input.disks p.disk.0).name ≡ (disk_at input.disks q.disk.0).name → p.disk.0 ≡ q.disk.0
      one_disk names = elim (cases_lt p.disk.0 q.disk.0) [
        | inl before ↦ absurd (valid.disk_names p.disk.0 q.disk.0 no_disk before lt_q names)
        | inr ge ↦ elim (cases_lt q.disk.0 p.disk.0) [
          | inl after ↦ absurd (valid.disk_names q.disk.0 p.disk.0 no_disk after lt_p (sym names))
          | inr le ↦ omega arith
        ]
      ]

  -- a spot of now is on a disk
  pub now_on_disks : (item : ℕ) (spot : Spot) → slice_get input.spots item ≡ Some spot → spot.disk.0 < length input.disks
  now_on_disks item spot at =
      let within = slice_get_within input.spots item spot at in
      spot_disk input.disks spot (All-contains (IsSpotOf input.disks) input.spots spot valid.on_disks (item, within, get_or_from_slice_get input.spots item spot spot at))

  module _ (plan : List (List Shift)) (runs : Runs input plan) where
    -- each item has a spot of its own after any rounds
    pub layout_at : (k : ℕ) → k ≤ length plan → IsLayout input (At input plan k)
    layout_at zero le = record {
      on_disks = now_on_disks;
      apart = λ i j spot at_i at_j. one_place input.spots i j spot valid.spots_apart at_i at_j;
    }
    layout_at (suc k) le = layout_kept input (At input plan k) (round_at plan (suc k)) (runs.rounds k (omega arith)) (layout_at k (omega arith))

    -- a source of round k is on a disk, and nobody's spot after it
    pub source_facts : (k : ℕ) (spot : Spot) → k ≤ length plan → IsSource plan k spot → (spot.disk.0 < length input.disks) × (IsTaken (At input plan k) spot → ⊥)
    source_facts zero spot le source = absurd (let none = source.2 in omega arith)
    source_facts (suc k) spot le source =
        let legal = runs.rounds k (omega arith) in
        let layout = layout_at k (omega arith) in
        let has = contains_any (λ (s : Shift). s.from ≡ spot) (round_at plan (suc k)) source in (
          subst (λ (p : Spot). p.disk.0 < length input.disks) source.4 (from_disk input (At input plan k) (round_at plan (suc k)) legal layout source.1 has),
          λ taken. source_free input (At input plan k) (round_at plan (suc k)) legal layout source.1 has taken.0 (taken.1 ∙ ap Some (sym source.4)),
        )

    -- a round past the last has no shift
    pub no_round : (k : ℕ) → length plan ≤ k → length (round_at plan (suc k)) ≡ 0
    no_round k past = ap (λ (l : List Shift). length l) (get_or_past plan k [] past)

    -- a target of round k + 1 is on a disk, and nobody's spot before it
    pub target_facts : (k : ℕ) (spot : Spot) → IsTarget plan (suc k) spot → (k < length plan) × (spot.disk.0 < length input.disks) × (IsTaken (At input plan k) spot → ⊥)
    target_facts k spot target = elim (cases_lt k (length plan)) [
      | inl lt ↦ facts lt
      | inr past ↦ absurd (let empty = no_round k past in let lt = target.2 in omega arith)
    ]
      where
        has : Contains (round_at plan (suc k)) target.1
        has = contains_any (λ (s : Shift). s.to ≡ spot) (round_at plan (suc k)) target

        facts : k < length plan → (k < length plan) × (spot.disk.0 < length input.disks) × (IsTaken (At input plan k) spot → ⊥)
        facts lt = (
          lt,
          subst (λ (p : Spot). p.disk.0 < length input.disks) target.4 (to_disk input (At input plan k) (round_at plan (suc k)) (runs.rounds k lt) target.1 has),
          λ taken. target_free input (At input plan k) (round_at plan (suc k)) (runs.rounds k lt) target.1 has taken.0 (taken.1 ∙ ap Some (sym target.4)),
        )

    -- a slot in use around round k + 1 is nobody's after round k
    pub in_use_free : (k item : ℕ) (spot : Spot) → k ≤ length plan → At input plan k item ≡ Some spot → IsInUse input plan k (slot_of input spot) → ⊥
    in_use_free k item spot le at (inl (other, source, same)) =
        let facts = source_facts k other le source in
        facts.1 (item, at ∙ ap Some (sym (slot_apart other spot facts.0 ((layout_at k le).on_disks item spot at) same)))
    in_use_free k item spot le at (inr (other, target, same)) =
        let facts = target_facts k other target in
        facts.2 (item, at ∙ ap Some (sym (slot_apart other spot facts.1 ((layout_at k le).on_disks item spot at) same)))

    -- nor one that was vacated
    vacated_not_in_use : (k : ℕ) (spot : Spot) → k ≤ length plan → IsVacated input plan k spot → IsInUse input plan k (slot_of input spot) → ⊥
    vacated_not_in_use k spot le vacated (inl (other, source, same)) =
        let on_disk = (source_facts vacated.round spot (omega (arith, vacated.earlier)) vacated.left).0 in
        vacated.not_source (subst (IsSource plan k) (slot_apart other spot (source_facts k other le source).0 on_disk same) source)
    vacated_not_in_use k spot le vacated (inr (other, target, same)) =
        let on_disk = (source_facts vacated.round spot (omega (arith, vacated.earlier)) vacated.left).0 in
        vacated.not_target (subst (IsTarget plan (suc k)) (slot_apart other spot (target_facts k other target).1 on_disk same) target)

    module _ (digest : List ℕ) (contents : Contents) (k : ℕ) (k_most : k ≤ length plan) where
      -- Other bytes in the slots that are in use leave an image as sound.
      pub other_bytes : (asked : Bool) (old new : Image) → SameBut (IsInUse input plan k) old new → IsSoundAfter asked input plan digest contents old k → IsSoundAfter asked input plan digest contents new k
      other_bytes asked old new same was = record {
        after = record {
          armed = ap is_one gate ∙ was.after.armed;
          count = count_is (length plan) new (ap is_one gate ∙ was.after.armed) k (record {
            most = k_most;
            each = λ n low high. ap is_one (mark n) ∙ marks.each n low high;
            next = λ lt. ap is_one (mark (suc k)) ∙ marks.next lt;
          });
          safe = record {
            stand = λ item spot at. same.same (slot_of input spot) (in_use_free k item spot k_most at) ∙ was.after.safe.stand item spot at;
            head = λ armed. same.same Head (λ used. no_head used) ∙ was.after.safe.head was.after.armed;
            marks = λ armed n past most. ap is_one (mark n) ∙ was.after.safe.marks was.after.armed n past most;
          };
        };
        clean = λ is. λ spot vacated. same.same (slot_of input spot) (vacated_not_in_use k spot k_most vacated) ∙ was.clean is spot vacated;
      }
        where
          no_gate : IsInUse input plan k Gate → ⊥
          no_gate (inl used) = let e = used.2 in cc
          no_gate (inr used) = let e = used.2 in cc

          no_head : IsInUse input plan k Head → ⊥
          no_head (inl used) = let e = used.2 in cc
          no_head (inr used) = let e = used.2 in cc

          no_mark : (n : ℕ) → IsInUse input plan k (Mark n) → ⊥
          no_mark n (inl used) = let e = used.2 in cc
          no_mark n (inr used) = let e = used.2 in cc

          gate : new Gate ≡ old Gate
          gate = same.same Gate no_gate

          mark : (n : ℕ) → new (Mark n) ≡ old (Mark n)
          mark n = same.same (Mark n) (no_mark n)

          marks : AreMarked (length plan) old k
          marks = subst (AreMarked (length plan) old) was.after.count (counted (length plan) old was.after.armed)

      module _ (lt : k < length plan) where
        legal : IsLegal input (At input plan k) (round_at plan (suc k))
        legal = runs.rounds k lt

        -- a spot that is free after round k + 1 was free before it, unless that round left it
        was_free : (spot : Spot) → (IsTaken (At input plan (suc k)) spot → ⊥) → (IsSource plan (suc k) spot → ⊥) → IsTaken (At input plan k) spot → ⊥
        was_free spot free not_source (item, at) = ⊎_elim
            (λ last. not_source (any_contains (λ (s : Shift). s.from ≡ spot) (round_at plan (suc k)) last.0 last.1
            (in_some last.0.from spot (sym (leaves input (At input plan k) (round_at plan (suc k)) legal last.0 last.1) ∙ ap (λ (j : ℕ). At input plan k j) last.2 ∙ at))))
            (λ none. free (item, none.1 ∙ at))
            (moved_cases (At input plan k) (round_at plan (suc k)) item)

        not_reached : (spot : Spot) → (IsTaken (At input plan (suc k)) spot → ⊥) → IsTarget plan (suc k) spot → ⊥
        not_reached spot free target =
            let has = contains_any (λ (s : Shift). s.to ≡ spot) (round_at plan (suc k)) target in
            free (target.1.item.0, at_target input (At input plan k) (round_at plan (suc k)) legal target.1 has ∙ ap Some target.4)

        -- a spot that is vacated after round k + 1 was so before, or round k left it
        vacated_before : (spot : Spot) → IsVacated input plan (suc k) spot → IsSource plan k spot ⊎ IsVacated input plan k spot
        vacated_before spot vacated = elim (cases_source (round_at plan k) spot) [
          | inl source ↦ inl source
          | inr not ↦ inr (record {
            round = vacated.round;
            earlier = earlier not (cases_eq vacated.round k);
            left = vacated.left;
            free = was_free spot vacated.free vacated.not_source;
            not_source = not;
            not_target = not_reached spot vacated.free;
          })
        ]
          where
            earlier : (IsSource plan k spot → ⊥) → (vacated.round ≡ k) ⊎ (vacated.round ≡ k → ⊥) → vacated.round < k
            earlier not (inl last) = absurd (not (subst (λ (r : ℕ). IsSource plan r spot) last vacated.left))
            earlier not (inr other) = let h = vacated.earlier in omega arith

        module _ (old new : Image) (same : SameBut (λ cell. cell ≡ Mark (suc k)) old new) where
          slot_same : (spot : Spot) → new (slot_of input spot) ≡ old (slot_of input spot)
          slot_same spot = same.same (slot_of input spot) (λ e. cc)

          gate_same : new Gate ≡ old Gate
          gate_same = same.same Gate (λ e. cc)

          head_same : new Head ≡ old Head
          head_same = same.same Head (λ e. cc)

          mark_same : (n : ℕ) → (n ≡ suc k → ⊥) → is_marked new n ≡ is_marked old n
          mark_same n not = ap is_one (same.same (Mark n) (λ e. not (let h : n ≡ suc k = cc in h)))

          -- Once the contents stand at the targets of round k + 1, and zeros where round k left, mark k + 1 may be set.
          pub marking : (asked : Bool) → is_marked new (suc k) ≡ true → IsSoundAfter asked input plan digest contents old k → IsCopied input plan contents old k → IsSoundAfter asked input plan digest contents new (suc k)
          marking asked marked was copied = record {
            after = record {
              armed = armed;
              count = count_is (length plan) new armed (suc k) (record {
                most = omega arith;
                each = λ n low high. each_mark n low high (cases_eq n (suc k));
                next = λ more. mark_same (suc (suc k)) (λ e. omega arith) ∙ was.after.safe.marks was.after.armed (suc (suc k)) (omega arith) (omega arith);
              });
              safe = record {
                stand = λ item spot at. stands item spot at (moved_cases (At input plan k) (round_at plan (suc k)) item);
                head = λ again. head_same ∙ was.after.safe.head was.after.armed;
                marks = λ again n past most. mark_same n (λ e. omega arith) ∙ was.after.safe.marks was.after.armed n (omega arith) most;
              };
            };
            clean = λ is. λ spot vacated. slot_same spot ∙ ⊎_elim (λ source. left_zeros spot vacated source) (λ before. was.clean is spot before) (vacated_before spot vacated);
          }
            where
              armed : is_armed new ≡ true
              armed = ap is_one gate_same ∙ was.after.armed

              marks : AreMarked (length plan) old k
              marks = subst (AreMarked (length plan) old) was.after.count (counted (length plan) old was.after.armed)

              each_mark : (n : ℕ) → 1 ≤ n → n ≤ suc k → (n ≡ suc k) ⊎ (n ≡ suc k → ⊥) → is_marked new n ≡ true
              each_mark n low high (inl last) = ap (λ (m : ℕ). is_marked new m) last ∙ marked
              each_mark n low high (inr other) = mark_same n other ∙ marks.each n low (omega arith)

              stands : (item : ℕ) (spot : Spot) → At input plan (suc k) item ≡ Some spot
                  → ((s : Shift) × Contains (round_at plan (suc k)) s × (s.item.0 ≡ item) × (after_shifts (At input plan k) (round_at plan (suc k)) item ≡ Some s.to))
                  ⊎ (((s : Shift) → Contains (round_at plan (suc k)) s → s.item.0 ≡ item → ⊥) × (after_shifts (At input plan k) (round_at plan (suc k)) item ≡ At input plan k item))
                  → new (slot_of input spot) ≡ Some (contents item)
              stands item spot at (inl last) =
                  let there : old (slot_of input last.0.to) ≡ Some (contents last.0.item.0) = All-contains (λ (s : Shift). old (slot_of input s.to) ≡ Some (contents s.item.0)) (round_at plan (suc k)) last.0 copied.targets last.1 in
                  slot_same spot ∙ ap (λ (p : Spot). old (slot_of input p)) (in_some spot last.0.to (sym at ∙ last.3)) ∙ there ∙ ap (λ (j : ℕ). Some (contents j)) last.2
              stands item spot at (inr none) = slot_same spot ∙ was.after.safe.stand item spot (sym none.1 ∙ at)

              left_zeros : (spot : Spot) → IsVacated input plan (suc k) spot → IsSource plan k spot → old (slot_of input spot) ≡ Some zeros
              left_zeros spot vacated source = ap (λ (p : Spot). old (slot_of input p)) (sym source.4)
                  ∙ All-contains (λ (s : Shift). (IsTaken (At input plan (suc k)) s.from → ⊥) → old (slot_of input s.from) ≡ Some zeros) (round_at plan k) source.1 copied.sources
                  (contains_any (λ (s : Shift). s.from ≡ spot) (round_at plan k) source)
                  (λ taken. vacated.free (taken.0, taken.1 ∙ ap Some source.4))

          -- A mark k + 1 that isn't 1, whatever it holds, leaves an image as sound.
          pub unmarked : (asked : Bool) → is_marked new (suc k) ≡ false → IsSoundAfter asked input plan digest contents old k → IsSoundAfter asked input plan digest contents new k
          unmarked asked unset was = record {
            after = record {
              armed = armed;
              count = count_is (length plan) new armed k (record {
                most = k_most;
                each = λ n low high. mark_same n (λ e. omega arith) ∙ marks.each n low high;
                next = λ more. unset;
              });
              safe = record {
                stand = λ item spot at. slot_same spot ∙ was.after.safe.stand item spot at;
                head = λ again. head_same ∙ was.after.safe.head was.after.armed;
                marks = λ again n past most. mark_same n (λ e. omega arith) ∙ was.after.safe.marks was.after.armed n past most;
              };
            };
            clean = λ is. λ spot vacated. slot_same spot ∙ was.clean is spot vacated;
          }
            where
              armed : is_armed new ≡ true
              armed = ap is_one gate_same ∙ was.after.armed

              marks : AreMarked (length plan) old k
              marks = subst (AreMarked (length plan) old) was.after.count (counted (length plan) old was.after.armed)

      pub sound_after : (asked : Bool) (image : Image) → IsSoundAfter asked input plan digest contents image k → IsSound asked input plan digest contents image
      sound_after asked image at = record {
        safe = subst (IsSafeAt input plan digest contents image) (sym at.after.count) at.after.safe;
        clean = λ is armed. subst (IsCleanAt input plan image) (sym at.after.count) (at.clean is);
      }

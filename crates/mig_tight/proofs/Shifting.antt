-- One shift more: an item goes to a spare, and leaves a spare where it was.
use Rattle.mig_tight.proofs.Common.{All, All-cons, All-contains, All-nil, All-push, All-set, ArePlaced, At, At-append, At-push, Contains}
use Rattle.mig_tight.proofs.Common.{Contains-get_or, HasSpares, Incoming, InputLists, IsInRange, IsInput, IsLegal, IsListOf-shift, IsSpotOf, IsTaken}
use Rattle.mig_tight.proofs.Common.{Joint, KeepsLimit, Layout, Limits, List, Outgoing, RoundsLead, Shift, ShiftFits, Split, Spot, Transfer, []}
use Rattle.mig_tight.proofs.Common.{after_shifts, ap, arith, cases_eq, cases_lt, count_by-le-length, disk_at, get_or, get_or-set_other}
use Rattle.mig_tight.proofs.Common.{get_or-set_same, get_or_default, get_or_push, incoming, inl, inr, is_at, layout_of, length, length-set}
use Rattle.mig_tight.proofs.Common.{length_push, no_disk, no_spot, passes, refl, round_at, round_at-append, set, slice_get-get_or, slice_get_within}
use Rattle.mig_tight.proofs.Common.{spot, spot_at, spot_disk, subst, suc, sum_by-set, sym, touches, transfer_of, ℕ, ◌++◌, ◌<◌, ◌∙◌, ◌∷◌, ◌≡◌, ◌≤◌}
use Rattle.mig_base.proofs.SlotCounts.{spot_slot}
use Rattle.mig_tight.proofs.ListLaws.{pairs_one, place_of, set_apart, contains_set}

-- the shift of an item to a spare
abbrev pub shift_to : List Spot → List Spot → ℕ → ℕ → Shift
shift_to spots spares item h = record { item = record { 0 = item }; from = spot_at spots item; to = spot_at spares h }

-- earlier layouts stay
At_same : (input : InputLists) (rounds more : List (List Shift)) (k : ℕ) → k ≤ length rounds → At input (rounds ++ more) k ≡ At input rounds k
At_same input rounds more k le = λ i item. At-append input rounds more k item le i

slot_small : (input : InputLists) (spot : Spot) → IsInput input → IsSpotOf input.disks spot → spot.slot < 65536
slot_small input spot is of = grind (arith, no_disk, spot_disk, spot_slot)

-- a transfer alone keeps all limits
keeps_one : (limits : Limits) (v : ℕ) (t : Transfer) → IsInRange limits → KeepsLimit limits v (t ∷ [])
keeps_one (Joint limit) v t range = omega (arith, count_by-le-length (touches v) (t ∷ []), range.0)
keeps_one (Split outgoing incoming) v t range = (omega (arith, count_by-le-length (passes Outgoing v) (t ∷ []), range.0.0), omega (arith, count_by-le-length (passes Incoming v) (t ∷ []), range.1.0))

module _ (input : InputLists) (is : IsInput input) (spots spares : List Spot) (item h : ℕ) (placed : ArePlaced input spots spares) (there : item < length input.items) (spare : h < length spares) where
  within : item < length spots
  within = omega (arith, there, placed.len)

  -- the spare is nobody's spot, and the item's spot is no spare
  to_fresh : Contains spots (spot_at spares h) → ⊥
  to_fresh = placed.spares_free h no_spot spare

  from_here : Contains spots (spot_at spots item)
  from_here = Contains-get_or spots item no_spot within

  from_fresh : Contains spares (spot_at spots item) → ⊥
  from_fresh has = All-contains (λ x. Contains spots x → ⊥) spares (spot_at spots item) placed.spares_free has from_here

  not_taken : IsTaken (layout_of spots) (spot_at spares h) → ⊥
  not_taken (i, e) = to_fresh (i, slice_get_within spots i (spot_at spares h) e, is_at spots i (spot_at spares h) (spot_at spares h) (slice_get_within spots i (spot_at spares h) e) e)

  legal_one : IsLegal input (layout_of spots) (shift_to spots spares item h ∷ [])
  legal_one = grind (arith, All-cons, slice_get-get_or, no_spot, within, All-nil, pairs_one, not_taken, keeps_one, disk_at, transfer_of, no_disk)

  fits_one : All (ShiftFits input) (shift_to spots spares item h ∷ [])
  fits_one = grind (arith, All-cons, spot_disk, no_spot, within, slot_small, All-nil)

  next_layout : after_shifts (layout_of spots) (shift_to spots spares item h ∷ []) ≡ layout_of (set spots item (spot_at spares h))
  next_layout = λ i k. sym (IsListOf-shift (layout_of spots) spots (shift_to spots spares item h) within (λ n. refl) k) i

  pub reaches_more : (rounds : List (List Shift)) → RoundsLead input spots rounds → RoundsLead input (set spots item (spot_at spares h)) (rounds ++ (shift_to spots spares item h ∷ []) ∷ [])
  reaches_more rounds w =
      let round = shift_to spots spares item h ∷ [] in
      let more = round ∷ [] in
      let long : length (rounds ++ more) ≡ suc (length rounds) = omega (arith, length_push rounds round) in
      record {
        legal = λ k l. elim (cases_lt k (length rounds)) [
          | inl lt ↦
              subst (λ (r : List Shift). IsLegal input (At input (rounds ++ more) k) r) (sym (round_at-append rounds more k lt))
              (subst (λ (a : Layout). IsLegal input a (round_at rounds (suc k))) (sym (At_same input rounds more k (omega (arith, lt)))) (w.legal k lt))
          | inr ge ↦
              let at : k ≡ length rounds = omega (arith, l, ge, long) in
              subst (λ (r : List Shift). IsLegal input (At input (rounds ++ more) k) r) (sym (get_or_push rounds round [] k (sym at)))
              (subst (λ (a : Layout). IsLegal input a round) (sym (At_same input rounds more k (omega (arith, at)) ∙ ap (At input rounds) at ∙ w.ends)) legal_one)
        ];
        single = All-push (λ (r : List Shift). length r ≡ 1) rounds round w.single refl;
        fits = All-push (λ (r : List Shift). All (ShiftFits input) r) rounds round w.fits fits_one;
        ends = ap (At input (rounds ++ more)) long ∙ (λ i k. At-push input rounds round k i) ∙ ap (λ (a : Layout). after_shifts a round) w.ends ∙ next_layout;
      }

  new_free : All (λ x. Contains (set spots item (spot_at spares h)) x → ⊥) (set spares h (spot_at spots item))
  new_free j d l has =
      let to = spot_at spares h in
      let from = spot_at spots item in
      let old_l : j < length spares = omega (arith, l, length-set spares h from) in
      elim (cases_eq j h) [
        | inl at ↦
            let is_from : get_or (set spares h from) j d ≡ from = ap (λ n. get_or (set spares h from) n d) at ∙ get_or-set_same spares h from d spare in
            let c = contains_set spots item to from within (subst (λ (x : Spot). Contains (set spots item to) x) is_from has) (λ e. to_fresh (subst (λ (x : Spot). Contains spots x) (sym e) from_here)) in
            c.1 (place_of spots no_spot c.0 item placed.spots_apart c.2 within (get_or_default spots c.0 no_spot from c.2 ∙ c.3))
        | inr off ↦
            let x = get_or spares j d in
            let is_x : get_or (set spares h from) j d ≡ x = get_or-set_other spares h j from d off in
            let c = contains_set spots item to x within (subst (λ (y : Spot). Contains (set spots item to) y) is_x has) (λ e. off (sym (place_of spares d h j placed.spares_apart spare old_l (get_or_default spares h d no_spot spare ∙ e)))) in
            placed.spares_free j d old_l (c.0, c.2, c.3)
      ]

  pub placed_more : ArePlaced input (set spots item (spot_at spares h)) (set spares h (spot_at spots item))
  placed_more = record {
    len = length-set spots item (spot_at spares h) ∙ placed.len;
    spots_there = All-set (IsSpotOf input.disks) spots item (spot_at spares h) (placed.spares_there h no_spot spare) placed.spots_there;
    spots_apart = set_apart spots item (spot_at spares h) placed.spots_apart to_fresh;
    spares_there = All-set (IsSpotOf input.disks) spares h (spot_at spots item) (placed.spots_there item no_spot within) placed.spares_there;
    spares_apart = set_apart spares h (spot_at spots item) placed.spares_apart from_fresh;
    spares_free = new_free;
  }

  pub enough_more : HasSpares input spots spares → HasSpares input (set spots item (spot_at spares h)) (set spares h (spot_at spots item))
  enough_more f v l = grind (arith, sum_by-set, no_spot, within)

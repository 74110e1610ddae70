-- Which inputs have a plan that runs.
use Rattle.mig_tight.proofs.Common.{All, All-cons, All-contains, AllPairs-cons, AreDifferent, At, At-some, Contains, DiskId, Fits, HasFreeSlot}
use Rattle.mig_tight.proofs.Common.{HasMove, InputLists, IsFree, IsInput, IsSpotOf, List, Option, Runs, Shift, Some, Spot, ap, arith, cases_lt}
use Rattle.mig_tight.proofs.Common.{count_same, eq-eqb, eqb, false≢true, get_or, get_or-map, get_or-range_with_len, get_or_default, in_some, inl, inr}
use Rattle.mig_tight.proofs.Common.{is_at, layout_at, length, length-map, length-range_with_len, map, moved_cases, no_spot, not, one, present}
use Rattle.mig_tight.proofs.Common.{range_with_len, refl, round_at, slice_get-get_or, slice_get_within, slots_of, source, spot, spot_disk, subst, suc}
use Rattle.mig_tight.proofs.Common.{sum_by-cons, sym, target, unwrap_or, zero, ℕ, ⊎_elim, ◌<◌, ◌∙◌, ◌∷◌, ◌≡◌, ◌≢◌, ◌≤◌}
use Rattle.mig_base.proofs.SlotCounts.{pigeons_above, spot_slot}

-- more spots than the present ones are on a disk where one more is free
pub present_below : (input : InputLists) (spot : Spot) → IsInput input → IsSpotOf input.disks spot → (Contains input.spots spot → ⊥) → present input spot.disk.0 < slots_of input spot.disk.0
present_below input spot is there fresh =
    let v = spot.disk.0 in
    let apart : AreDifferent (spot ∷ input.spots) = AllPairs-cons (λ (x y : Spot). x ≢ y) spot input.spots (λ k d l e. fresh (k, l, at_it k d l (sym e))) is.spots_apart in
    let low : All (λ s. s.disk.0 ≡ v → s.slot < slots_of input v) (spot ∷ input.spots) = All-cons (λ (s : Spot). s.disk.0 ≡ v → s.slot < slots_of input v) spot input.spots
    (λ e. spot_slot input.disks spot there)
    (λ k d l e. subst (λ w. (get_or input.spots k d).slot < slots_of input w) e (spot_slot input.disks (get_or input.spots k d) (is.on_disks k d l))) in
    let f : Spot → ℕ = λ s. one (eqb s.disk.0 v) in
    omega (arith, pigeons_above v (slots_of input v) (spot ∷ input.spots) apart low, sum_by-cons f spot input.spots, ap one (eq-eqb v v refl))
  where
    at_it : (k : ℕ) (d : Spot) → k < length input.spots → get_or input.spots k d ≡ spot → get_or input.spots k spot ≡ spot
    at_it k d l e = get_or_default input.spots k spot d l ∙ e

module _ (input : InputLists) (is : IsInput input) (plan : List (List Shift)) (runs : Runs input plan) where
  slots_at : (k : ℕ) → k ≤ length plan → (item : ℕ) (spot : Spot) → At input plan k item ≡ Some spot → IsSpotOf input.disks spot
  slots_at zero le item spot at =
      let l = slice_get_within input.spots item spot at in
      subst (λ (s : Spot). IsSpotOf input.disks s) (is_at input.spots item no_spot spot l at) (is.on_disks item no_spot l)
  slots_at (suc k) le item spot at =
      let legal = runs.rounds k (omega (arith, le)) in
      ⊎_elim
      (λ last. subst (λ (s : Spot). IsSpotOf input.disks s) (in_some last.0.to spot (sym last.3 ∙ at)) (All-contains (λ (u : Shift). IsFree input (At input plan k) u.to) (round_at plan (suc k)) last.0 legal.free last.1).0)
      (λ none. slots_at k (omega (arith, le)) item spot (sym none.1 ∙ at))
      (moved_cases (At input plan k) (round_at plan (suc k)) item)

  ends_there : (item : ℕ) → item < length input.items → At input plan (length plan) item ≡ Some (unwrap_or (At input plan (length plan) item) no_spot)
  ends_there item l =
      let some = At-some input plan (length plan) item (omega (arith, l, is.spots_len)) in
      some.1 ∙ ap (λ (o : Option Spot). Some (unwrap_or o no_spot)) (sym some.1)

  ends_home : (item : ℕ) → item < length input.items → (unwrap_or (At input plan (length plan) item) no_spot).disk.0 ≡ target input item
  ends_home item l = grind (arith, no_spot, ends_there, slice_get-get_or)

  abbrev final : List Spot
  final = map (λ item. unwrap_or (At input plan (length plan) item) no_spot) (range_with_len 0 (length input.items))

  final_len : length final ≡ length input.items
  final_len = length-map (range_with_len 0 (length input.items)) (λ item. unwrap_or (At input plan (length plan) item) no_spot) ∙ length-range_with_len 0 (length input.items)

  final_at : (k : ℕ) (d : Spot) → k < length input.items → get_or final k d ≡ unwrap_or (At input plan (length plan) k) no_spot
  final_at k d l =
      let n = length input.items in
      get_or-map (λ item. unwrap_or (At input plan (length plan) item) no_spot) (range_with_len 0 n) k 0 d (omega (arith, l, length-range_with_len 0 n))
      ∙ ap (λ item. unwrap_or (At input plan (length plan) item) no_spot) (get_or-range_with_len 0 n k 0 l ∙ omega arith)

  -- a plan that runs leaves each disk with a slot for each of its items
  pub runs_fits : Fits input
  runs_fits v there =
      let n = length input.items in
      let apart : AreDifferent final = λ i j d l m e.
      let hj : j < n = omega (arith, m, final_len) in
      let hi : i < n = omega (arith, l, hj) in
      let same = sym (final_at i d hi) ∙ e ∙ final_at j d hj in
      let one_item = (layout_at input is plan runs (length plan) (omega arith)).apart i j (unwrap_or (At input plan (length plan) j) no_spot) (ends_there i hi ∙ ap (λ (s : Spot). Some s) same) (ends_there j hj) in
      absurd (omega (arith, l, one_item)) in
      let low : All (λ s. s.disk.0 ≡ v → s.slot < slots_of input v) final = λ k d l on.
      let h : k < n = omega (arith, l, final_len) in
      let at = final_at k d h in
      let s = unwrap_or (At input plan (length plan) k) no_spot in
      subst (λ (t : Spot). t.slot < slots_of input v) (sym at)
      (subst (λ w. s.slot < slots_of input w) (ap (λ (t : Spot). t.disk.0) (sym at) ∙ on) (spot_slot input.disks s (slots_at (length plan) (omega arith) k s (ends_there k h)))) in
      let same = count_same (λ (s : Spot). eqb s.disk.0 v) (λ (d : DiskId). eqb d.0 v) no_spot (record { 0 = 0 }) final input.next (omega (arith, final_len, is.next_len))
      (λ k l. let h : k < n = omega (arith, l, final_len) in ap (λ w. eqb w v) (ap (λ (s : Spot). s.disk.0) (final_at k no_spot h) ∙ ends_home k h)) in
      omega (arith, pigeons_above v (slots_of input v) final apart low, same)

  -- a plan that runs and has something to do begins with a free slot
  pub runs_free : HasMove input → HasFreeSlot input
  runs_free move = elim (cases_lt 0 (length plan)) [
    | inl some ↦
        let legal = runs.rounds 0 some in
        let s = get_or (round_at plan 1) 0 (record { item = record { 0 = 0 }; from = no_spot; to = no_spot }) in
        let free : IsFree input (At input plan 0) s.to = legal.free 0 (record { item = record { 0 = 0 }; from = no_spot; to = no_spot }) legal.some in
        (s.to.disk.0, spot_disk input.disks s.to free.0, present_below input s.to is free.0 (λ has. free.1 (has.0, slice_get-get_or input.spots has.0 s.to has.1 ∙ ap (λ (x : Spot). Some x) has.2)))
    | inr none ↦
        let nothing : length plan ≡ 0 = omega (arith, none) in
        let item = move.0 in
        let on_next : source input item ≡ target input item =
        ap (λ (s : Spot). s.disk.0) (sym (ap (λ (o : Option Spot). unwrap_or o no_spot) (ap (λ k. At input plan k item) nothing ∙ slice_get-get_or input.spots item no_spot (omega (arith, move.1, is.spots_len))))) ∙ ends_home item move.1 in
        absurd (false≢true (sym (ap not (eq-eqb (source input item) (target input item) on_next)) ∙ move.2))
  ]

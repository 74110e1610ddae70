-- What items have been through, after one shift more.
use Rattle.mig_tight.proofs.Common.{History, InputLists, IsOnNext, IsRoomy, List, PlanState, Shift, Spot, [], ap, arith, cond, count_by, eq-eqb, eqb}
use Rattle.mig_tight.proofs.Common.{get_or-set_same, inl, inr, is_of, is_relocated, length, ne_eqb, no_spot, not, queue_at, refl, set, shift_count}
use Rattle.mig_tight.proofs.Common.{source, spot_at, sum_by-cons, sum_by_push, sym, target, true, ℕ, ◌++◌, ◌+◌, ◌<◌, ◌∙◌, ◌∷◌, ◌≡◌, ◌≢◌}
use Rattle.mig_tight.proofs.Queueing.{spot_other}

-- how many shifts an item has after one round more
count_one : (s : Shift) (item : ℕ) → count_by (is_of item) (s ∷ []) ≡ cond (eqb s.item.0 item) 1 0
count_one s item = omega (arith, sum_by-cons (λ x. cond (is_of item x) 1 0) s [])

pub count_own : (rounds : List (List Shift)) (s : Shift) → shift_count (rounds ++ (s ∷ []) ∷ []) s.item.0 ≡ shift_count rounds s.item.0 + 1
count_own rounds s = sum_by_push (λ r. count_by (is_of s.item.0) r) rounds (s ∷ []) ∙ omega (arith, count_one s s.item.0, ap {B = ℕ} (λ b. cond b 1 0) (eq-eqb s.item.0 s.item.0 refl))

pub count_other : (rounds : List (List Shift)) (s : Shift) (item : ℕ) → item ≢ s.item.0 → shift_count (rounds ++ (s ∷ []) ∷ []) item ≡ shift_count rounds item
count_other rounds s item ne = sum_by_push (λ r. count_by (is_of item) r) rounds (s ∷ []) ∙ omega (arith, count_one s item, ap {B = ℕ} (λ b. cond b 1 0) (ne_eqb s.item.0 item (λ e. ne (sym e))))

-- an item that isn't on its next disk, and was never shifted, is relocated
pub relocated_from : (input : InputLists) (item : ℕ) → source input item ≢ target input item → is_relocated input item ≡ true
relocated_from input item ne = ap not (ne_eqb (source input item) (target input item) ne)

module _ (input : InputLists) (spots : List Spot) (rounds : List (List Shift)) (s : Shift) (a b : PlanState) (there : s.item.0 < length spots) (a_spots : a.spots ≡ spots) (a_rounds : a.rounds ≡ rounds) (b_spots : b.spots ≡ set spots s.item.0 s.to) (b_rounds : b.rounds ≡ rounds ++ (s ∷ []) ∷ []) where
  other_spot : (item : ℕ) → item ≢ s.item.0 → spot_at b.spots item ≡ spot_at a.spots item
  other_spot item ne = ap (λ (l : List Spot). spot_at l item) b_spots ∙ spot_other spots s.item.0 s.to item ne ∙ ap (λ (l : List Spot). spot_at l item) (sym a_spots)

  other_count : (item : ℕ) → item ≢ s.item.0 → shift_count b.rounds item ≡ shift_count a.rounds item
  other_count item ne = ap (λ (r : List (List Shift)). shift_count r item) b_rounds ∙ count_other rounds s item ne ∙ ap (λ (r : List (List Shift)). shift_count r item) (sym a_rounds)

  own_count : shift_count b.rounds s.item.0 ≡ shift_count a.rounds s.item.0 + 1
  own_count = ap (λ (r : List (List Shift)). shift_count r s.item.0) b_rounds ∙ count_own rounds s ∙ ap (λ (r : List (List Shift)). shift_count r s.item.0 + 1) (sym a_rounds)

  own_spot : spot_at b.spots s.item.0 ≡ s.to
  own_spot = ap (λ (l : List Spot). spot_at l s.item.0) b_spots ∙ get_or-set_same spots s.item.0 s.to no_spot there

  module _ (queues : (v : ℕ) → queue_at a.waiting v ≡ [] → queue_at b.waiting v ≡ []) where
    -- the other items
    pub history_other : (item : ℕ) → item ≢ s.item.0 → History input a item → History input b item
    history_other item ne (inl u) = inl (record { count = other_count item ne ∙ u.count; spot = other_spot item ne ∙ u.spot })
    history_other item ne (inr (inl p)) = grind (arith, other_count, other_spot)
    history_other item ne (inr (inr h)) = grind (arith, other_spot, other_count)

  -- an item that goes to its next disk
  pub history_filled : (IsOnNext input a.spots s.item.0 → ⊥) → s.to.disk.0 ≡ target input s.item.0 → History input a s.item.0 → History input b s.item.0
  history_filled away on (inl u) = grind (arith, relocated_from, own_spot, own_count)
  history_filled away on (inr (inl p)) = grind (arith, own_spot, own_count)
  history_filled away on (inr (inr h)) = absurd (away h.on_next)

  -- an item that is parked, for the first time
  pub history_parked : is_relocated input s.item.0 ≡ true → (IsRoomy input → ⊥) → s.to.disk.0 ≢ target input s.item.0 → queue_at b.waiting s.to.disk.0 ≡ [] → shift_count a.rounds s.item.0 ≡ 0 → History input b s.item.0
  history_parked relocated tight far unawaited none = grind (arith, own_count, own_spot)

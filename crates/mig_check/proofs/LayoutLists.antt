-- A round over a list of spots and over the layout of the list.
use Rattle.mig_check.proofs.Common.{All, At, At-item, InputLists, IsLegal, IsListOf, IsListOf-shifts, List, Runs, Shift, ShiftFits, Spot, [], after_round, after_shift, after_shifts, ap, arith, get_or}
use Rattle.mig_check.proofs.Common.{get_or-take, get_or_default, layout_of, length, length-set, length-take, refl, round_at, subst, suc, sym, take, ℕ, ◌<◌, ◌∙◌, ◌∷◌, ◌≡◌}

pub length-after_round : (round : List Shift) (spots : List Spot) → length (after_round spots round) ≡ length spots
length-after_round [] spots = refl
length-after_round (s ∷ ss) spots = length-after_round ss (after_shift spots s) ∙ length-set spots s.item.0 s.to

pub items_there : (input : InputLists) (spots : List Spot) (round : List Shift) → length spots ≡ length input.items → All (ShiftFits input) round → All (λ s. s.item.0 < length spots) round
items_there input spots round len fits k d h = omega (arith, (fits k d h).item, len)

-- the layout of the list after a round is the layout after it
pub layout_after_round : (spots : List Spot) (round : List Shift) → All (λ s. s.item.0 < length spots) round → layout_of (after_round spots round) ≡ after_shifts (layout_of spots) round
layout_after_round spots round there = λ i item. IsListOf-shifts (layout_of spots) round spots there (λ n. refl) item i

-- the list that is kept for the layout after k rounds goes over to the next
pub IsListOf-next : (input : InputLists) (plan : List (List Shift)) (k : ℕ) (spots : List Spot) (round : List Shift) → round ≡ round_at plan (suc k) → All (λ s. s.item.0 < length spots) round → IsListOf (At input plan k) spots → IsListOf (At input plan (suc k)) (after_round spots round)
IsListOf-next input plan k spots round is there list = subst (λ (r : List Shift). IsListOf (after_shifts (At input plan k) r) (after_round spots round)) is (IsListOf-shifts (At input plan k) round spots there list)

-- the items of a round of a plan that runs
pub items_in_round : (input : InputLists) (plan : List (List Shift)) (k : ℕ) (spots : List Spot) (round : List Shift) → Runs input plan → k < length plan → round ≡ round_at plan (suc k) → length spots ≡ length input.spots → All (λ s. s.item.0 < length spots) round
items_in_round input plan k spots round runs there is len j d h =
    let legal : IsLegal input (At input plan k) round = subst (λ (r : List Shift). IsLegal input (At input plan k) r) (sym is) (runs.rounds k there) in
    let s = get_or round j d in
    omega (arith, At-item input plan k s.item.0 s.from runs (omega arith) (legal.leaves j d h), len)

-- the round at a place among the first rounds of a plan
pub round_taken : (plan rounds : List (List Shift)) (n k : ℕ) (round item : List Shift) → rounds ≡ plan → k < length (take n rounds) → round ≡ item → item ≡ get_or (take n rounds) k item → (k < length plan) × (round ≡ round_at plan (suc k))
round_taken plan rounds n k round item same within is at =
    let short = length-take n rounds in
    let there : k < length rounds = omega arith in (
      omega (arith, ap (λ (r : List (List Shift)). length r) same),
      is ∙ at ∙ get_or-take n rounds k item (omega arith) ∙ get_or_default rounds k item [] there ∙ ap (λ (r : List (List Shift)). get_or r k []) same,
    )

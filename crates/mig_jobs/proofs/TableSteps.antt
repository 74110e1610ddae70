-- How the tables of a job come to be.
use Rattle.mig_jobs.proofs.Common.{Any-from_list_any, At, At-item, Bool, Contains, InputLists, IsTrue, List, Runs, Shift, Spot, [], and_parts, ap, append-nil, arith, cases_Bool, cond}
use Rattle.mig_jobs.proofs.Common.{eq-eqb, eqb-true, false, false≢true, flat_map-append, free_targets, get_or, get_or_default, inl, inr, leaves, length, list_any}
use Rattle.mig_jobs.proofs.Common.{list_any_at, map, not, refl, round_at, same_spot, shifts_of, suc, sym, take, take_more, true, ℕ, ◌&&◌, ◌++◌, ◌+◌, ◌<◌, ◌==◌, ◌↔◌, ◌∙◌, ◌∷◌, ◌≡◌}

-- Rounds

-- the shifts of one round more
pub shifts_more : (plan : List (List Shift)) (i : ℕ) (d : List Shift) → i < length plan → shifts_of (take (i + 1) plan) ≡ shifts_of (take i plan) ++ get_or plan i d
shifts_more plan i d lt = ap shifts_of (take_more plan i d lt) ∙ flat_map-append (λ (r : List Shift). r) (take i plan) (get_or plan i d ∷ []) ∙ ap (λ (l : List Shift). shifts_of (take i plan) ++ l) (append-nil (get_or plan i d))

-- a shifted item is one of the input's
pub shifted_item : (input : InputLists) (plan : List (List Shift)) → Runs input plan → (i : ℕ) → i < length plan → (s : Shift) → Contains (round_at plan (suc i)) s → s.item.0 < length input.spots
shifted_item input plan runs i lt s has = At-item input plan i s.item.0 s.from runs (omega arith) (leaves input (At input plan i) (round_at plan (suc i)) (runs.rounds i lt) s has)

-- Spots

pub spot_is : (p q : Spot) → same_spot p q ≡ true → p ≡ q
spot_is p q same =
    let parts = and_parts (p.disk.0 == q.disk.0) (p.slot == q.slot) same in
    let disks : p.disk.0 ≡ q.disk.0 = eqb-true p.disk.0 q.disk.0 parts.0 in
    let slots : p.slot ≡ q.slot = eqb-true p.slot q.slot parts.1 in
    λ i. record { disk = record { 0 = disks i }; slot = slots i }

pub spot_same : (p : Spot) → same_spot p p ≡ true
spot_same p = ap (λ (b : Bool). b && (p.slot == p.slot)) (eq-eqb p.disk.0 p.disk.0 refl) ∙ eq-eqb p.slot p.slot refl

-- a list has the spot exactly where the test says so
pub listed_has : (spots : List Spot) (spot : Spot) → list_any (same_spot spot) spots ≡ true → Contains spots spot
listed_has spots spot said = let any = Any-from_list_any (same_spot spot) spots said in (any.0, any.2, get_or_default spots any.0 spot any.1 any.2 ∙ any.3 ∙ sym (spot_is spot any.1 any.4))

pub has_listed : (spots : List Spot) (spot : Spot) → Contains spots spot → list_any (same_spot spot) spots ≡ true
has_listed spots spot has = list_any_at (same_spot spot) spots has.0 spot has.1 (ap (same_spot spot) has.2 ∙ spot_same spot)

pub listed_is : (spots : List Spot) (spot : Spot) (said : Bool) → (IsTrue said ↔ Contains spots spot) → list_any (same_spot spot) spots ≡ said
listed_is spots spot true is = has_listed spots spot (is.0 refl)
listed_is spots spot false is = elim (cases_Bool (list_any (same_spot spot) spots)) [
  | inl has ↦ absurd (false≢true (is.1 (listed_has spots spot has)))
  | inr not ↦ not
]

-- Targets

-- a shift's own target
pub target_added : (spots : List Spot) (s : Shift) (said : Bool) → (IsTrue said ↔ Contains spots s.to) → said ≡ false → free_targets spots (s ∷ []) ≡ s.to ∷ []
target_added spots s said is not_there = ap (λ (b : Bool). map (λ (t : Shift). t.to) (cond (not b) (s ∷ []) [])) (listed_is spots s.to said is ∙ not_there)

pub target_passed : (spots : List Spot) (s : Shift) (said : Bool) → (IsTrue said ↔ Contains spots s.to) → said ≡ true → free_targets spots (s ∷ []) ≡ []
target_passed spots s said is there = ap (λ (b : Bool). map (λ (t : Shift). t.to) (cond (not b) (s ∷ []) [])) (listed_is spots s.to said is ∙ there)

-- An item that a plan shifts is where its first shift leaves it: at a slot that the plan names.
use Rattle.mig_mover.proofs.Common.{All-contains, At, Bool, Contains, InputLists, IsPlanSpot, IsShifted, List, None, Option, Shift, Some, Spot, [], ap, arith, eqb-true, false}
use Rattle.mig_mover.proofs.Common.{inl, inr, length, refl, round_at, shifts_of, slice_get, suc, sym, true, zero, ℕ, ⊎_elim, ◌<◌, ◌∙◌, ◌∷◌, ◌≡◌, ◌≤◌, ◌⊎◌}
use Rattle.mig_base.specs.Layouts.{last_target}
use Rattle.mig_base.specs.Running.{Runs}
use Rattle.mig_mover.proofs.TargetLaws.{in_round}
use Rattle.std.proofs.Common.{eqb, if◌then◌else◌}
use Rattle.std.specs.Option.{option_or}

-- an item with a last target among shifts has one of these
last_shift : (shifts : List Shift) (item : ℕ) (t : Spot) → last_target shifts item ≡ Some t → (s : Shift) × Contains shifts s × (s.item.0 ≡ item)
last_shift [] item t e = absurd cc
last_shift (s ∷ shifts) item t e = by (last_shift shifts item) (last_target shifts item) refl (eqb s.item.0 item) refl
  where
    by : ((u : Spot) → last_target shifts item ≡ Some u → (x : Shift) × Contains shifts x × (x.item.0 ≡ item)) → (o : Option Spot) → last_target shifts item ≡ o → (b : Bool)
        → eqb s.item.0 item ≡ b → (x : Shift) × Contains (s ∷ shifts) x × (x.item.0 ≡ item)
    by more (Some u) later b here = let found = more u later in (found.0, (suc found.1.0, let lt = found.1.1 in omega arith, found.1.2), found.2)
    by more None later true here = (s, (0, omega arith, refl), eqb-true s.item.0 item here)
    by more None later false here =
        let none : last_target (s ∷ shifts) item ≡ None = ap (λ (o : Option Spot). option_or o (if eqb s.item.0 item then Some s.to else None)) later ∙ ap (λ b. if b then Some s.to else None) here in
        let wrong : ◌≡◌ {A = Option Spot} None (Some t) = sym none ∙ e in cc

module _ (input : InputLists) (plan : List (List Shift)) (runs : Runs input plan) (item : ℕ) (spot : Spot) (here : slice_get input.spots item ≡ Some spot) where
  -- a shift of the item from where it is in the beginning
  leaves_first : (k : ℕ) → k < length plan → At input plan k item ≡ Some spot → (s : Shift) → Contains (round_at plan (suc k)) s → s.item.0 ≡ item → IsPlanSpot plan spot
  leaves_first k within still s has of =
      let from = All-contains (λ (t : Shift). At input plan k t.item.0 ≡ Some t.from) (round_at plan (suc k)) s (runs.rounds k within).leaves has in
      let same : s.from ≡ spot = let e : Some s.from ≡ Some spot = sym from ∙ ap (At input plan k) of ∙ still in cc in
      (suc k, inl (has.0, s, has.1, has.2, same))

  -- after so many rounds it is there, or the plan names the spot
  still_or_named : (k : ℕ) → k ≤ length plan → (At input plan k item ≡ Some spot) ⊎ IsPlanSpot plan spot
  still_or_named zero le = inl here
  still_or_named (suc k) le = ⊎_elim still (λ named. inr named) (still_or_named k (omega arith))
    where
      still : At input plan k item ≡ Some spot → (At input plan (suc k) item ≡ Some spot) ⊎ IsPlanSpot plan spot
      still before = by (last_target (round_at plan (suc k)) item) refl
        where
          by : (o : Option Spot) → last_target (round_at plan (suc k)) item ≡ o → (At input plan (suc k) item ≡ Some spot) ⊎ IsPlanSpot plan spot
          by None e = inl (ap (λ (o : Option Spot). option_or o (At input plan k item)) e ∙ before)
          by (Some t) e = let found = last_shift (round_at plan (suc k)) item t e in inr (leaves_first k (omega arith) before found.0 found.1 found.2)

  pub shifted_named : IsShifted plan item → IsPlanSpot plan spot
  shifted_named shifted =
      let at = in_round plan shifted.1 (shifted.0, shifted.2, shifted.3) in
      ⊎_elim (λ still. leaves_first at.0 at.1 still shifted.1 at.2 shifted.4) (λ named. named) (still_or_named at.0 (let lt = at.1 in omega arith))

-- the targets of shifts are named too
pub target_named : (plan : List (List Shift)) (s : Shift) → Contains (shifts_of plan) s → IsPlanSpot plan s.to
target_named plan s has = let at = in_round plan s has in (suc at.0, inr (at.2.0, s, at.2.1, at.2.2, refl))

-- What a round's copies give once they end.
use Rattle.mig_lanes.proofs.Common.{All-contains, AreFlights, BeginsRound, Cell, Changes, Contains, Contains-append_left, Contains-get_or, Contains-permutation, Ends, Event, Flight, HaveLanded}
use Rattle.mig_lanes.proofs.Common.{AreRoundEvents, IsCopy, IsPermutation, IsPermutation-refl, IsPermutation-sym, IsSome, IsTargetOf, List, NoCell, None, Option, State, [], any_contains, ap, append-nil}
use Rattle.mig_lanes.proofs.Common.{arith, began, cases_cell, changes_then, changes_wider, contains_any, ended, false≢true, flights, flights_none, get_or, inl, inr, length, map, one_by, refl}
use Rattle.mig_lanes.proofs.Common.{subst, suc, sym, take, take_all, target_cases, target_permuted, zero, ℕ, ⊎_elim, ◌++◌, ◌<◌, ◌∙◌, ◌∷◌, ◌≡◌, ◌⊎◌}
use Rattle.mig_lanes.proofs.Beginning.{flights_all_began, flights_after}

pub cases_target : (fs : List Flight) (cell : Cell) → IsTargetOf fs cell ⊎ (IsTargetOf fs cell → ⊥)
cases_target [] cell = inr (λ any. let lt = any.2 in absurd (omega arith))
cases_target (f ∷ fs) cell = elim (cases_cell f.to cell) [
  | inl is ↦ inl (0, f, omega arith, refl, is)
  | inr not ↦ ⊎_elim (λ any. inl (suc any.0, any.1, let lt = any.2 in omega arith, any.3, any.4)) (λ out. inr (other not out)) (cases_target fs cell)
]
  where
    other : (f.to ≡ cell → ⊥) → (IsTargetOf fs cell → ⊥) → IsTargetOf (f ∷ fs) cell → ⊥
    other not out (zero, g, lt, is, at) = not (ap (λ (h : Flight). h.to) is ∙ at)
    other not out (suc k, g, lt, is, at) = out (k, g, omega arith, is, at)

-- none or some of the round's copies begin
pub part_begun : (cs : List Flight) (n : ℕ) → BeginsRound cs (map began (take n cs))
part_begun cs n = record { begun = n; done = []; left = cs; is = sym (append-nil (map began (take n cs))); all_first = inl refl; each_once = IsPermutation-refl cs }

module _ (cs : List Flight) (are : AreFlights cs) (first mid : State) (none : flights first ≡ []) (begun : Changes (IsTargetOf cs) (IsTargetOf cs) (map began cs) first mid) where
  pub mid_flights : (flights mid ≡ cs) ⊎ ((flights mid ≡ []) × (first.events ≡ None))
  mid_flights = ⊎_elim (λ e. inl (e ∙ flights_all_began [] cs)) (λ e. inr e) (flights_after first.events mid.events (map began cs) none begun.events)

  pub mid_are : AreFlights (flights mid)
  mid_are = ⊎_elim (λ e. subst AreFlights (sym e) are) (λ e. subst AreFlights (sym e.0) flights_none) mid_flights

  mid_has : (f : Flight) → Contains (flights mid) f → Contains cs f
  mid_has f has = ⊎_elim (λ e. subst (λ (l : List Flight). Contains l f) e has) (λ e. absurd (let lt = has.1 in let long : length (flights mid) ≡ 0 = ap (λ (l : List Flight). length l) e.0 in omega arith)) mid_flights

  module _ (these : List Flight) (new : State) (ends : Ends these mid new) where
    these_has : (f : Flight) → Contains these f → Contains cs f
    these_has f has = mid_has f (Contains-permutation (these ++ flights new) (flights mid) f (IsPermutation-sym _ _ ends.others) (Contains-append_left these (flights new) f has))

    within : (cell : Cell) → IsTargetOf these cell → IsTargetOf cs cell
    within cell any = any_contains (λ (c : Flight). c.to ≡ cell) cs any.1 (these_has any.1 (contains_any (λ (c : Flight). c.to ≡ cell) these any)) any.4

    pub ended_change : Changes (IsTargetOf cs) (IsTargetOf cs) (map began cs ++ map ended these) first new
    ended_change = changes_then (IsTargetOf cs) (IsTargetOf cs) (map began cs) (map ended these) first mid new begun
        (changes_wider (IsTargetOf cs) (IsTargetOf cs) (IsTargetOf these) NoCell within (λ cell out. absurd out) (map ended these) mid new ends.change)

    pub landed_after : HaveLanded cs first.reads mid → HaveLanded cs first.reads new
    landed_after sofar k d lt out = at (cases_target these c.to)
      where
        c : Flight
        c = get_or cs k d

        at : IsTargetOf these (get_or cs k d).to ⊎ (IsTargetOf these (get_or cs k d).to → ⊥) → IsCopy (first.reads (get_or cs k d).from) (new.reads (get_or cs k d).to)
        at (inl any) =
            let f = any.1 in
            let has : Contains these f = contains_any (λ (g : Flight). g.to ≡ (get_or cs k d).to) these any in
            let same : f ≡ get_or cs k d = one_by (λ (g : Flight). g.to) cs are.apart f (get_or cs k d) (these_has f has) (Contains-get_or cs k d lt) any.4 in
            let copied : IsCopy (mid.reads f.from) (new.reads f.to) = All-contains (λ (g : Flight). IsCopy (mid.reads g.from) (new.reads g.to)) these f ends.copied has in
            subst (λ (o : Option (List ℕ)). IsCopy o (new.reads (get_or cs k d).to)) (begun.told.same (get_or cs k d).from (are.still k d lt))
            (subst (λ (g : Flight). IsCopy (mid.reads g.from) (new.reads g.to)) same copied)
        at (inr not) = subst (λ (o : Option (List ℕ)). IsCopy (first.reads (get_or cs k d).from) o) (sym (ends.change.told.same (get_or cs k d).to not))
            (sofar k d lt (λ any. ⊎_elim not out (target_cases these (flights new) (get_or cs k d).to (target_permuted (flights mid) (these ++ flights new) (get_or cs k d).to ends.others any))))

    once : IsSome first.events → IsPermutation cs (these ++ flights new)
    once told = ⊎_elim (λ e. subst (λ (l : List Flight). IsPermutation l (these ++ flights new)) e ends.others) (λ e. absurd (false≢true (subst (λ (o : Option (List Event)). IsSome o) e.1 told))) mid_flights

    -- where events are told
    pub part_ended : IsSome first.events → BeginsRound cs (map began cs ++ map ended these)
    part_ended told = record {
      begun = length cs;
      done = these;
      left = flights new;
      is = ap (λ (l : List Flight). map began l ++ map ended these) (sym (take_all (length cs) cs (omega arith)));
      all_first = inr (omega arith);
      each_once = once told;
    }

    pub whole_round : flights new ≡ [] → IsSome first.events → AreRoundEvents cs (map began cs ++ map ended these)
    whole_round landed told = record {
      order = these;
      each_once = subst (IsPermutation cs) (ap (λ (l : List Flight). these ++ l) landed ∙ append-nil these) (once told);
      is = refl;
    }

    pub all_copied : HaveLanded cs first.reads mid → flights new ≡ [] → (k : ℕ) (d : Flight) → k < length cs → IsCopy (first.reads (get_or cs k d).from) (new.reads (get_or cs k d).to)
    all_copied sofar landed k d lt = landed_after sofar k d lt (λ any. let in_none = subst (λ (l : List Flight). IsTargetOf l (get_or cs k d).to) landed any in let none_lt = in_none.2 in absurd (omega arith))

-- A copy that begins where none is in flight, and then ends.
use Rattle.mig_live.proofs.Common.{All-contains, Cell, Changes, Contains, Contains-permutation, Ends, Event, Flight, IfNone, IsCopy, IsMoving, IsPermutation, IsPermutation-sym, IsTargetOf, List}
use Rattle.mig_live.proofs.Common.{NoCell, None, Ok, Option, Some, State, [], ap, arith, began, changes_then, changes_wider, cond-true, ended, ends_are_quiet, false, false≢true, flights, flights_began}
use Rattle.mig_live.proofs.Common.{flights_same, here, in_flight, inl, inr, is_some, length_permutation, map, named, nil_from_length, no_target, option_map, refl, same_image, subst, suc, sym, take}
use Rattle.mig_live.proofs.Common.{target_left, target_one, target_permuted, true, zero, ℕ, ⊎_elim, ◌++◌, ◌∙◌, ◌∷◌, ◌≡◌, ◌≢◌, ◌⊎◌}
use Rattle.mig_live.proofs.Common.{take_all}

-- where events aren't told, none is
abbrev Untold : Option (List Event) → Option (List Event) → Type 0
Untold old new = (in_flight new ≡ []) × (is_some new ≡ false) × (is_some old ≡ false)

-- the copies in flight once one begins, and whether events are told
began_cases : (old new : Option (List Event)) (f : Flight) → in_flight old ≡ [] → new ≡ option_map (λ before. before ++ began f ∷ []) old
    → ((in_flight new ≡ f ∷ []) × (is_some new ≡ true)) ⊎ Untold old new
began_cases None new f none e = inr (ap in_flight e, ap is_some e, refl)
began_cases (Some before) new f none e = inl (ap in_flight e ∙ flights_began [] before f ∙ ap (λ (l : List Flight). l ++ f ∷ []) none, ap is_some e)

one_of : (f g : Flight) → Contains (f ∷ []) g → g ≡ f
one_of f g (zero, lt, is) = sym is
one_of f g (suc k, lt, is) = absurd (omega arith)

-- where events aren't told, any may have been added
any_events : (a b : List Event) (old new : Option (List Event)) → is_some old ≡ false → new ≡ option_map (λ before. before ++ a) old → new ≡ option_map (λ before. before ++ b) old
any_events a b None new untold e = e
any_events a b (Some before) new untold e = absurd (false≢true (sym untold))

other_events : (P Q : Cell → Type 0) (a b : List Event) (old new : State) → is_some old.events ≡ false → Changes P Q a old new → Changes P Q b old new
other_events P Q a b old new untold change = record {
  told = change.told;
  crash = change.crash;
  time = change.time;
  keeps = change.keeps;
  images = change.images;
  events = any_events a b old.events new.events untold change.events;
}

module _ (f : Flight) (old mid : State) where
  -- what was begun is a part of both events
  pub begun_part : (n : ℕ) → Changes (λ c. c ≡ f.to) (λ c. c ≡ f.to) (take n (began f ∷ [])) old mid → (m : ℕ) × Changes (λ c. c ≡ f.to) (λ c. c ≡ f.to) (take m (began f ∷ ended f ∷ [])) old mid
  begun_part zero change = (0, change)
  begun_part (suc n) change =
      let none : take {A = Event} n [] ≡ [] = take_all n [] (omega arith) in
      (1, subst (λ (l : List Event). Changes (λ c. c ≡ f.to) (λ c. c ≡ f.to) (began f ∷ l) old mid) none change)

  module _ (none : flights old ≡ []) (begun : Changes (λ c. c ≡ f.to) (λ c. c ≡ f.to) (began f ∷ []) old mid) where
    cases : ((flights mid ≡ f ∷ []) × (is_some mid.events ≡ true)) ⊎ Untold old.events mid.events
    cases = began_cases old.events mid.events f none begun.events

    few_begun : (cell : Cell) → IsTargetOf (flights mid) cell → cell ≡ f.to
    few_begun cell any = ⊎_elim (λ one. sym (target_one f cell (subst (λ (l : List Flight). IsTargetOf l cell) one.0 any))) (λ nothing. absurd (no_target (flights mid) cell nothing.0 any)) cases

    pub change_ended : (new : State) (these : List Flight) → Ends these mid new → Changes (λ c. c ≡ f.to) (λ c. c ≡ f.to) (began f ∷ map ended these) old new
    change_ended new these ends = changes_then (λ c. c ≡ f.to) (λ c. c ≡ f.to) (began f ∷ []) (map ended these) old mid new begun
        (changes_wider (λ c. c ≡ f.to) (λ c. c ≡ f.to) (IsTargetOf these) NoCell
        (λ cell any. few_begun cell (target_permuted (these ++ flights new) (flights mid) cell (IsPermutation-sym _ _ ends.others) (target_left these (flights new) cell any)))
        (λ cell out. absurd out) (map ended these) mid new ends.change)

    module _ (apart : f.from ≢ f.to) (copied : ¬ IsMoving mid f.to → IsCopy (old.reads f.from) (mid.reads f.to)) (new : State) where
      pub record HasLanded : Type 0 where
        pub landed : flights new ≡ []
        pub holds : IsCopy (old.reads f.from) (new.reads f.to)
        pub made : Changes (λ c. c ≡ f.to) (λ c. c ≡ f.to) (began f ∷ ended f ∷ []) old new

      -- where events aren't told
      untold_landed : Untold old.events mid.events → (these : List Flight) → Ends these mid new → HasLanded
      untold_landed untold these ends =
          let quiet = ends_are_quiet mid new untold.0 these ends in record {
            landed = flights_same mid new quiet.events ∙ untold.0;
            holds = subst (λ (o : Option (List ℕ)). IsCopy (old.reads f.from) o) (λ i. same_image mid.reads new.reads quiet.told i f.to)
                (copied (λ moving. no_target (flights mid) f.to untold.0 moving.1));
            made = other_events (λ c. c ≡ f.to) (λ c. c ≡ f.to) (began f ∷ map ended these) (began f ∷ ended f ∷ []) old new untold.2
                (change_ended new these ends);
          }

      -- where they are
      told_landed : flights mid ≡ f ∷ [] → (g : Flight) → Ends (g ∷ []) mid new → HasLanded
      told_landed one g ends =
          let others = subst (λ (l : List Flight). IsPermutation l (g ∷ flights new)) one ends.others in
          let it = one_of f g (Contains-permutation (g ∷ flights new) (f ∷ []) g (IsPermutation-sym _ _ others) (here g (flights new))) in record {
            landed = nil_from_length (flights new) (let long = length_permutation (f ∷ []) (g ∷ flights new) others in omega arith);
            holds = subst (λ (o : Option (List ℕ)). IsCopy o (new.reads f.to)) (begun.told.same f.from apart)
                (subst (λ (h : Flight). IsCopy (mid.reads h.from) (new.reads h.to)) it
                (All-contains (λ (c : Flight). IsCopy (mid.reads c.from) (new.reads c.to)) (g ∷ []) g ends.copied (here g [])));
            made = subst (λ (h : Flight). Changes (λ c. c ≡ f.to) (λ c. c ≡ f.to) (began f ∷ ended h ∷ []) old new) it
                (change_ended new (g ∷ []) ends);
          }

      -- what an answer of `ended` gives
      pub landed_ended : (E : Type 0) (answer : Option (Cell × Cell)) → Ends (named {E = E} mid (Ok answer)) mid new → IfNone answer (flights mid ≡ []) → HasLanded
      landed_ended E None ends is_none = by cases
        where
          by : ((flights mid ≡ f ∷ []) × (is_some mid.events ≡ true)) ⊎ Untold old.events mid.events → HasLanded
          by (inl told) = absurd (let e : f ∷ [] ≡ [] = sym told.0 ∙ is_none in cc)
          by (inr untold) = untold_landed untold [] ends
      landed_ended E (Some (from, to)) ends is_none = by cases
        where
          g : Flight
          g = record { from = from; to = to }

          by : ((flights mid ≡ f ∷ []) × (is_some mid.events ≡ true)) ⊎ Untold old.events mid.events → HasLanded
          by (inl told) = told_landed told.0 g (subst (λ (l : List Flight). Ends l mid new) (cond-true (is_some mid.events) (g ∷ []) [] told.1) ends)
          by (inr untold) = untold_landed untold _ ends

-- What copies in flight keep all through the events of rounds: all that holds of none, and of some where it holds of more.
use Rattle.mig_lanes.proofs.Common.{All, All-contains, AreRoundEvents, AreRounds, BeginsRun, Bool, Contains, Contains-permutation, Event, Flight, IsPermutation, IsRun, List, [], after_event, after_events, ap, arith}
use Rattle.mig_lanes.proofs.Common.{began, cases_lt, contains_kept, ended, false≢true, filter, filter_passes, fold-append, inl, inr, is_flight, is_flight-same, length, map, not, refl, subst, suc, sym, take}
use Rattle.mig_lanes.proofs.Common.{take-append-add, take-append-le, take-map, take_all, true, zero, ℕ, ◌++◌, ◌+◌, ◌-◌, ◌<◌, ◌∙◌, ◌∷◌, ◌≡◌, ◌≤◌}
use Rattle.mig_lanes.proofs.Beginning.{flights_all_began}

-- what is left in flight didn't end
left_over : (fs zs : List Flight) (x : Flight) → Contains (after_events fs (map ended zs)) x → Contains fs x × (Contains zs x → ⊥)
left_over fs [] x has = (has, λ none. let lt = none.1 in absurd (omega arith))
left_over fs (z ∷ zs) x has =
    let rest = left_over (filter (λ c. not (is_flight z c)) fs) zs x has in (
      contains_kept (λ c. not (is_flight z c)) fs x rest.0,
      λ there. not_it rest.0 rest.1 there,
    )
  where
    not_it : Contains (filter (λ c. not (is_flight z c)) fs) x → (Contains zs x → ⊥) → Contains (z ∷ zs) x → ⊥
    not_it kept out (zero, lt, is) =
        let passes : not (is_flight z x) ≡ true = All-contains (λ (c : Flight). not (is_flight z c) ≡ true) (filter (λ c. not (is_flight z c)) fs) x (filter_passes (λ c. not (is_flight z c)) fs) kept in
        false≢true (sym (ap not (subst (λ (y : Flight). is_flight z y ≡ true) is (is_flight-same z))) ∙ passes)
    not_it kept out (suc k, lt, is) = out (k, omega arith, is)

empty : (fs : List Flight) → ((x : Flight) → Contains fs x → ⊥) → fs ≡ []
empty [] none = refl
empty (f ∷ fs) none = absurd (none f (0, omega arith, refl))

-- once each copy has ended none is in flight
pub all_landed : (fs order : List Flight) → IsPermutation fs order → after_events fs (map ended order) ≡ []
all_landed fs order same = empty (after_events fs (map ended order)) (λ x has. let rest = left_over fs order x has in rest.1 (Contains-permutation fs order x same rest.0))

pub round_lands : (round : List Flight) (added : List Event) → AreRoundEvents round added → after_events [] added ≡ []
round_lands round added is = ap (after_events []) is.is ∙ fold-append after_event [] (map began round) (map ended is.order) ∙ ap (λ (l : List Flight). after_events l (map ended is.order)) (flights_all_began [] round) ∙ all_landed round is.order is.each_once

module _ (P : List Flight → Type 0) (none : P []) (first : (n : ℕ) (fs : List Flight) → P fs → P (take n fs)) (fewer : (p : Flight → Bool) (fs : List Flight) → P fs → P (filter p fs)) where
  -- after every prefix of the events
  abbrev Stay : List Flight → List Event → Type 0
  Stay before added = (m : ℕ) → P (after_events before (take m added))

  -- copies that end one by one
  ended_keep : (fs zs : List Flight) → P fs → P (after_events fs (map ended zs))
  ended_keep fs [] keep = keep
  ended_keep fs (z ∷ zs) keep = ended_keep (filter (λ c. not (is_flight z c)) fs) zs (fewer (λ c. not (is_flight z c)) fs keep)

  ends_stay : (before order : List Flight) → P before → Stay before (map ended order)
  ends_stay before order keep m = subst (λ (l : List Event). P (after_events before l)) (sym (take-map ended m order)) (ended_keep before (take m order) keep)

  -- events, and then others from what is in flight after them
  then_stay : (before mid : List Flight) (a b : List Event) → after_events before a ≡ mid → ((m : ℕ) → m ≤ length a → P (after_events before (take m a))) → Stay mid b → Stay before (a ++ b)
  then_stay before mid a b lands early late m = elim (cases_lt (length a) m) [
    | inl past ↦ later past
    | inr within ↦ subst P (ap (after_events before) (sym (take-append-le m a b within))) (early m within)
  ]
    where
      later : length a < m → P (after_events before (take m (a ++ b)))
      later past =
          let n : ℕ = m - length a in
          let is : m ≡ length a + n = omega arith in
          let e : after_events before (take m (a ++ b)) ≡ after_events mid (take n b) =
          ap (λ (j : ℕ). after_events before (take j (a ++ b))) is ∙ ap (after_events before) (take-append-add a b n) ∙ fold-append after_event before a (take n b) ∙ ap (λ (l : List Flight). after_events l (take n b)) lands in
          subst P (sym e) (late n)

  -- the events of a round
  round_stays : (round : List Flight) (added : List Event) → P round → AreRoundEvents round added → Stay [] added
  round_stays round added keep is = subst (Stay []) (sym is.is) (then_stay [] round (map began round) (map ended is.order) (flights_all_began [] round)
      (λ m within. subst P (sym (ap (after_events []) (take-map began m round) ∙ flights_all_began [] (take m round))) (first m round keep)) (ends_stay round is.order keep))

  nothing : Stay [] []
  nothing zero = none
  nothing (suc m) = none

  rounds_stay : (rounds : List (List Flight)) (added : List Event) → All P rounds → AreRounds rounds added → Stay [] added
  rounds_stay [] added each is = subst (Stay []) (sym is) nothing
  rounds_stay (round ∷ rounds) added each are = subst (Stay []) (sym are.2)
      (then_stay [] [] are.0 are.1 (round_lands round are.0 are.3) (λ m within. round_stays round are.0 (each 0 round (omega arith)) are.3 m) (rounds_stay rounds are.1 (λ k d lt. each (suc k) d (omega arith)) are.4))

  run_stays : (before : List Flight) (rounds : List (List Flight)) (added : List Event) → P before → All P rounds → IsRun before rounds added → Stay before added
  run_stays before rounds added keep each is = subst (Stay before) (sym is.is)
      (then_stay before [] (map ended is.order) is.rest (all_landed before is.order is.each_once) (λ m within. ends_stay before is.order keep m) (rounds_stay rounds is.rest each is.then_rounds))

  -- and each beginning of them
  pub begins_stay : (before : List Flight) (rounds : List (List Flight)) (added : List Event) → P before → All P rounds → BeginsRun before rounds added → (m : ℕ) → P (after_events before (take m added))
  begins_stay before rounds added keep each begins m = elim (cases_lt (length added) m) [
    | inl past ↦ subst (λ (l : List Event). P (after_events before l)) (take-append-le (length added) added begins.0 (omega arith) ∙ take_all (length added) added (omega arith) ∙ sym (take_all m added (omega arith)))
        (run_stays before rounds (added ++ begins.0) keep each begins.1 (length added))
    | inr early ↦ subst (λ (l : List Event). P (after_events before l)) (take-append-le m added begins.0 early) (run_stays before rounds (added ++ begins.0) keep each begins.1 m)
  ]

  pub begins_last : (before : List Flight) (rounds : List (List Flight)) (added : List Event) → P before → All P rounds → BeginsRun before rounds added → P (after_events before added)
  begins_last before rounds added keep each begins = subst (λ (l : List Event). P (after_events before l)) (take_all (length added) added (omega arith)) (begins_stay before rounds added keep each begins (length added))

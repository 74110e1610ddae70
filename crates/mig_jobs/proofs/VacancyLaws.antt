-- When the spots that a plan names are free.
use Rattle.mig_jobs.proofs.Common.{All, All-append, All-map, Any, Any-from_list_any, AreVacancies, At, Bool, Contains, Contains-append_left, Contains-append_right, Contains-get_or, IsInput}
use Rattle.mig_jobs.proofs.Common.{InputLists, IsNamed, IsPlanSpot, IsSource, IsTaken, IsTarget, IsVacant, List, Runs, Shift, Some, Spot, Vacancy, [], any_contains, ap, arith, at_target, begun_by, cases_Bool}
use Rattle.mig_jobs.proofs.Common.{cases_eq, cases_lt, cond, cond-false, cond-true, contains_any, ended_by, ended_in, eq-eqb, eqb-true, false, false≢true, filter, filter_passes, get_or}
use Rattle.mig_jobs.proofs.Common.{get_or_default, in_some, inl, inr, leaves, left_in, length, list_any, list_any_at, map, moved_cases, no_round, open_in, open_of, refl, round_at, same_spot}
use Rattle.mig_jobs.proofs.Common.{slice_get-get_or, source_facts, subst, suc, sym, target_facts, true, vacancies_in, zero, ℕ, ⊎_elim, ◌++◌, ◌<◌, ◌==◌, ◌∙◌, ◌∷◌, ◌≡◌, ◌≤◌, ◌⊎◌}
use Rattle.mig_jobs.proofs.TableSteps.{spot_is, spot_same}

-- whether one of the shifts has the spot, as the test says
module _ (key : Shift → Spot) (shifts : List Shift) (spot : Spot) where
  pub key_true : list_any (λ s. same_spot (key s) spot) shifts ≡ true → Any (λ s. key s ≡ spot) shifts
  key_true said = let any = Any-from_list_any (λ (s : Shift). same_spot (key s) spot) shifts said in (any.0, any.1, any.2, any.3, spot_is (key any.1) spot any.4)

  pub key_false : list_any (λ s. same_spot (key s) spot) shifts ≡ false → Any (λ s. key s ≡ spot) shifts → ⊥
  key_false said any = false≢true (sym said ∙ list_any_at (λ (s : Shift). same_spot (key s) spot) shifts any.0 any.1 any.2
      (ap (λ (s : Shift). same_spot (key s) spot) any.3 ∙ ap (λ (p : Spot). same_spot p spot) any.4 ∙ spot_same spot))

-- the spot was left in this round, the first r went by since, and it has been free
pub record IsLeftSince (input : InputLists) (plan : List (List Shift)) (r : ℕ) (spot : Spot) (f : ℕ) : Type 0 where
  pub some : 1 ≤ f
  pub most : f ≤ r
  pub left : IsSource plan f spot
  pub free : (k : ℕ) → f ≤ k → k ≤ r → ¬ IsTaken (At input plan k) spot

module _ (input : InputLists) (valid : IsInput input) (plan : List (List Shift)) (runs : Runs input plan) where
  -- a free spot to which no shift goes stays free
  pub stays_free : (r : ℕ) (spot : Spot) → r < length plan → (IsTarget plan (suc r) spot → ⊥) → (IsTaken (At input plan r) spot → ⊥) → IsTaken (At input plan (suc r)) spot → ⊥
  stays_free r spot lt no_target free taken = ⊎_elim
      (λ last. no_target (any_contains (λ (s : Shift). s.to ≡ spot) (round_at plan (suc r)) last.0 last.1 (in_some last.0.to spot (sym last.3 ∙ taken.1))))
      (λ none. free (taken.0, sym none.1 ∙ taken.1))
      (moved_cases (At input plan r) (round_at plan (suc r)) taken.0)

  -- a taken spot that no shift leaves stays taken
  pub stays_taken : (r : ℕ) (spot : Spot) → r < length plan → (IsSource plan (suc r) spot → ⊥) → IsTaken (At input plan r) spot → IsTaken (At input plan (suc r)) spot
  stays_taken r spot lt no_source taken = (
    taken.0,
    ⊎_elim
        (λ last. absurd (no_source (any_contains (λ (s : Shift). s.from ≡ spot) (round_at plan (suc r)) last.0 last.1
        (in_some last.0.from spot (sym (leaves input (At input plan r) (round_at plan (suc r)) (runs.rounds r lt) last.0 last.1) ∙ ap (λ (j : ℕ). At input plan r j) last.2 ∙ taken.1)))))
        (λ none. none.1 ∙ taken.1)
        (moved_cases (At input plan r) (round_at plan (suc r)) taken.0),
  )

  pub target_taken : (r : ℕ) (spot : Spot) → r < length plan → IsTarget plan (suc r) spot → IsTaken (At input plan (suc r)) spot
  target_taken r spot lt target =
      let has = contains_any (λ (s : Shift). s.to ≡ spot) (round_at plan (suc r)) target in
      (target.1.item.0, at_target input (At input plan r) (round_at plan (suc r)) (runs.rounds r lt) target.1 has ∙ ap Some target.4)

  pub source_taken : (r : ℕ) (spot : Spot) → r < length plan → IsSource plan (suc r) spot → IsTaken (At input plan r) spot
  source_taken r spot lt source =
      let has = contains_any (λ (s : Shift). s.from ≡ spot) (round_at plan (suc r)) source in
      (source.1.item.0, leaves input (At input plan r) (round_at plan (suc r)) (runs.rounds r lt) source.1 has ∙ ap Some source.4)

  -- what `left_in` says
  pub left_is : (r : ℕ) (spot : Spot) → r ≤ length plan → (left_in plan r spot ≡ 0) ⊎ IsLeftSince input plan r spot (left_in plan r spot)
  left_is zero spot le = inl refl
  left_is (suc r) spot le = elim (cases_Bool (list_any (λ (s : Shift). same_spot s.from spot) (round_at plan (suc r)))) [
    | inl source ↦ inr (subst (IsLeftSince input plan (suc r) spot) (sym (cond-true _ _ _ source)) (now (key_true (λ (s : Shift). s.from) (round_at plan (suc r)) spot source)))
    | inr no_source ↦ elim (cases_Bool (list_any (λ (s : Shift). same_spot s.to spot) (round_at plan (suc r)))) [
      | inl target ↦ inl (cond-false _ _ _ no_source ∙ cond-true _ _ _ target)
      | inr no_target ↦ before (cond-false _ _ _ no_source ∙ cond-false _ _ _ no_target) (key_false (λ (s : Shift). s.to) (round_at plan (suc r)) spot no_target) (left_is r spot (omega arith))
    ]
  ]
    where
      now : IsSource plan (suc r) spot → IsLeftSince input plan (suc r) spot (suc r)
      now source = record {
        some = omega arith;
        most = omega arith;
        left = source;
        free = λ k low high. subst (λ (n : ℕ). ¬ IsTaken (At input plan n) spot) (let e : suc r ≡ k = omega arith in e) (source_facts input valid plan runs (suc r) spot le source).1;
      }

      later : (f : ℕ) → (IsTarget plan (suc r) spot → ⊥) → IsLeftSince input plan r spot f → IsLeftSince input plan (suc r) spot f
      later f none was = record { some = was.some; most = omega (arith, was.most); left = was.left; free = λ k low high. at k low high (cases_eq k (suc r)) }
        where
          at : (k : ℕ) → f ≤ k → k ≤ suc r → (k ≡ suc r) ⊎ (k ≡ suc r → ⊥) → ¬ IsTaken (At input plan k) spot
          at k low high (inr other) = was.free k low (omega arith)
          at k low high (inl last) = subst (λ (n : ℕ). ¬ IsTaken (At input plan n) spot) (sym last) (stays_free r spot (omega arith) none (was.free r was.most (omega arith)))

      before : left_in plan (suc r) spot ≡ left_in plan r spot → (IsTarget plan (suc r) spot → ⊥) → (left_in plan r spot ≡ 0) ⊎ IsLeftSince input plan r spot (left_in plan r spot) → (left_in plan (suc r) spot ≡ 0) ⊎ IsLeftSince input plan (suc r) spot (left_in plan (suc r) spot)
      before same none (inl nought) = inl (same ∙ nought)
      before same none (inr was) = inr (subst (IsLeftSince input plan (suc r) spot) (sym same) (later (left_in plan r spot) none was))

  -- a spot that was taken and is free was left
  pub was_left : (r j : ℕ) (spot : Spot) → r ≤ length plan → j ≤ r → IsTaken (At input plan j) spot → (IsTaken (At input plan r) spot → ⊥) → 1 ≤ left_in plan r spot
  was_left zero j spot le low taken free = absurd (free (subst (λ (n : ℕ). IsTaken (At input plan n) spot) (let e : j ≡ zero = omega arith in e) taken))
  was_left (suc r) j spot le low taken free = elim (cases_Bool (list_any (λ (s : Shift). same_spot s.from spot) (round_at plan (suc r)))) [
    | inl source ↦ subst (λ (n : ℕ). 1 ≤ n) (sym (cond-true _ _ _ source)) (omega arith)
    | inr no_source ↦ elim (cases_Bool (list_any (λ (s : Shift). same_spot s.to spot) (round_at plan (suc r)))) [
      | inl target ↦ absurd (free (target_taken r spot (omega arith) (key_true (λ (s : Shift). s.to) (round_at plan (suc r)) spot target)))
      | inr no_target ↦ subst (λ (n : ℕ). 1 ≤ n) (sym (cond-false _ _ _ no_source ∙ cond-false _ _ _ no_target))
          (was_left r j spot (omega arith) (earlier (cases_eq j (suc r))) taken (λ at. free (stays_taken r spot (omega arith) (key_false (λ (s : Shift). s.from) (round_at plan (suc r)) spot no_source) at)))
    ]
  ]
    where
      earlier : (j ≡ suc r) ⊎ (j ≡ suc r → ⊥) → j ≤ r
      earlier (inl last) = absurd (free (subst (λ (n : ℕ). IsTaken (At input plan n) spot) last taken))
      earlier (inr other) = omega arith

  -- Vacancies that end

  abbrev IsFreeAll : Vacancy → Type 0
  IsFreeAll v = (k : ℕ) → k ≤ length plan → IsVacant v k → ¬ IsTaken (At input plan k) v.spot

  -- a vacancy of the spot lasts after k rounds
  abbrev Covers : ℕ → Spot → Vacancy → Type 0
  Covers k spot v = (v.spot ≡ spot) × IsVacant v k

  -- a target has been free since it was last left
  ending_free : (r : ℕ) (s : Shift) → r < length plan → Contains (round_at plan (suc r)) s → (k : ℕ) → left_in plan r s.to ≤ k → k < suc r → ¬ IsTaken (At input plan k) s.to
  ending_free r s lt has k low high taken = ⊎_elim
      (λ nought. let some = was_left r k s.to (omega arith) (omega arith) taken free_now in omega arith)
      (λ (is : IsLeftSince input plan r s.to (left_in plan r s.to)). is.free k low (omega arith) taken)
      (left_is r s.to (omega arith))
    where
      free_now : IsTaken (At input plan r) s.to → ⊥
      free_now = (target_facts input valid plan runs r s.to (any_contains (λ (t : Shift). t.to ≡ s.to) (round_at plan (suc r)) s has refl)).2

  pub ended_named : (r : ℕ) → r ≤ length plan → All (λ (v : Vacancy). IsPlanSpot plan v.spot) (ended_in plan r)
  ended_named zero le = λ k d lt. absurd (omega arith)
  ended_named (suc r) le = All-append (λ (v : Vacancy). IsPlanSpot plan v.spot) (ended_in plan r) (map (ended_by (left_in plan r) (suc r)) (round_at plan (suc r))) (ended_named r (omega arith))
      (All-map (λ (v : Vacancy). IsPlanSpot plan v.spot) (ended_by (left_in plan r) (suc r)) (round_at plan (suc r))
      (λ k d lt. (suc r, inr (k, get_or (round_at plan (suc r)) k d, lt, get_or_default (round_at plan (suc r)) k (get_or (round_at plan (suc r)) k d) d lt, refl))))

  pub ended_free : (r : ℕ) → r ≤ length plan → All IsFreeAll (ended_in plan r)
  ended_free zero le = λ k d lt. absurd (omega arith)
  ended_free (suc r) le = All-append IsFreeAll (ended_in plan r) (map (ended_by (left_in plan r) (suc r)) (round_at plan (suc r))) (ended_free r (omega arith))
      (All-map IsFreeAll (ended_by (left_in plan r) (suc r)) (round_at plan (suc r))
      (λ j d lt k most vacant. ending_free r (get_or (round_at plan (suc r)) j d) (omega arith) (Contains-get_or (round_at plan (suc r)) j d lt) k vacant.0 vacant.1))

  -- a spot that is free after k rounds has a vacancy that ends, or stays free up to round r
  abbrev IsCoveredTo : ℕ → ℕ → Spot → Type 0
  IsCoveredTo r k spot = Any (Covers k spot) (ended_in plan r) ⊎ ((j : ℕ) → k ≤ j → j ≤ r → ¬ IsTaken (At input plan j) spot)

  any_left : (P : Vacancy → Type 0) (xs ys : List Vacancy) → Any P xs → Any P (xs ++ ys)
  any_left P xs ys any = any_contains P (xs ++ ys) any.1 (Contains-append_left xs ys any.1 (contains_any P xs any)) any.4

  any_right : (P : Vacancy → Type 0) (xs ys : List Vacancy) → Any P ys → Any P (xs ++ ys)
  any_right P xs ys any = any_contains P (xs ++ ys) any.1 (Contains-append_right xs ys any.1 (contains_any P ys any)) any.4

  -- the round in which a spot was last left, while it is free, comes no later
  left_early : (r k : ℕ) (spot : Spot) → r ≤ length plan → k ≤ r → ((j : ℕ) → k ≤ j → j ≤ r → ¬ IsTaken (At input plan j) spot) → left_in plan r spot ≤ k
  left_early r k spot le low free = ⊎_elim
      (λ nought. omega arith)
      (λ (is : IsLeftSince input plan r spot (left_in plan r spot)). early (left_in plan r spot) is)
      (left_is r spot le)
    where
      early : (f : ℕ) → IsLeftSince input plan r spot f → f ≤ k
      early zero is = omega arith
      early (suc f) is = elim (cases_lt k (suc f)) [
        | inr fine ↦ fine
        | inl late ↦ absurd (free f (omega arith) (omega (arith, is.most)) (source_taken f spot (omega (arith, is.most)) is.left))
      ]

  pub covered_to : (r k : ℕ) (spot : Spot) → r ≤ length plan → k ≤ r → (IsTaken (At input plan k) spot → ⊥) → IsCoveredTo r k spot
  covered_to zero k spot le low free = inr (λ j from to. subst (λ (n : ℕ). ¬ IsTaken (At input plan n) spot) (let e : k ≡ j = omega arith in e) free)
  covered_to (suc r) k spot le low free = elim (cases_eq k (suc r)) [
    | inl last ↦ inr (λ j from to. subst (λ (n : ℕ). ¬ IsTaken (At input plan n) spot) (let e : k ≡ j = omega arith in e) free)
    | inr other ↦ more (omega arith) (covered_to r k spot (omega arith) (omega arith) free) (cases_Bool (list_any (λ (s : Shift). same_spot s.to spot) (round_at plan (suc r))))
  ]
    where
      here : Any (λ s. s.to ≡ spot) (round_at plan (suc r)) → k ≤ r → ((j : ℕ) → k ≤ j → j ≤ r → ¬ IsTaken (At input plan j) spot) → Any (Covers k spot) (map (ended_by (left_in plan r) (suc r)) (round_at plan (suc r)))
      here target within all = any_map (round_at plan (suc r)) target
        where
          any_map : (shifts : List Shift) → Any (λ s. s.to ≡ spot) shifts → Any (Covers k spot) (map (ended_by (left_in plan r) (suc r)) shifts)
          any_map [] any = let lt = any.2 in absurd (omega arith)
          any_map (s ∷ ss) (zero, x, lt, is, at) =
              let e : s.to ≡ spot = ap (λ (t : Shift). t.to) is ∙ at in
              (0, ended_by (left_in plan r) (suc r) s, omega arith, refl, (e, (subst (λ (p : Spot). left_in plan r p ≤ k) (sym e) (left_early r k spot (omega arith) within all), omega arith)))
          any_map (s ∷ ss) (suc n, x, lt, is, at) = let rest = any_map ss (n, x, omega arith, is, at) in (suc rest.0, rest.1, let low_rest = rest.2 in omega arith, rest.3, rest.4)

      more : k ≤ r → IsCoveredTo r k spot → (list_any (λ (s : Shift). same_spot s.to spot) (round_at plan (suc r)) ≡ true) ⊎ (list_any (λ (s : Shift). same_spot s.to spot) (round_at plan (suc r)) ≡ false) → IsCoveredTo (suc r) k spot
      more within (inl any) test = inl (any_left (Covers k spot) (ended_in plan r) _ any)
      more within (inr all) (inl target) = inl (any_right (Covers k spot) (ended_in plan r) _ (here (key_true (λ (s : Shift). s.to) (round_at plan (suc r)) spot target) within all))
      more within (inr all) (inr no_target) = inr (λ j from to. at j from to (cases_eq j (suc r)))
        where
          at : (j : ℕ) → k ≤ j → j ≤ suc r → (j ≡ suc r) ⊎ (j ≡ suc r → ⊥) → ¬ IsTaken (At input plan j) spot
          at j from to (inr before) = all j from (omega arith)
          at j from to (inl last) = subst (λ (n : ℕ). ¬ IsTaken (At input plan n) spot) (sym last)
              (stays_free r spot (omega arith) (key_false (λ (s : Shift). s.to) (round_at plan (suc r)) spot no_target) (all r within (omega arith)))

  -- a named spot is taken after some round
  named_taken : (spot : Spot) → IsNamed input plan spot → (j : ℕ) × (j ≤ length plan) × IsTaken (At input plan j) spot
  named_taken spot (inl now) = (0, omega arith, (now.0, slice_get-get_or input.spots now.0 spot now.1 ∙ ap Some now.2))
  named_taken spot (inr (zero, inl source)) = absurd (let none = source.2 in omega arith)
  named_taken spot (inr (zero, inr target)) = absurd (let none = target.2 in omega arith)
  named_taken spot (inr (suc r, inl source)) = elim (cases_lt r (length plan)) [
    | inl lt ↦ (r, omega arith, source_taken r spot lt source)
    | inr past ↦ absurd (let empty = no_round input valid plan runs r past in let lt = source.2 in omega arith)
  ]
  named_taken spot (inr (suc r, inr target)) = let lt = (target_facts input valid plan runs r spot target).0 in (suc r, omega arith, target_taken r spot lt target)

  -- Vacancies that no shift ends

  abbrev IsLast : Vacancy → Type 0
  IsLast v = (1 ≤ v.from) × (v.from ≡ left_in plan (length plan) v.spot) × (v.until ≡ suc (length plan))

  open_last : (r : ℕ) → All IsLast (open_in plan r)
  open_last zero = λ k d lt. absurd (omega arith)
  open_last (suc r) = All-append IsLast (open_in plan r) (open_of (left_in plan (length plan)) (suc (length plan)) (suc r) (round_at plan (suc r))) (open_last r)
      (All-map IsLast (begun_by (suc (length plan)) (suc r)) (filter (λ (s : Shift). left_in plan (length plan) s.from == suc r) (round_at plan (suc r)))
      (λ k d lt. (omega arith, sym (eqb-true _ _ (filter_passes (λ (s : Shift). left_in plan (length plan) s.from == suc r) (round_at plan (suc r)) k d lt)), refl)))

  -- a spot that was left in a round, and not filled since, has one
  open_any : (spot : Spot) (r until : ℕ) → left_in plan (length plan) spot ≡ r → (shifts : List Shift) → Any (λ s. s.from ≡ spot) shifts → Any (λ v. v.spot ≡ spot) (open_of (left_in plan (length plan)) until r shifts)
  open_any spot r until left [] any = let lt = any.2 in absurd (omega arith)
  open_any spot r until left (s ∷ ss) (zero, x, lt, is, at) =
      let from : s.from ≡ spot = ap (λ (t : Shift). t.from) is ∙ at in
      subst (λ (b : Bool). Any (λ v. v.spot ≡ spot) (map (begun_by until r) (cond b (s ∷ filter (λ (t : Shift). left_in plan (length plan) t.from == r) ss) (filter (λ (t : Shift). left_in plan (length plan) t.from == r) ss))))
      (sym (eq-eqb (left_in plan (length plan) s.from) r (ap (left_in plan (length plan)) from ∙ left)))
      (0, begun_by until r s, omega arith, refl, from)
  open_any spot r until left (s ∷ ss) (suc n, x, lt, is, at) = either (left_in plan (length plan) s.from == r) (open_any spot r until left ss (n, x, omega arith, is, at))
    where
      either : (b : Bool) → Any (λ v. v.spot ≡ spot) (map (begun_by until r) (filter (λ (t : Shift). left_in plan (length plan) t.from == r) ss))
          → Any (λ v. v.spot ≡ spot) (map (begun_by until r) (cond b (s ∷ filter (λ (t : Shift). left_in plan (length plan) t.from == r) ss) (filter (λ (t : Shift). left_in plan (length plan) t.from == r) ss)))
      either true any = (suc any.0, any.1, let lt_any = any.2 in omega arith, any.3, any.4)
      either false any = any

  open_all : (r : ℕ) (spot : Spot) (f : ℕ) → 1 ≤ f → f ≤ r → IsSource plan f spot → left_in plan (length plan) spot ≡ f → Any (λ v. v.spot ≡ spot) (open_in plan r)
  open_all zero spot f some most source left = absurd (omega arith)
  open_all (suc r) spot f some most source left = elim (cases_eq f (suc r)) [
    | inl last ↦ any_right (λ v. v.spot ≡ spot) (open_in plan r) (open_of (left_in plan (length plan)) (suc (length plan)) (suc r) (round_at plan (suc r)))
        (open_any spot (suc r) (suc (length plan)) (left ∙ last) (round_at plan (suc r)) (subst (λ (n : ℕ). IsSource plan n spot) last source))
    | inr other ↦ any_left (λ v. v.spot ≡ spot) (open_in plan r) (open_of (left_in plan (length plan)) (suc (length plan)) (suc r) (round_at plan (suc r)))
        (open_all r spot f some (omega arith) source left)
  ]

  last_left : (k : ℕ) (d : Vacancy) → k < length (open_in plan (length plan)) → IsLeftSince input plan (length plan) (get_or (open_in plan (length plan)) k d).spot (get_or (open_in plan (length plan)) k d).from
  last_left k d lt =
      let is = open_last (length plan) k d lt in
      subst (IsLeftSince input plan (length plan) (get_or (open_in plan (length plan)) k d).spot) (sym is.1)
      (⊎_elim (λ nought. absurd (let (one, from, until) = is in omega (arith, one, from, nought))) (λ was. was) (left_is (length plan) (get_or (open_in plan (length plan)) k d).spot (omega arith)))

  -- The whole table

  pub are_vacancies : AreVacancies input plan (vacancies_in plan)
  are_vacancies = record {
    named = All-append (λ (v : Vacancy). IsPlanSpot plan v.spot) (ended_in plan (length plan)) (open_in plan (length plan)) (ended_named (length plan) (omega arith))
        (λ k d lt. ((get_or (open_in plan (length plan)) k d).from, inl (last_left k d lt).left));
    free = All-append IsFreeAll (ended_in plan (length plan)) (open_in plan (length plan)) (ended_free (length plan) (omega arith)) (λ j d lt k most vacant. (last_left j d lt).free k vacant.0 most);
    all = λ k spot most named free. cover k spot most named free (covered_to (length plan) k spot (omega arith) most free);
  }
    where
      cover : (k : ℕ) (spot : Spot) → k ≤ length plan → IsNamed input plan spot → (IsTaken (At input plan k) spot → ⊥) → IsCoveredTo (length plan) k spot → Any (Covers k spot) (vacancies_in plan)
      cover k spot most named free (inl any) = any_left (Covers k spot) (ended_in plan (length plan)) (open_in plan (length plan)) any
      cover k spot most named free (inr all) =
          let taken = named_taken spot named in
          let some = was_left (length plan) taken.0 spot (omega arith) taken.1 taken.2 (all (length plan) most (omega arith)) in
          let early = left_early (length plan) k spot (omega arith) most all in
          any_right (Covers k spot) (ended_in plan (length plan)) (open_in plan (length plan)) (covers some early (left_is (length plan) spot (omega arith)))
        where
          covers : 1 ≤ left_in plan (length plan) spot → left_in plan (length plan) spot ≤ k → (left_in plan (length plan) spot ≡ 0) ⊎ IsLeftSince input plan (length plan) spot (left_in plan (length plan) spot) → Any (Covers k spot) (open_in plan (length plan))
          covers some early (inl nought) = absurd (omega arith)
          covers some early (inr was) =
              let any = open_all (length plan) spot (left_in plan (length plan) spot) some was.most was.left refl in
              let is = subst IsLast any.3 (open_last (length plan) any.0 any.1 any.2) in
              let from : any.1.from ≡ left_in plan (length plan) spot = is.1 ∙ ap (left_in plan (length plan)) any.4 in
              let until : any.1.until ≡ suc (length plan) = is.2 in
              (any.0, any.1, any.2, any.3, (any.4, (omega (arith, early, from), omega (arith, until, most))))

-- The steps of a loop over vacancies that erases those that last.
use Rattle.mig_mover.proofs.Common.{AllWithin, AreAsked, AreVacancies, At, Cell, HoldsZeros, Image, IsFreeSlot, IsNamed, IsTaken, IsTask, IsVacant}
use Rattle.mig_mover.proofs.Common.{List, SameBut, Spot, Task, Vacancy, ap, arith, cases_lt, get_or, inl, inr, length, named_on_disk, no_spot, not}
use Rattle.mig_mover.proofs.Common.{refl, slot_of, subst, sym, ℕ, ◌+◌, ◌<◌, ◌∙◌, ◌≡◌, ◌≤◌, ◌⊎◌}
use Rattle.mig_mover.proofs.EraseSteps.{zeros_stay}
use Rattle.mig_mover.proofs.TargetLaws.{next_within}

-- what a vacancy that isn't there would be
abbrev pub no_vacancy : Vacancy
no_vacancy = record { spot = no_spot; from = 0; until = 0 }

-- a vacancy lasts after k rounds or doesn't
pub cases_vacant : (v : Vacancy) (k : ℕ) → IsVacant v k ⊎ (IsVacant v k → ⊥)
cases_vacant v k = at (cases_lt k v.from) (cases_lt k v.until)
  where
    at : (k < v.from) ⊎ (v.from ≤ k) → (k < v.until) ⊎ (v.until ≤ k) → IsVacant v k ⊎ (IsVacant v k → ⊥)
    at (inl early) until = inr (λ vacant. let low = vacant.0 in omega arith)
    at (inr from) (inl until) = inl (from, until)
    at (inr from) (inr late) = inr (λ vacant. let high = vacant.1 in omega arith)

module _ {task : Task} (is : IsTask task) {vs : List Vacancy} (are : AreVacancies task.input task.plan vs) where
  module _ {i : ℕ} (lt : i < length vs) where
    abbrev pub the_vacancy : Vacancy
    the_vacancy = get_or vs i no_vacancy

    pub vacancy_disk : the_vacancy.spot.disk.0 < length task.input.disks
    vacancy_disk = named_on_disk task.input is.valid task.plan is.runs the_vacancy.spot (inr (are.named i no_vacancy lt))

    pub vacancy_free : {k : ℕ} → k ≤ length task.plan → (cell : Cell) → IsVacant the_vacancy k × (cell ≡ slot_of task.input the_vacancy.spot)
        → IsFreeSlot task.input task.plan k cell
    vacancy_free {k} most cell of = (the_vacancy.spot, inr (are.named i no_vacancy lt), are.free i no_vacancy lt k most of.0, sym of.1)

    pub vacancy_asked : (asked : Cell → Type 0) → AreAsked asked task → asked (slot_of task.input the_vacancy.spot)
    vacancy_asked asked all = all (slot_of task.input the_vacancy.spot) (the_vacancy.spot, are.named i no_vacancy lt, refl)

    -- one slot more is erased
    pub erased_more : {k : ℕ} {old new : Image} → SameBut (λ c. IsVacant the_vacancy k × (c ≡ slot_of task.input the_vacancy.spot)) old new
        → AllWithin (λ v. IsVacant v k → HoldsZeros (old (slot_of task.input v.spot))) vs 0 i
        → (IsVacant the_vacancy k → HoldsZeros (new (slot_of task.input the_vacancy.spot)))
        → AllWithin (λ v. IsVacant v k → HoldsZeros (new (slot_of task.input v.spot))) vs 0 (i + 1)
    erased_more {k} {old} {new} step sofar erased =
        next_within (λ (v : Vacancy). IsVacant v k → HoldsZeros (new (slot_of task.input v.spot))) vs i no_vacancy lt
        (λ j e low high vacant. kept _ (sofar j e low high vacant)) erased
      where
        kept : (cell : Cell) → HoldsZeros (old cell) → HoldsZeros (new cell)
        kept cell was = elim (cases_vacant the_vacancy k) [
          | inl vacant ↦ zeros_stay (slot_of task.input the_vacancy.spot) old new
              (record { same = λ c out. step.same c (λ of. out of.1); shape = step.shape }) (erased vacant) cell was
          | inr not ↦ subst HoldsZeros (sym (step.same cell (λ of. not of.0))) was
        ]

  -- what a loop found of each that lasts holds of each named spot that is free
  pub each_free : {k : ℕ} → k ≤ length task.plan → (P : Spot → Type 0) → AllWithin (λ v. IsVacant v k → P v.spot) vs 0 (length vs)
      → (spot : Spot) → IsNamed task.input task.plan spot → (IsTaken (At task.input task.plan k) spot → ⊥) → P spot
  each_free {k} most P all spot named free =
      let any = are.all k spot most named free in
      subst P (ap (λ (v : Vacancy). v.spot) any.3 ∙ any.4.0) (all any.0 any.1 (omega arith) any.2
      (subst (λ (v : Vacancy). IsVacant v k) (sym any.3) any.4.1))

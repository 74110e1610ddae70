-- What `plan-tight` promises, from the causes of its outcomes and what it leaves.
use Rattle.mig_top.proofs.Common.{AcceptedTight-IsInput, Call, Done, EndsAs, Files, Form, FormCause, Found, HasNoPlan, HasPlannedTight, InputRefusal, IsInput, IsListed, IsOutcomeOf, IsSomeAnd, IsTightSaved}
use Rattle.mig_top.proofs.Common.{InputLists, IsTightWrong, List, Names, NoFreeSlot, None, Option, Outcome, PlanTight, PlansTightWell, Refused, Some, StandsBy, Step, Tight, TooMany, WorldEnds, and_then}
use Rattle.mig_top.proofs.Common.{arith, input_code, finds, fits_tight, inl, inr, input_by, refl, subst, sym, ℕ, ◌≡◌}
use Rattle.mig_tight.proofs.RunningPlans.{runs_fits, runs_free}
use Rattle.mig_top.proofs.EndsOf.{told_at}
use Rattle.mig_top.proofs.Exactness.{input_by_exact}
use Rattle.mig_top.proofs.Headline.{loads_stop, some_and_map}
use Rattle.mig_top.proofs.Making.{IsMaker, Means, makes_well}
use Rattle.mig_top.proofs.Plainly.{found_input, input_found}
use Rattle.mig_top.proofs.Steps.{follow}

-- what is wrong says that no plan can be carried out, and has this status
wrong_no_plan : (input : InputLists) → IsInput input → (f : InputRefusal) → IsTightWrong input f → HasNoPlan input
wrong_no_plan input is (TooMany name needs slots) (v, over, named) =
    λ plan ran. absurd (omega (arith, over.over, over.needs_is, over.slots_is, runs_fits input is plan ran v over.there))
wrong_no_plan input is NoFreeSlot (fits, move, none) = λ plan ran. none (runs_free input is plan ran move)
wrong_no_plan input is _ h = absurd h

wrong_code : (input : InputLists) (f : InputRefusal) → IsTightWrong input f → input_code f ≡ 13
wrong_code input (TooMany name needs slots) h = refl
wrong_code input NoFreeSlot h = refl
wrong_code input _ h = absurd h

-- what is left of it once its input is known
abbrev rest : InputLists → Step (List ℕ)
rest input = and_then (fits_tight input) (λ _. finds (λ text. Unit {0}))

means_rest : (input : InputLists) (o : Outcome) → IsOutcomeOf (rest input) o → Means (IsTightWrong input) o
means_rest input (Done text) h = tt
means_rest input (Found f) (inl wrong) = wrong
means_rest input (Found f) (inr none) = absurd none.2
means_rest input _ (inl none) = absurd none
means_rest input _ (inr none) = absurd none.2

module _ (k : Call) (names : Names) (files : Files) (is : k.before.folder.files ≡ Some files) where
  abbrev form : Form
  form = PlanTight names

  -- where status 13 comes, the files stand for an input
  stopped : (f : InputRefusal) → input_code f ≡ 13 → FormCause files k.before.store form (Found f) → (input : InputLists) × StandsBy Tight files names input × IsTightWrong input f
  stopped (Refused f n w) at h = absurd (omega (arith, at))
  stopped f at (inl (inl h)) = absurd (loads_stop files names (Found f) h)
  stopped f at (inl (inr (bodies, there, none))) = absurd none
  stopped f at (inr (input, held, h)) = (input, found_input Tight files names input held, means_rest input (Found f) h)

  -- what was saved can be carried out
  ran : (input : InputLists) → StandsBy Tight files names input → HasNoPlan input → (text : List ℕ) (new : Option Files) → IsSomeAnd new (IsTightSaved names text files) → ⊥
  ran input held none text None h = h
  ran input held none text (Some new) h =
      let same = (input_by_exact Tight names files).one_found h.input input (input_found Tight files names h.input h.stands) (input_found Tight files names input held) in
      subst HasNoPlan (sym same) none h.texts.rounds h.texts.made.runs

  saved : (text : List ℕ) → WorldEnds k form (Done text) → IsSomeAnd k.after.folder.files (IsTightSaved names text files)
  saved text h = told_at (λ old. IsSomeAnd k.after.folder.files (IsTightSaved names text old)) k.before.folder.files files is h.leaves

  maker : IsMaker k form files (StandsBy Tight files names) HasNoPlan IsTightWrong 13
  maker = record {
    means = λ input held o h. means_rest input o (follow (input_by Tight names files) (input_by_exact Tight names files) rest input (input_found Tight files names input held) o h);
    stopped = stopped;
    cannot = λ input held. wrong_no_plan input (AcceptedTight-IsInput held.bodies input held.read);
    has_number = wrong_code;
    undone = λ input held none text h. ran input held none text k.after.folder.files (saved text h);
    uncut = λ text h. h;
    unbegun = λ before h. h;
  }

  pub plans_tight_well : {words : List (List ℕ)} {status : ℕ} → EndsAs k words status → IsListed words form → PlansTightWell k files names status
  plans_tight_well ends l = makes_well is maker (omega arith) (omega arith) (HasPlannedTight k names files)
      (λ text h put. some_and_map (IsTightSaved names text files) (HasPlannedTight k names files) k.after.folder.files (λ new is. (text, is, put)) (saved text h)) ends l

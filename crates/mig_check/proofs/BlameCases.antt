-- Which blame is the first, behind what was found right.
use Rattle.mig_check.proofs.Common.{At, Blame, Bool, Cert, ClassDiffers, EmptyRound, Err, Even, FirstBlame, IfErr, IsArrivedAt, IsCertBlame, IsClear, IsFirstOfPlan, IsLeast, IsLegal, IsListOf}
use Rattle.mig_check.proofs.Common.{InputLists, IsMovedTooOften, IsOnceBlame, IsRunBlame, IsSo, IsTrue, ItemId, Layout, List, LoadDiffers, Memory, MovedTooOften, NotHere, Nothing, Ok, Once, OverLimit}
use Rattle.mig_check.proofs.Common.{QuotientDiffers, Result, RoundBlame, RoundsDiffer, Runs, Shift, SlotNotFree, Spot, TwiceInRound, ValueDiffers, WrongEnd, arith, cases_lt, class_of}
use Rattle.mig_check.proofs.Common.{clear_from_rounds, cond, counted_load, false, inl, inr, is_relocated, later, layout_of, length, order, quotient, refl, round_at, shift_count, stated_load}
use Rattle.mig_check.proofs.Common.{subst, suc, transfer_graph, true, ℕ, ⊎_elim, ◌*◌, ◌+◌, ◌<◌, ◌≡◌, ◌≤◌, ◌⊎◌}

-- each round can be carried out, and what has a number below n is right
pub record IsRightBelow (input : InputLists) (plan : List (List Shift)) (cert : Cert) (n : ℕ) : Type 0 where
  pub rounds : (r : ℕ) → r < length plan → IsLegal input (At input plan r) (round_at plan (suc r))
  pub arrives : 6 < n → (item : ℕ) → item < length input.items → IsArrivedAt input (At input plan (length plan)) item
  pub once : 7 < n → (item : ℕ) → ¬ IsMovedTooOften input plan item
  pub count : 8 < n → cert.rounds ≡ length plan
  pub greatest : 9 < n → cert.quotient ≡ quotient (transfer_graph input)
  pub class : 10 < n → cert.class ≡ class_of (transfer_graph input)
  pub loads : 11 < n → stated_load cert.bound ≡ counted_load (transfer_graph input) cert.bound

module _ (input : InputLists) (plan : List (List Shift)) (cert : Cert) where
  past : ((r : ℕ) → r < length plan → IsLegal input (At input plan r) (round_at plan (suc r))) → (b : Blame) → IsSo input plan cert b → 5 * length plan + 5 < order plan b
  past rounds b so =
      let e : 5 * (length plan + 1) ≡ 5 * length plan + 5 = omega arith in
      later input plan cert (5 * length plan + 5) (omega arith) (subst (IsClear input plan) e (clear_from_rounds input plan (length plan) rounds)) b so

  not_before : (n : ℕ) → n ≤ 12 → IsRightBelow input plan cert n → (b : Blame) → IsSo input plan cert b → 5 * length plan + n ≤ order plan b
  not_before n most right (EmptyRound r) so = absurd (omega (arith, past right.rounds (EmptyRound r) so, so.0.1))
  not_before n most right (NotHere r item) so = absurd (omega (arith, past right.rounds (NotHere r item) so, so.0.1))
  not_before n most right (TwiceInRound r item) so = absurd (omega (arith, past right.rounds (TwiceInRound r item) so, so.0.1))
  not_before n most right (SlotNotFree r item) so = absurd (omega (arith, past right.rounds (SlotNotFree r item) so, so.0.1))
  not_before n most right (OverLimit r disk count) so = absurd (omega (arith, past right.rounds (OverLimit r disk count) so, so.0.1))
  not_before n most right (WrongEnd item) so = elim (cases_lt 6 n) [ inl lt ↦ absurd (so.holds.1 (right.arrives lt item.0 so.holds.0)) | inr ge ↦ omega (arith, ge) ]
  not_before n most right (MovedTooOften item count) so = elim (cases_lt 7 n) [ inl lt ↦ absurd (right.once lt item.0 so.0.holds) | inr ge ↦ omega (arith, ge) ]
  not_before n most right (RoundsDiffer kept counted) so = elim (cases_lt 8 n) [ inl lt ↦ absurd (so.2 (right.count lt)) | inr ge ↦ omega (arith, ge) ]
  not_before n most right (QuotientDiffers kept counted) so = elim (cases_lt 9 n) [ inl lt ↦ absurd (so.2 (right.greatest lt)) | inr ge ↦ omega (arith, ge) ]
  not_before n most right ClassDiffers so = elim (cases_lt 10 n) [ inl lt ↦ absurd (so (right.class lt)) | inr ge ↦ omega (arith, ge) ]
  not_before n most right (LoadDiffers kept counted) so = elim (cases_lt 11 n) [ inl lt ↦ absurd (so.2 (right.loads lt)) | inr ge ↦ omega (arith, ge) ]
  not_before n most right (ValueDiffers kept counted) so = omega (arith, most)
  not_before n most right Memory so = absurd so

  -- the blame that is so right behind is the first
  pub FirstBlame-behind : (n : ℕ) → n ≤ 12 → IsRightBelow input plan cert n → (b : Blame) → order plan b ≡ 5 * length plan + n → IsSo input plan cert b → FirstBlame input plan cert b
  FirstBlame-behind n most right b place so = record { so = so; first = λ c h. omega (arith, not_before n most right c h, place) }

-- where each round can be carried out, nothing else is asked below 6
pub IsRightBelow-six : (input : InputLists) (plan : List (List Shift)) (cert : Cert) → ((r : ℕ) → r < length plan → IsLegal input (At input plan r) (round_at plan (suc r))) → IsRightBelow input plan cert 6
IsRightBelow-six input plan cert rounds = record {
  rounds = rounds;
  arrives = λ h. absurd (omega (arith, h));
  once = λ h. absurd (omega (arith, h));
  count = λ h. absurd (omega (arith, h));
  greatest = λ h. absurd (omega (arith, h));
  class = λ h. absurd (omega (arith, h));
  loads = λ h. absurd (omega (arith, h));
}

module _ (input : InputLists) (plan : List (List Shift)) where
  whatever : (b : Blame) → (b ≡ Memory → ⊥) → ((cert : Cert) → (b ≡ Memory) ⊎ FirstBlame input plan cert b) → IsFirstOfPlan input plan b
  whatever b other each = λ cert. ⊎_elim (λ e. absurd (other e)) (λ first. first) (each cert)

  -- a round's blame is one of the plan
  pub run_blame : (layout : Layout) (round : List Shift) (r : ℕ) (b : Blame) → RoundBlame input layout round r b → ((cert : Cert) → (b ≡ Memory) ⊎ FirstBlame input plan cert b) → IsRunBlame input plan b
  run_blame layout round r (EmptyRound q) h each = whatever (EmptyRound q) (λ e. cc) each
  run_blame layout round r (NotHere q item) h each = whatever (NotHere q item) (λ e. cc) each
  run_blame layout round r (TwiceInRound q item) h each = whatever (TwiceInRound q item) (λ e. cc) each
  run_blame layout round r (SlotNotFree q item) h each = whatever (SlotNotFree q item) (λ e. cc) each
  run_blame layout round r (OverLimit q disk count) h each = whatever (OverLimit q disk count) (λ e. cc) each
  run_blame layout round r Memory h each = tt
  run_blame layout round r _ h each = absurd h

  any_cert : Cert
  any_cert = record { rounds = 0; quotient = 0; class = Even; bound = Nothing }

  module _ (runs : Runs input plan) where
    in_rounds : (b : Blame) → IsFirstOfPlan input plan b → 5 * length plan + 5 < order plan b
    in_rounds b first = past input plan any_cert runs.rounds b (first any_cert).so

    -- a plan that runs is blamed for nothing
    pub runs_blameless : (b : Blame) → IsRunBlame input plan b → b ≡ Memory
    runs_blameless (EmptyRound r) first = absurd (omega (arith, in_rounds (EmptyRound r) first, (first any_cert).so.0.1))
    runs_blameless (NotHere r item) first = absurd (omega (arith, in_rounds (NotHere r item) first, (first any_cert).so.0.1))
    runs_blameless (TwiceInRound r item) first = absurd (omega (arith, in_rounds (TwiceInRound r item) first, (first any_cert).so.0.1))
    runs_blameless (SlotNotFree r item) first = absurd (omega (arith, in_rounds (SlotNotFree r item) first, (first any_cert).so.0.1))
    runs_blameless (OverLimit r disk count) first = absurd (omega (arith, in_rounds (OverLimit r disk count) first, (first any_cert).so.0.1))
    runs_blameless (WrongEnd item) first = absurd (let so = (first any_cert).so in so.holds.1 (runs.arrives item.0 so.holds.0))
    runs_blameless Memory first = refl
    runs_blameless _ first = absurd first

-- the ends, over the list that is kept for the last layout
module _ (input : InputLists) (plan : List (List Shift)) (spots : List Spot) (rounds : (r : ℕ) → r < length plan → IsLegal input (At input plan r) (round_at plan (suc r))) (list : IsListOf (At input plan (length plan)) spots) where
  same : layout_of spots ≡ At input plan (length plan)
  same = λ j item. list item j

  pub wrong_end : (cert : Cert) (item : ItemId) → IsLeast (λ i. (i < length input.items) × ¬ IsArrivedAt input (layout_of spots) i) item.0 → FirstBlame input plan cert (WrongEnd item)
  wrong_end cert item least =
      FirstBlame-behind input plan cert 6 (omega arith) (IsRightBelow-six input plan cert rounds) (WrongEnd item) refl
      (subst (λ (l : Layout). IsLeast (λ i. (i < length input.items) × ¬ IsArrivedAt input l i) item.0) same least)

  pub all_arrived : ((item : ℕ) → item < length input.items → IsArrivedAt input (layout_of spots) item) → Runs input plan
  all_arrived arrived = record { rounds = rounds; arrives = λ item there. subst (λ (l : Layout). IsArrivedAt input l item) same (arrived item there) }

-- a result that is Err for a blame of a plan that runs is so for want of memory alone
pub only_memory : {X : Type 0} (input : InputLists) (plan : List (List Shift)) (result : Result X Blame) → IfErr result (IsRunBlame input plan) → Runs input plan → IfErr result (λ blame. blame ≡ Memory)
only_memory input plan (Ok x) h runs = h
only_memory input plan (Err b) h runs = runs_blameless input plan runs b h

-- each part's blame is the first, behind the parts that were found right
pub first_of_run : (input : InputLists) (plan : List (List Shift)) (cert : Cert) (b : Blame) → IsRunBlame input plan b → (b ≡ Memory) ⊎ FirstBlame input plan cert b
first_of_run input plan cert (EmptyRound r) h = inr (h cert)
first_of_run input plan cert (NotHere r item) h = inr (h cert)
first_of_run input plan cert (TwiceInRound r item) h = inr (h cert)
first_of_run input plan cert (SlotNotFree r item) h = inr (h cert)
first_of_run input plan cert (OverLimit r disk count) h = inr (h cert)
first_of_run input plan cert (WrongEnd item) h = inr (h cert)
first_of_run input plan cert Memory h = inl refl
first_of_run input plan cert _ h = absurd h

never_over : {X : Type 0} (a : ℕ) → a < a → X
never_over a h = absurd (omega (arith, h))

module _ (input : InputLists) (plan : List (List Shift)) (cert : Cert) (runs : Runs input plan) where
  seven : IsRightBelow input plan cert 7
  seven = record {
    rounds = runs.rounds;
    arrives = λ h. runs.arrives;
    once = never_over 7;
    count = λ h. absurd (omega (arith, h));
    greatest = λ h. absurd (omega (arith, h));
    class = λ h. absurd (omega (arith, h));
    loads = λ h. absurd (omega (arith, h));
  }

  pub first_of_once : (b : Blame) → IsOnceBlame input plan b → (b ≡ Memory) ⊎ FirstBlame input plan cert b
  first_of_once (MovedTooOften item count) h = inr (FirstBlame-behind input plan cert 7 (omega arith) seven (MovedTooOften item count) refl h)
  first_of_once Memory h = inl refl
  first_of_once _ h = absurd h

  module _ (once : Once input plan) where
    once_at : (b : Bool) (n : ℕ) → n ≡ cond b 1 0 → (1 < n) ⊎ ((0 < n) × ¬ IsTrue b) → ⊥
    once_at true n e (inl more) = omega (arith, e, more)
    once_at true n e (inr some) = some.1 refl
    once_at false n e (inl more) = omega (arith, e, more)
    once_at false n e (inr some) = omega (arith, e, some.0)

    not_too_often : (item : ℕ) → ¬ IsMovedTooOften input plan item
    not_too_often item h = once_at (is_relocated input item) (shift_count plan item) (once item h.0) h.1

    -- what is right below a number that the certificate's blames have
    behind : (n : ℕ) → (8 < n → cert.rounds ≡ length plan) → (9 < n → cert.quotient ≡ quotient (transfer_graph input)) → (10 < n → cert.class ≡ class_of (transfer_graph input)) → (11 < n → stated_load cert.bound ≡ counted_load (transfer_graph input) cert.bound) → IsRightBelow input plan cert n
    behind n rounds quotients classes loads = record {
      rounds = runs.rounds;
      arrives = λ h. runs.arrives;
      once = λ h. not_too_often;
      count = rounds;
      greatest = quotients;
      class = classes;
      loads = loads;
    }

    pub first_of_cert : (b : Blame) → IsCertBlame input plan cert b → (b ≡ Memory) ⊎ FirstBlame input plan cert b
    first_of_cert (RoundsDiffer kept counted) h = inr (FirstBlame-behind input plan cert 8 (omega arith) (behind 8 (never_over 8) (λ lt. absurd (omega (arith, lt))) (λ lt. absurd (omega (arith, lt))) (λ lt. absurd (omega (arith, lt)))) (RoundsDiffer kept counted) refl h)
    first_of_cert (QuotientDiffers kept counted) h = inr (FirstBlame-behind input plan cert 9 (omega arith) (behind 9 (λ lt. h.0) (never_over 9) (λ lt. absurd (omega (arith, lt))) (λ lt. absurd (omega (arith, lt)))) (QuotientDiffers kept counted) refl h.1)
    first_of_cert ClassDiffers h = inr (FirstBlame-behind input plan cert 10 (omega arith) (behind 10 (λ lt. h.0) (λ lt. h.1) (never_over 10) (λ lt. absurd (omega (arith, lt)))) ClassDiffers refl h.2)
    first_of_cert (LoadDiffers kept counted) h = inr (FirstBlame-behind input plan cert 11 (omega arith) (behind 11 (λ lt. h.0) (λ lt. h.1) (λ lt. h.2) (never_over 11)) (LoadDiffers kept counted) refl h.3)
    first_of_cert (ValueDiffers kept counted) h = inr (FirstBlame-behind input plan cert 12 (omega arith) (behind 12 (λ lt. h.0) (λ lt. h.1) (λ lt. h.2) (λ lt. h.3)) (ValueDiffers kept counted) refl h.4)
    first_of_cert Memory h = inl refl
    first_of_cert _ h = absurd h

-- The two saves of `plan`.
use Rattle.mig_top.proofs.Common.{AreSaved, Files, IfSome, IsPlanSaved, IsSomeAnd, List, Names, None, Option, OthersStay, PlanTexts, Roomy}
use Rattle.mig_top.proofs.Common.{Saves, Some, plans_texts, subst, ℕ, ◌∙◌, ◌≡◌, ◌≢◌}
use Rattle.mig_top.proofs.Plainly.{found_input}

module _ (names : Names) (cert : List ℕ) (apart : names.plan ≢ cert) (texts : PlanTexts) where
  is_saved : (old m new : Files) → (plans_texts names old).Passes texts → Saves names.plan texts.plan old m → OthersStay cert m new → IsPlanSaved names cert texts.cert old new
  is_saved old m new made a others = record {
    input = made.0;
    stands = found_input Roomy old names made.0 made.1;
    plan_text = texts.plan;
    texts = made.2;
    saved = others names.plan apart ∙ a.saved;
    others = λ other p c. others other c ∙ a.others other p;
  }

  -- what the two saves leave, where only the second may have failed
  module _ (Left : Files → Files → Type 0) (Rest : Files → Files → Type 0)
      (leaves : (old m new : Files) → (plans_texts names old).Passes texts → Saves names.plan texts.plan old m → Rest m new → Left old new) where
    by_middle : (old : Files) (middle after : Option Files) → (plans_texts names old).Passes texts → IsSomeAnd middle (Saves names.plan texts.plan old)
        → IfSome middle (λ m. IsSomeAnd after (Rest m)) → IsSomeAnd after (Left old)
    by_middle old None after h a b = absurd a
    by_middle old (Some m) None h a b = absurd b
    by_middle old (Some m) (Some new) h a b = leaves old m new h a b

    saves_leave : (before loaded middle after : Option Files) → loaded ≡ before → IfSome before (λ files. (plans_texts names files).Passes texts)
        → IfSome loaded (λ old. IsSomeAnd middle (Saves names.plan texts.plan old))
        → IfSome middle (λ m. IsSomeAnd after (Rest m)) → IfSome before (λ old. IsSomeAnd after (Left old))
    saves_leave None loaded middle after same h a b = tt
    saves_leave (Some old) loaded middle after same h a b = by_middle old middle after h (subst (λ (o : Option Files). IfSome o (λ f. IsSomeAnd middle (Saves names.plan texts.plan f))) same a) b

  pub are_saved : (before loaded middle after : Option Files) → loaded ≡ before → IfSome before (λ files. (plans_texts names files).Passes texts)
      → IfSome loaded (λ old. IsSomeAnd middle (Saves names.plan texts.plan old))
      → IfSome middle (λ m. IsSomeAnd after (Saves cert texts.cert m)) → IfSome before (λ old. IsSomeAnd after (AreSaved names cert texts.cert old))
  are_saved = saves_leave (AreSaved names cert texts.cert) (Saves cert texts.cert) (λ old m new h a b. (is_saved old m new h a b.others, b.saved))

  pub half_saved : (before loaded middle after : Option Files) → loaded ≡ before → IfSome before (λ files. (plans_texts names files).Passes texts)
      → IfSome loaded (λ old. IsSomeAnd middle (Saves names.plan texts.plan old))
      → IfSome middle (λ m. IsSomeAnd after (OthersStay cert m)) → IfSome before (λ old. IsSomeAnd after (λ new. (text : List ℕ) × IsPlanSaved names cert text old new))
  half_saved = saves_leave (λ old new. (text : List ℕ) × IsPlanSaved names cert text old new) (OthersStay cert) (λ old m new h a b. (texts.cert, is_saved old m new h a b))

-- The one save of `plan-tight`, and that of `drain`.
use Rattle.mig_top.proofs.Common.{DrainTexts, Files, IfSome, IsDrainSaved, IsSomeAnd, IsTightSaved, List, Names, None, Option, Saves, Some}
use Rattle.mig_top.proofs.Common.{Tight, TightTexts, empties_texts, plans_tight_texts, subst, ℕ, ◌≡◌}
use Rattle.mig_top.proofs.Plainly.{found_input}
use Rattle.mig_top.specs.drain.Texts.{IsDrainFound}
use Rattle.mig_top.specs.plan_tight.Texts.{IsTightFound}

-- what a save does to files for which something was made
module _ (Made : Files → Type 0) (Does Leaves : Files → Files → Type 0) (leaves : (old new : Files) → Made old → Does old new → Leaves old new) where
  by_end : (old : Files) (end : Option Files) → Made old → IsSomeAnd end (Does old) → IsSomeAnd end (Leaves old)
  by_end old None made does = absurd does
  by_end old (Some new) made does = leaves old new made does

  pub save_leaves : (before loaded end : Option Files) → loaded ≡ before → IfSome before Made → IfSome loaded (λ old. IsSomeAnd end (Does old)) → IfSome before (λ old. IsSomeAnd end (Leaves old))
  save_leaves None loaded end same made does = tt
  save_leaves (Some old) loaded end same made does = by_end old end made (subst (λ (o : Option Files). IfSome o (λ f. IsSomeAnd end (Does f))) same does)

-- what was made, and what it is once it is saved
pub tight_found : (names : Names) (texts : TightTexts) (old : Files) → (plans_tight_texts names old).Passes texts → IsTightFound names old
tight_found names texts old made = (made.0, found_input Tight old names made.0 made.1, texts, made.2.2)

pub tight_saved : (names : Names) (texts : TightTexts) (old new : Files) → (plans_tight_texts names old).Passes texts → Saves names.plan texts.plan old new → IsTightSaved names texts.told old new
tight_saved names texts old new made save = record {
  input = made.0;
  stands = found_input Tight old names made.0 made.1;
  plan_text = texts.plan;
  texts = made.2.2;
  saved = save.saved;
  others = save.others;
}

pub drain_found : (disks now name : List ℕ) (texts : DrainTexts) (old : Files) → (empties_texts disks now name old).Passes texts → IsDrainFound disks now name old
drain_found disks now name texts old (input, stands, (v, named, (u, fits, made))) = (input, stands, v, named, texts, made)

pub drain_saved : (disks now name next : List ℕ) (texts : DrainTexts) (old new : Files) → (empties_texts disks now name old).Passes texts → Saves next texts.next old new
    → IsDrainSaved disks now name next texts.told old new
drain_saved disks now name next texts old new (input, stands, (v, named, (u, fits, made))) save = record {
  input = input;
  stands = stands;
  disk = v;
  named = named;
  next_text = texts.next;
  texts = made;
  saved = save.saved;
  others = save.others;
}

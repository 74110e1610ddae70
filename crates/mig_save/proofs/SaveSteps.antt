-- How changes under a name go one after another.
use Rattle.mig_save.proofs.Common.{Content, IsTrue, NoContent, SaveChange, SaveState, Stays, arith, inl, inr, ◌∙◌, ◌⊎◌}

pub change_then : (P : Content → Type 0) (a b c : SaveState) → SaveChange P a b → SaveChange P b c → SaveChange P a c
change_then P a b c first then = record {
  told = then.told ∙ first.told;
  listed = then.listed ∙ first.listed;
  crash = λ content left. back content (then.crash content left);
  later = omega (arith, first.later, then.later);
  since = λ t content le left. elim (then.since t content (omega (arith, le, first.later)) left) [
    | inl was ↦ first.since t content le was
    | inr some ↦ inr (back content some)
  ];
  counted = omega (arith, first.counted, then.counted);
}
  where
    back : (content : Content) → b.may_leave content ⊎ P content → a.may_leave content ⊎ P content
    back content (inl was) = first.crash content was
    back content (inr p) = inr p

pub stays_then : (a b c : SaveState) → Stays a b → Stays b c → Stays a c
stays_then a b c first then = record { stands = then.stands ∙ first.stands; change = change_then NoContent a b c first.change then.change }

-- what is told stays told
pub told_after : (a b : SaveState) → Stays a b → IsTrue a.told → IsTrue b.told
told_after a b kept told = kept.change.told ∙ told

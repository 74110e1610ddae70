use Rattle.mig_words.proofs.Common.{Form, IsListed, List, MatchOption, [], arith, form_of, subst, sym, ℕ, ◌∷◌}
use Rattle.mig_words.proofs.Lists.{spelled_so}
use Rattle.mig_words.proofs.words.read_words.Goals as goal

pub returns-in-len5 : goal.returns-in-len5
returns-in-len5 c =
    subst (λ (ws : List (List ℕ)). MatchOption c.over_four_words.result ((form : Form) → IsListed ws form → ⊥) (λ command. IsListed ws (form_of command)))
    (sym (spelled_so c.args.words.now (c.as_str-in-len5.result.now ∷ c.as_str-in-len5-2.result.now ∷ c.as_str-in-len5-3.result.now ∷ c.as_str-in-len5-4.result.now ∷ c.as_str-in-len5-5.result.now ∷ [])
    (omega (arith, c.in-len5.len_at_least, c.in-len5.len_below))
    (c.command-item-then-words-lt6.result, c.command-item-then-words-lt6.is, c.as_str-in-len5.ensures.value, (c.disks-item-then-words-lt6.result, c.disks-item-then-words-lt6.is, c.as_str-in-len5-2.ensures.value, (c.now-item-then-words-lt6.result, c.now-item-then-words-lt6.is, c.as_str-in-len5-3.ensures.value, (c.third-item.result, c.third-item.is, c.as_str-in-len5-4.ensures.value, (c.fourth-item.result, c.fourth-item.is, c.as_str-in-len5-5.ensures.value, tt)))))))
    c.over_four_words.ensures

pub returns-in-len6 : goal.returns-in-len6
returns-in-len6 c =
    subst (λ (ws : List (List ℕ)). MatchOption c.over_five_files.result ((form : Form) → IsListed ws form → ⊥) (λ command. IsListed ws (form_of command)))
    (sym (spelled_so c.args.words.now (c.as_str-in-len6-5.result.now ∷ c.as_str-in-len6.result.now ∷ c.as_str-in-len6-2.result.now ∷ c.as_str-in-len6-3.result.now ∷ c.as_str-in-len6-4.result.now ∷ c.as_str-in-len6-6.result.now ∷ [])
    (omega (arith, c.in-len6.len_at_least, c.in-len6.len_below))
    (c.command-item-then-words-lt7.result, c.command-item-then-words-lt7.is, c.as_str-in-len6-5.ensures.value, (c.disks-item-then-words-lt7.result, c.disks-item-then-words-lt7.is, c.as_str-in-len6.ensures.value, (c.now-item-then-words-lt7.result, c.now-item-then-words-lt7.is, c.as_str-in-len6-2.ensures.value, (c.next-item.result, c.next-item.is, c.as_str-in-len6-3.ensures.value, (c.plan-item.result, c.plan-item.is, c.as_str-in-len6-4.ensures.value, (c.last-item.result, c.last-item.is, c.as_str-in-len6-6.ensures.value, tt))))))))
    c.over_five_files.ensures

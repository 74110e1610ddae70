-- What a crash leaves while the journal is armed.
use Rattle.mig_journal.proofs.Common.{AreUnmarked, Cell, ChangesOnly, Gate, Head, IfSome, Image, IsArming, IsFresh, IsJournal, IsMark, IsSettled, LeavesOnly, List, Mark, Option, SameBut, State}
use Rattle.mig_journal.proofs.Common.{[], ap, changes_leave, changes_wider, false, false≢true, inl, inr, is_armed, is_one, leaves_then, same_image, same_then, same_wider, subst, sym, true, ℕ}
use Rattle.mig_journal.proofs.Common.{◌∙◌, ◌∷◌, ◌≡◌, ◌⊎◌}
use Rattle.mig_journal.proofs.Steps.{then_step}

-- the marks and the head
abbrev pub IsName : ℕ → Cell → Type 0
IsName rounds cell = (cell ≡ Head) ⊎ IsMark rounds cell

name_is_journal : (rounds : ℕ) (cell : Cell) → IsName rounds cell → IsJournal rounds cell
name_is_journal rounds cell (inl head) = inl head
name_is_journal rounds cell (inr mark) = inr (inr mark)

gate_is_no_name : (rounds : ℕ) → IsName rounds Gate → ⊥
gate_is_no_name rounds (inl head) = cc
gate_is_no_name rounds (inr mark) = let e = mark.3 in cc

fresh_same : (rounds : ℕ) (digest : List ℕ) (old new : Image) → SameBut (λ c. c ≡ Gate) old new → IsFresh rounds digest old → IsFresh rounds digest new
fresh_same rounds digest old new same fresh = record {
  head = subst (λ (o : Option (List ℕ)). IfSome o (λ bytes. bytes ≡ digest)) (sym (same.same Head (λ e. cc))) fresh.head;
  marks = λ n low high. subst (λ (o : Option (List ℕ)). IfSome o (λ bytes. bytes ≡ 0 ∷ [])) (sym (same.same (Mark n) (λ e. cc))) (fresh.marks n low high);
}

pub unmarked_kept : (rounds : ℕ) (old new : Image) → SameBut (λ c. c ≡ Head) old new → AreUnmarked rounds old → AreUnmarked rounds new
unmarked_kept rounds old new same zeros n low high = subst (λ (o : Option (List ℕ)). IfSome o (λ bytes. bytes ≡ 0 ∷ [])) (sym (same.same (Mark n) (λ e. cc))) (zeros n low high)

module _ (rounds : ℕ) (digest : List ℕ) (old : State) (idle : (image : Image) → old.may_leave image → is_armed image ≡ false) where
  -- while the gate isn't 1
  arming_idle : (before image : Image) → old.may_leave before → SameBut (IsName rounds) before image → IsArming rounds digest old image
  arming_idle before image left same = record {
    before = before;
    left = left;
    others = same_wider (IsName rounds) (IsJournal rounds) (name_is_journal rounds) before image same;
    fresh = λ armed. absurd (false≢true (sym (ap is_one (same.same Gate (gate_is_no_name rounds)) ∙ idle before left) ∙ armed));
  }

  module _ (cleared : State) (clear : ChangesOnly (IsMark rounds) old cleared) where
    pub clear_change : ChangesOnly (IsJournal rounds) old cleared
    clear_change = changes_wider (IsJournal rounds) (IsJournal rounds) (IsMark rounds) (IsMark rounds) (λ cell mark. inr (inr mark)) (λ cell mark. inr (inr mark)) [] old cleared clear

    pub clear_leaves : LeavesOnly (IsArming rounds digest old) old cleared
    clear_leaves = changes_leave (IsArming rounds digest old) (IsMark rounds) (IsMark rounds) [] old cleared clear
        (λ before image left same. arming_idle before image left (same_wider (IsMark rounds) (IsName rounds) (λ cell mark. inr mark) before image same))

    module _ (named : State) (name : ChangesOnly (λ c. c ≡ Head) cleared named) where
      to_named : ChangesOnly (IsName rounds) old named
      to_named = then_step (IsName rounds) old cleared (λ c. c ≡ Head) named (λ cell head. inl head)
          (changes_wider (IsName rounds) (IsName rounds) (IsMark rounds) (IsMark rounds) (λ cell mark. inr mark) (λ cell mark. inr mark) [] old cleared clear) name

      pub name_change : ChangesOnly (IsJournal rounds) old named
      name_change = then_step (IsJournal rounds) old cleared (λ c. c ≡ Head) named (λ cell head. inl head) clear_change name

      pub name_leaves : LeavesOnly (IsArming rounds digest old) old named
      name_leaves = changes_leave (IsArming rounds digest old) (IsName rounds) (IsName rounds) [] old named to_named arming_idle

      module _ (armed : State) (gate : ChangesOnly (λ c. c ≡ Gate) named armed) where
        pub gate_change : ChangesOnly (IsJournal rounds) old armed
        gate_change = then_step (IsJournal rounds) old named (λ c. c ≡ Gate) armed (λ cell is. inr (inl is)) name_change gate

        pub gate_leaves : IsSettled named → IsFresh rounds digest named.reads → LeavesOnly (IsArming rounds digest old) old armed
        gate_leaves settled fresh = leaves_then (IsArming rounds digest old) old named armed name_leaves
            (changes_leave (IsArming rounds digest old) (λ c. c ≡ Gate) (λ c. c ≡ Gate) [] named armed gate step)
          where
            step : (before image : Image) → named.may_leave before → SameBut (λ c. c ≡ Gate) before image → IsArming rounds digest old image
            step before image left same =
                let first = name_change.crash before left in
                record {
                  before = first.0;
                  left = first.1;
                  others = same_then (IsJournal rounds) first.0 before image first.2 (same_wider (λ c. c ≡ Gate) (IsJournal rounds) (λ cell is. inr (inl is)) before image same);
                  fresh = λ set. fresh_same rounds digest before image same (subst (IsFresh rounds digest) (same_image named.reads before (settled before left)) fresh);
                }

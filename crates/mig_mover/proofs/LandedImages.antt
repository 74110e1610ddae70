-- What reads give once each copy in flight has ended is one image.
use Rattle.mig_mover.proofs.Common.{All, AreFlights, Cell, Flight, Image, IsCopy, IsLanded, IsSome, IsTargetOf, List, None, Option, Some, State}
use Rattle.mig_mover.proofs.Common.{Tells, [], ap, arith, cases_Bool, false, false≢true, flights, inl, inr, is_slot, length, option_map, refl}
use Rattle.mig_mover.proofs.Common.{same_image, subst, suc, sym, told_kept, true, zero, ℕ, ◌∙◌, ◌∷◌, ◌≡◌, ◌⊎◌}
use Rattle.mig_base.proofs.CellTests.{is_cell-same, is_cell-true}
use Rattle.mig_base.proofs.Common.{is_cell}

target_or_not : (fs : List Flight) (cell : Cell) → IsTargetOf fs cell ⊎ (IsTargetOf fs cell → ⊥)
target_or_not [] cell = inr (λ any. let lt = any.2 in absurd (omega arith))
target_or_not (f ∷ fs) cell = by (cases_Bool (is_cell f.to cell)) (target_or_not fs cell)
  where
    by : (is_cell f.to cell ≡ true) ⊎ (is_cell f.to cell ≡ false) → IsTargetOf fs cell ⊎ (IsTargetOf fs cell → ⊥) → IsTargetOf (f ∷ fs) cell ⊎ (IsTargetOf (f ∷ fs) cell → ⊥)
    by (inl here) rest = inl (0, f, omega arith, refl, is_cell-true f.to cell here)
    by (inr not) (inl any) = let lt = any.2 in inl (suc any.0, any.1, omega arith, any.3, any.4)
    by (inr not) (inr none) = inr out
      where
        out : IsTargetOf (f ∷ fs) cell → ⊥
        out (zero, g, lt, is, at) = false≢true (sym not ∙ is_cell-same f.to cell (ap (λ (h : Flight). h.to) is ∙ at))
        out (suc k, g, lt, is, at) = none (k, g, omega arith, is, at)

-- two copies of a cell that is told
copies_same : (from x y : Option (List ℕ)) → IsSome from → IsCopy from x → IsCopy from y → option_map length y ≡ option_map length x → y ≡ x
copies_same None x y told p q same = absurd (false≢true told)
copies_same (Some bytes) None None told p q same = refl
copies_same (Some bytes) (Some x) (Some y) told p q same = ap Some (q ∙ sym p)
copies_same (Some bytes) None (Some y) told p q same = absurd cc
copies_same (Some bytes) (Some x) None told p q same = absurd cc

module _ (store : State) (image : Image) (landed : IsLanded store image) where
  copy_at : (cell : Cell) → (any : IsTargetOf (flights store) cell) → IsCopy (store.reads any.1.from) (image cell)
  copy_at cell any = subst (λ (to : Cell). IsCopy (store.reads any.1.from) (image to)) any.4 (subst (λ (f : Flight). IsCopy (store.reads f.from) (image f.to)) any.3 (landed.copied any.0 any.1 any.2))

  -- copies in flight reach slots alone
  pub journal_landed : AreFlights (flights store) → (cell : Cell) → is_slot cell ≡ false → image cell ≡ store.reads cell
  journal_landed are cell none = landed.others.same cell (λ any.
      let slot : is_slot any.1.to ≡ true = (subst (λ (f : Flight). (is_slot f.from ≡ true) × (is_slot f.to ≡ true)) any.3 (are.slots any.0 any.1 any.2)).1 in
      false≢true (sym none ∙ ap is_slot (sym any.4) ∙ slot))

  pub told_landed : (P : Cell → Type 0) → Tells P store.reads → Tells P image
  told_landed P tells cell of = told_kept (IsTargetOf (flights store)) store.reads image landed.others cell (tells cell of)

module _ (store : State) (sources : All (λ c. IsSome (store.reads c.from)) (flights store)) where
  pub one_image : (a b : Image) → IsLanded store a → IsLanded store b → a ≡ b
  one_image a b first second = same_image a b (record { same = λ cell out. same cell (target_or_not (flights store) cell); shape = shape })
    where
      shape : (cell : Cell) → option_map length (b cell) ≡ option_map length (a cell)
      shape cell = second.others.shape cell ∙ sym (first.others.shape cell)

      same : (cell : Cell) → IsTargetOf (flights store) cell ⊎ (IsTargetOf (flights store) cell → ⊥) → b cell ≡ a cell
      same cell (inl any) = copies_same (store.reads any.1.from) (a cell) (b cell) (subst (λ (f : Flight). IsSome (store.reads f.from)) any.3 (sources any.0 any.1 any.2))
          (copy_at store a first cell any) (copy_at store b second cell any) (shape cell)
      same cell (inr none) = second.others.same cell none ∙ sym (first.others.same cell none)

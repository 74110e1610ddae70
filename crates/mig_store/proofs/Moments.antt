-- What one call more in a record changes.
use Rattle.mig_store.proofs.Common.{Cell, CellBytes, Changes, Event, Flight, HaveLength, Held, IfSome, Image, IsLaid, IsLeftBut, IsMoment, IsSomeAnd, IsUnsettled, LeftSince, List, MayLeave, StoreCall}
use Rattle.mig_store.proofs.Common.{Moment, None, Option, SameBut, Some, [], after, after_call, ap, arith, begin_with, cases_Bool, cases_cell, cases_lt, cell_len, change_at, cond, cond-false}
use Rattle.mig_store.proofs.Common.{cond-true, events_none, false≢true, fold-append, inl, inr, is_cell, is_cell-other, is_cell-same, length, length-append, not, option_map, reads, refl}
use Rattle.mig_store.proofs.Common.{same_none, state_at, subst, sym, take-append-le, take_all, true, ℕ, ◌++◌, ◌<◌, ◌∙◌, ◌∷◌, ◌≡◌, ◌≤◌, ◌⊎◌}
use Rattle.mig_store.proofs.CellLists.{change_at-other, change_at-here}

pub after-push : (first : List (Held (List ℕ))) (calls : List StoreCall) (call : StoreCall) → after first (calls ++ call ∷ []) ≡ after_call (after first calls) call
after-push first calls call = fold-append after_call (begin_with first) calls (call ∷ [])

-- nothing was recorded
pub unrecorded : (P Q : Cell → Type 0) (first : List (Held (List ℕ))) (calls : List StoreCall) (a b : ℕ) → Changes P Q [] (state_at first calls a) (state_at first calls b)
unrecorded P Q first calls a b = record {
  told = same_none P (reads (after first calls));
  crash = λ image left. (image, left, same_none Q image);
  time = record { later = omega arith; since = λ t image le left. inl left };
  keeps = λ t image le left. left;
  images = λ told. told;
  events = events_none (Some (after first calls).events);
}

module _ (first : List (Held (List ℕ))) (calls : List StoreCall) (call : StoreCall) (P Q : Cell → Type 0) (added : List Event) where
  abbrev pub before : Moment
  before = after first calls

  abbrev pub next : Moment
  next = after_call before call

  module _ (told : SameBut P (reads before) (reads next)) (crash : (image : Image) → MayLeave next image → (old : Image) × MayLeave before old × SameBut Q old image)
      (events : next.events ≡ before.events ++ added) (a b : ℕ) where
    crash_pushed : (image : Image) → MayLeave (after first (calls ++ call ∷ [])) image → (old : Image) × MayLeave before old × SameBut Q old image
    crash_pushed = subst (λ (m : Moment). (image : Image) → MayLeave m image → (old : Image) × MayLeave before old × SameBut Q old image) (sym (after-push first calls call)) crash

    since : (t : ℕ) (image : Image) (left : LeftSince first (calls ++ call ∷ []) t image) → (length calls < left.0) ⊎ (left.0 ≤ length calls) → LeftSince first calls t image ⊎ IsLeftBut Q (state_at first calls a) image
    since t image left (inl past) = inr (crash_pushed image (subst (λ (l : List StoreCall). MayLeave (after first l) image) (take_all left.0 (calls ++ call ∷ []) (omega (arith, length-append calls (call ∷ [])))) left.3))
    since t image left (inr within) = inl (left.0, left.1, within, subst (λ (l : List StoreCall). MayLeave (after first l) image) (take-append-le left.0 calls (call ∷ []) within) left.3)

    -- a call was recorded
    pub recorded : Changes P Q added (state_at first calls a) (state_at first (calls ++ call ∷ []) b)
    recorded = record {
      told = subst (λ (m : Moment). SameBut P (reads before) (reads m)) (sym (after-push first calls call)) told;
      crash = crash_pushed;
      time = record { later = omega (arith, length-append calls (call ∷ [])); since = λ t image le left. since t image left (cases_lt (length calls) left.0) };
      keeps = λ t image le left. (
        left.0,
        left.1,
        omega (arith, length-append calls (call ∷ []), left.2),
        subst (λ (l : List StoreCall). MayLeave (after first l) image) (sym (take-append-le left.0 calls (call ∷ []) left.2)) left.3,
      );
      images = λ was. subst (λ (m : Moment). MayLeave m (reads m)) (sym (after-push first calls call)) (same_none (IsUnsettled next) (reads next));
      events = ap Some (ap (λ (m : Moment). m.events) (after-push first calls call) ∙ events);
    }

-- one cell is asked to hold other bytes of its length, or shows those that it was asked to hold
module _ (m n : Moment) (is_moment : IsMoment m) (f : CellBytes → CellBytes) (cell : Cell) (changed : n.cells ≡ change_at f cell m.cells) (shape : (c : CellBytes) → HaveLength (cell_len cell) c → HaveLength (cell_len cell) (f c)) where
  at_other : (other : Cell) → (other ≡ cell → ⊥) → n.cells other ≡ m.cells other
  at_other other not = ap (λ (cells : Cell → Option CellBytes). cells other) changed ∙ change_at-other f cell m.cells other not

  at_cell : n.cells cell ≡ option_map f (m.cells cell)
  at_cell = ap (λ (cells : Cell → Option CellBytes). cells cell) changed ∙ change_at-here f cell m.cells

  pub changed_lengths : (other : Cell) → IfSome (n.cells other) (HaveLength (cell_len other))
  changed_lengths other = elim (cases_cell other cell) [
    | inl is ↦ subst (λ (c : Cell). IfSome (n.cells c) (HaveLength (cell_len c))) (sym is) (subst (λ (o : Option CellBytes). IfSome o (HaveLength (cell_len cell))) (sym at_cell) (here (m.cells cell) (is_moment.lengths cell)))
    | inr not ↦ subst (λ (o : Option CellBytes). IfSome o (HaveLength (cell_len other))) (sym (at_other other not)) (is_moment.lengths other)
  ]
    where
      here : (o : Option CellBytes) → IfSome o (HaveLength (cell_len cell)) → IfSome (option_map f o) (HaveLength (cell_len cell))
      here None long = tt
      here (Some c) long = shape c long

  pub changed_told : SameBut (λ c. c ≡ cell) (reads m) (reads n)
  changed_told = record { same = λ other not. ap (λ (o : Option CellBytes). option_map (λ (c : CellBytes). c.shown) o) (at_other other not); shape = kept }
    where
      here : (o : Option CellBytes) → IfSome o (HaveLength (cell_len cell)) → option_map length (option_map (λ (c : CellBytes). c.shown) (option_map f o)) ≡ option_map length (option_map (λ (c : CellBytes). c.shown) o)
      here None long = refl
      here (Some c) long = ap Some ((shape c long).shown ∙ sym long.shown)

      kept : (other : Cell) → option_map length (reads n other) ≡ option_map length (reads m other)
      kept other = elim (cases_cell other cell) [
        | inl is ↦ subst (λ (c : Cell). option_map length (reads n c) ≡ option_map length (reads m c)) (sym is)
            (ap (λ (o : Option CellBytes). option_map length (option_map (λ (c : CellBytes). c.shown) o)) at_cell ∙ here (m.cells cell) (is_moment.lengths cell))
        | inr not ↦ ap (λ (o : Option CellBytes). option_map length (option_map (λ (c : CellBytes). c.shown) o)) (at_other other not)
      ]

  abbrev pub changed_back : Image → Image
  changed_back image other = cond (is_cell cell other) (reads m other) (image other)

  -- an image now is one before, with other bytes at the cell
  pub changed_crash : (image : Image) → MayLeave n image → (old : Image) × MayLeave m old × SameBut (λ c. c ≡ cell) old image
  changed_crash image left = (changed_back image, record { same = settled; shape = old_shape }, record { same = others; shape = λ other. left.shape other ∙ changed_told.shape other ∙ sym (old_shape other) })
    where
      settled : (other : Cell) → ¬ IsUnsettled m other → changed_back image other ≡ reads m other
      settled other out = elim (cases_Bool (is_cell cell other)) [
        | inl is ↦ cond-true _ _ _ is
        | inr not ↦ let apart : other ≡ cell → ⊥ = λ e. false≢true (sym not ∙ is_cell-same cell other (sym e)) in
            cond-false _ _ _ not ∙ left.same other (λ un. out (subst (λ (o : Option CellBytes). IsSomeAnd o (λ c. c.unsettled ≡ true)) (at_other other apart) un)) ∙ changed_told.same other apart
      ]

      old_shape : (other : Cell) → option_map length (changed_back image other) ≡ option_map length (reads m other)
      old_shape other = elim (cases_Bool (is_cell cell other)) [
        | inl is ↦ ap (λ (o : Option (List ℕ)). option_map length o) (cond-true _ _ _ is)
        | inr not ↦ ap (λ (o : Option (List ℕ)). option_map length o) (cond-false _ _ _ not) ∙ left.shape other ∙ changed_told.shape other
      ]

      others : (other : Cell) → (other ≡ cell → ⊥) → image other ≡ changed_back image other
      others other not = sym (cond-false _ _ _ (is_cell-other cell other (λ e. not (sym e))))

  -- a copy that doesn't touch the cell stays laid
  pub changed_laid : (g : Flight) → (g.from ≡ cell → ⊥) → (g.to ≡ cell → ⊥) → IsLaid m g → IsLaid n g
  changed_laid g from to laid = subst (λ (o : Option CellBytes). IsSomeAnd o (λ source. IsSomeAnd (n.cells g.to) (λ target. (target.asked ≡ source.shown) × (target.unsettled ≡ true)))) (sym (at_other g.from from))
      (subst (λ (o : Option CellBytes). IsSomeAnd (m.cells g.from) (λ source. IsSomeAnd o (λ target. (target.asked ≡ source.shown) × (target.unsettled ≡ true)))) (sym (at_other g.to to)) laid)

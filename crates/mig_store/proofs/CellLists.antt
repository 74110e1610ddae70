-- Cells that are held in a list.
use Rattle.mig_store.proofs.Common.{AreDifferent, Bool, Cell, Contains, Contains-get_or, Gate, HasLengths, Head, Held, IfSome, List, Mark, None}
use Rattle.mig_store.proofs.Common.{Option, SameBut, Slot, Some, [], ap, arith, cases_Bool, cell_len, cell_of, change_at, cond, cond-false, cond-true}
use Rattle.mig_store.proofs.Common.{false, false≢true, get_or, get_or_from_slice_get, held_at, held_map, inl, inr, is_cell, is_cell-other}
use Rattle.mig_store.proofs.Common.{is_cell-same, is_cell-true, length, length-map, length-replicate, map, option_map, put_at, refl, set, slice_get}
use Rattle.mig_store.proofs.Common.{slice_get_within, subst, suc, sym, true, zero, zero_held, ℕ, ◌<◌, ◌∙◌, ◌∷◌, ◌≡◌, ◌≤◌}
use Rattle.std.proofs.lemmas.List.{get_or-map}

module _ {T : Type 0} where
  -- the first that is held
  pub held_at-at : (held : List (Held T)) (cell : Cell) (i : ℕ) (d : Held T) → i < length held → ((j : ℕ) → j < i → is_cell (get_or held j d).cell cell ≡ false) → is_cell (get_or held i d).cell cell ≡ true → held_at held cell ≡ Some (get_or held i d).value
  held_at-at [] cell i d lt none at = absurd (omega arith)
  held_at-at (h ∷ held) cell zero d lt none at = cond-true _ _ _ at
  held_at-at (h ∷ held) cell (suc i) d lt none at = cond-false _ _ _ (none 0 (omega arith)) ∙ held_at-at held cell i d (omega arith) (λ j less. none (suc j) (omega arith)) at

  pub held_at-none : (held : List (Held T)) (cell : Cell) → ((j : ℕ) (d : Held T) → j < length held → is_cell (get_or held j d).cell cell ≡ false) → held_at held cell ≡ None
  held_at-none [] cell none = refl
  held_at-none (h ∷ held) cell none = cond-false _ _ _ (none 0 h (omega arith)) ∙ held_at-none held cell (λ j d less. none (suc j) d (omega arith))

  key_at : (held : List (Held T)) (i : ℕ) (d : Held T) → i < length held → get_or (map cell_of held) i d.cell ≡ (get_or held i d).cell
  key_at held i d lt = get_or-map cell_of held i d d.cell lt

  -- a cell that is found at a place among different cells
  module _ (held : List (Held T)) (cell : Cell) (i : ℕ) (found : slice_get (map cell_of held) i ≡ Some cell) where
    pub found_within : i < length held
    found_within = subst (λ n. i < n) (length-map held cell_of) (slice_get_within (map cell_of held) i cell found)

    pub found_here : (d : Held T) → is_cell (get_or held i d).cell cell ≡ true
    found_here d = is_cell-same _ _ (sym (key_at held i d found_within) ∙ get_or_from_slice_get (map cell_of held) i cell d.cell found)

    pub found_first : AreDifferent (map cell_of held) → (j : ℕ) (d : Held T) → j < i → is_cell (get_or held j d).cell cell ≡ false
    found_first different j d less = is_cell-other _ _ (λ same. different j i d.cell less (slice_get_within (map cell_of held) i cell found)
        (key_at held j d (omega (arith, less, found_within)) ∙ same ∙ sym (get_or_from_slice_get (map cell_of held) i cell d.cell found)))

  pub not_found : (held : List (Held T)) (cell : Cell) → ¬ (Contains (map cell_of held) cell) → (j : ℕ) (d : Held T) → j < length held → is_cell (get_or held j d).cell cell ≡ false
  not_found held cell none j d lt = is_cell-other _ _ (λ same. none (subst (Contains (map cell_of held)) (key_at held j d lt ∙ same) (Contains-get_or (map cell_of held) j d.cell (subst (λ n. j < n) (sym (length-map held cell_of)) lt))))

  module _ (f : T → T) (cell : Cell) where
    pub change_at-none : (cells : Cell → Option T) → cells cell ≡ None → (other : Cell) → change_at f cell cells other ≡ cells other
    change_at-none cells none other = elim (cases_Bool (is_cell cell other)) [
      | inl is ↦ let e : cells other ≡ None = ap cells (sym (is_cell-true cell other is)) ∙ none in cond-true _ _ _ is ∙ ap (λ (o : Option T). option_map f o) e ∙ sym e
      | inr not ↦ cond-false _ _ _ not
    ]

    pub change_at-other : (cells : Cell → Option T) (other : Cell) → (other ≡ cell → ⊥) → change_at f cell cells other ≡ cells other
    change_at-other cells other not = cond-false _ _ _ (is_cell-other cell other (λ e. not (sym e)))

    pub change_at-here : (cells : Cell → Option T) → change_at f cell cells cell ≡ option_map f (cells cell)
    change_at-here cells = cond-true _ _ _ (is_cell-same cell cell refl)

    -- another value at the first of a cell
    pub held_at-set : (held : List (Held T)) (i : ℕ) (d new : Held T) → i < length held → ((j : ℕ) → j < i → is_cell (get_or held j d).cell cell ≡ false) → is_cell (get_or held i d).cell cell ≡ true
        → new.cell ≡ (get_or held i d).cell → new.value ≡ f (get_or held i d).value → (other : Cell) → held_at (set held i new) other ≡ change_at f cell (held_at held) other
    held_at-set [] i d new lt none at named value other = absurd (omega arith)
    held_at-set (h ∷ held) zero d new lt none at named value other =
        let e : h.cell ≡ cell = is_cell-true h.cell cell at in
        elim (cases_Bool (is_cell cell other)) [
          | inl is ↦ cond-true _ _ _ (ap (λ (c : Cell). is_cell c other) (named ∙ e) ∙ is) ∙ ap Some value
              ∙ sym (cond-true _ _ _ is ∙ ap (λ (o : Option T). option_map f o) (cond-true _ _ _ (ap (λ (c : Cell). is_cell c other) e ∙ is)))
          | inr not ↦ cond-false _ _ _ (ap (λ (c : Cell). is_cell c other) (named ∙ e) ∙ not)
              ∙ sym (cond-false _ _ _ not ∙ cond-false _ _ _ (ap (λ (c : Cell). is_cell c other) e ∙ not))
        ]
    held_at-set (h ∷ held) (suc i) d new lt none at named value other = elim (cases_Bool (is_cell h.cell other)) [
      | inl is ↦ cond-true _ _ _ is ∙ sym (cond-false _ _ _ (apart is) ∙ cond-true _ _ _ is)
      | inr not ↦ cond-false _ _ _ not ∙ held_at-set held i d new (omega arith) (λ j less. none (suc j) (omega arith)) at named value other
          ∙ sym (ap (λ (o : Option T). cond (is_cell cell other) (option_map f o) o) (cond-false _ _ _ not))
    ]
      where
        apart : is_cell h.cell other ≡ true → is_cell cell other ≡ false
        apart is = is_cell-other cell other (λ same. false≢true (sym (none 0 (omega arith)) ∙ is_cell-same h.cell cell (is_cell-true h.cell other is ∙ sym same)))

-- what a look-up among different cells says of what is held
module _ {T : Type 0} (held : List (Held T)) (cell : Cell) where
  pub held_at-absent : ¬ (Contains (map cell_of held) cell) → held_at held cell ≡ None
  held_at-absent none = held_at-none held cell (not_found held cell none)

  module _ (i : ℕ) (found : slice_get (map cell_of held) i ≡ Some cell) (different : AreDifferent (map cell_of held)) where
    pub held_at-found : (d : Held T) → held_at held cell ≡ Some (get_or held i d).value
    held_at-found d = held_at-at held cell i d (found_within held cell i found) (λ j less. found_first held cell i found different j d less) (found_here held cell i found d)

    pub held_at-change : (f : T → T) (new d : Held T) → new.cell ≡ (get_or held i d).cell → new.value ≡ f (get_or held i d).value → held_at (set held i new) ≡ change_at f cell (held_at held)
    held_at-change f new d named value = λ p other.
        held_at-set f cell held i d new (found_within held cell i found) (λ j less. found_first held cell i found different j d less) (found_here held cell i found d) named value other p

-- another value keeps the cells
pub cells_of-map : {T U : Type 0} (f : T → U) (held : List (Held T)) → map cell_of (map (held_map f) held) ≡ map cell_of held
cells_of-map f [] = refl
cells_of-map f (h ∷ held) = ap (λ (l : List Cell). h.cell ∷ l) (cells_of-map f held)

-- what a list holds whose values are mapped
pub held_at-map : {T U : Type 0} (f : T → U) (held : List (Held T)) (cell : Cell) → held_at (map (held_map f) held) cell ≡ option_map f (held_at held cell)
held_at-map f [] cell = refl
held_at-map {T} {U} f (h ∷ held) cell = at (is_cell h.cell cell) (held_at-map f held cell)
  where
    at : (b : Bool) → held_at (map (held_map f) held) cell ≡ option_map f (held_at held cell) → cond b (Some (f h.value)) (held_at (map (held_map f) held) cell) ≡ option_map f (cond b (Some h.value) (held_at held cell))
    at true rest = refl
    at false rest = rest

pub cell_len-most : (cell : Cell) → cell_len cell ≤ 4096
cell_len-most (Slot d s) = omega arith
cell_len-most Head = omega arith
cell_len-most Gate = omega arith
cell_len-most (Mark n) = omega arith

-- cells of zeros have their lengths
pub zero-lengths : (cells : List Cell) → HasLengths (map zero_held cells)
zero-lengths [] cell = tt
zero-lengths (c ∷ cells) cell = elim (cases_Bool (is_cell c cell)) [
  | inl is ↦ subst (λ (o : Option (List ℕ)). IfSome o (λ b. length b ≡ cell_len cell)) (sym (cond-true _ _ _ is)) (length-replicate (cell_len c) 0 ∙ ap cell_len (is_cell-true c cell is))
  | inr not ↦ subst (λ (o : Option (List ℕ)). IfSome o (λ b. length b ≡ cell_len cell)) (sym (cond-false _ _ _ not)) (zero-lengths cells cell)
]

-- they are of these cells
pub cells_of-zero : (cells : List Cell) → map cell_of (map zero_held cells) ≡ cells
cells_of-zero [] = refl
cells_of-zero (c ∷ cells) = ap (λ (l : List Cell). c ∷ l) (cells_of-zero cells)

-- other bytes of the cell's length
module _ (cell : Cell) (bytes : List ℕ) (fits : length bytes ≡ cell_len cell) (cells : Cell → Option (List ℕ)) (lengths : (c : Cell) → IfSome (cells c) (λ b. length b ≡ cell_len c)) where
  pub put_at-lengths : (other : Cell) → IfSome (put_at cell bytes cells other) (λ b. length b ≡ cell_len other)
  put_at-lengths other = elim (cases_Bool (is_cell cell other)) [
    | inl is ↦ subst (λ (o : Option (List ℕ)). IfSome o (λ b. length b ≡ cell_len other)) (sym (cond-true _ _ _ is)) (here (cells other) (ap cell_len (is_cell-true cell other is)))
    | inr not ↦ subst (λ (o : Option (List ℕ)). IfSome o (λ b. length b ≡ cell_len other)) (sym (cond-false _ _ _ not)) (lengths other)
  ]
    where
      here : (o : Option (List ℕ)) → cell_len cell ≡ cell_len other → IfSome (option_map (λ old. bytes) o) (λ b. length b ≡ cell_len other)
      here None same = tt
      here (Some old) same = fits ∙ same

  pub put_at-but : SameBut (λ c. c ≡ cell) cells (put_at cell bytes cells)
  put_at-but = record { same = λ other not. change_at-other (λ old. bytes) cell cells other not; shape = shape }
    where
      shape : (other : Cell) → option_map length (put_at cell bytes cells other) ≡ option_map length (cells other)
      shape other = elim (cases_Bool (is_cell cell other)) [
        | inl is ↦ ap (λ (o : Option (List ℕ)). option_map length o) (cond-true _ _ _ is) ∙ here (cells other) (ap cell_len (is_cell-true cell other is)) (lengths other)
        | inr not ↦ ap (λ (o : Option (List ℕ)). option_map length o) (cond-false _ _ _ not)
      ]
        where
          here : (o : Option (List ℕ)) → cell_len cell ≡ cell_len other → IfSome o (λ b. length b ≡ cell_len other) → option_map length (option_map (λ old. bytes) o) ≡ option_map length o
          here None same long = refl
          here (Some old) same long = ap Some (fits ∙ same ∙ sym long)

  pub put_at-here : IfSome (put_at cell bytes cells cell) (λ told. told ≡ bytes)
  put_at-here = subst (λ (o : Option (List ℕ)). IfSome o (λ told. told ≡ bytes)) (sym (cond-true _ _ _ (is_cell-same cell cell refl))) (here (cells cell))
    where
      here : (o : Option (List ℕ)) → IfSome (option_map (λ old. bytes) o) (λ told. told ≡ bytes)
      here None = tt
      here (Some old) = refl

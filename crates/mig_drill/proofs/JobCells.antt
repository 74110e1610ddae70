-- The cells by which a plan is carried out, gathered one by one.
use Rattle.mig_drill.proofs.Common.{Any, AreJobCells, Bool, Cell, Contains, Contains-append_left, Contains-from_any, Contains-push, Contains-push_cases, Flight, IsEndOf}
use Rattle.mig_drill.proofs.Common.{AddsCells, IsJobCell, IsMark, List, Mark, None, Option, Shift, Some, Task, [], any_contains, ap, arith}
use Rattle.mig_drill.proofs.Common.{cases_eq, cases_lt, cond, eq-value, false, flight_of, flights_of, get_or, get_or_from_slice_get, get_or_past, inl, inr, insert_key, length}
use Rattle.mig_drill.proofs.Common.{list_any, option_map, refl, round_at, same_cells, slice_get, slice_get-get_or, slice_get-map, slice_get_within, slot_of, subst, suc, sym, true, zero, ℕ}
use Rattle.mig_drill.proofs.Common.{⊎_elim, ◌++◌, ◌+◌, ◌<◌, ◌↔◌, ◌∙◌, ◌∷◌, ◌≡◌, ◌≤◌, ◌⊎◌}
use Rattle.mig_base.specs.declared.cells.Cell.TheVariants.{Head, Gate}

abbrev eq : Cell → Cell → Bool
eq = eq-value.it

-- Joining cells

module _ (P : Cell → Type 0) (old mid : List Cell) (joins : AddsCells P old mid) where
  -- one cell more
  pub joins_one : (k : Cell) → AddsCells (λ c. P c ⊎ (c ≡ k)) old (insert_key eq mid k)
  joins_one k c = at (list_any (eq k) mid) refl
    where
      at : (b : Bool) → list_any (eq k) mid ≡ b → Contains (insert_key eq mid k) c ↔ (Contains old c ⊎ (P c ⊎ (c ≡ k)))
      at true has = subst (λ (l : List Cell). Contains l c ↔ (Contains old c ⊎ (P c ⊎ (c ≡ k)))) (sym (ap (λ b. cond b mid (mid ++ k ∷ [])) has)) (
        λ in_mid. ⊎_elim (λ was. inl was) (λ p. inr (inl p)) ((joins c).0 in_mid),
        λ any. elim any [
          | inl was ↦ (joins c).1 (inl was)
          | inr (inl p) ↦ (joins c).1 (inr p)
          | inr (inr same) ↦ subst (λ (x : Cell). Contains mid x) (sym same) (Contains-from_any same_cells k mid has)
        ],
      )
      at false none = subst (λ (l : List Cell). Contains l c ↔ (Contains old c ⊎ (P c ⊎ (c ≡ k)))) (sym (ap (λ b. cond b mid (mid ++ k ∷ [])) none)) (
        λ in_new. elim (Contains-push_cases mid k c in_new) [
          | inl in_mid ↦ ⊎_elim (λ was. inl was) (λ p. inr (inl p)) ((joins c).0 in_mid)
          | inr same ↦ inr (inr (sym same))
        ],
        λ any. elim any [
          | inl was ↦ Contains-append_left mid (k ∷ []) c ((joins c).1 (inl was))
          | inr (inl p) ↦ Contains-append_left mid (k ∷ []) c ((joins c).1 (inr p))
          | inr (inr same) ↦ subst (λ (x : Cell). Contains (mid ++ k ∷ []) x) (sym same) (Contains-push mid k)
        ],
      )

  -- the same cells in other words
  pub joins_as : (Q : Cell → Type 0) → ((c : Cell) → P c → Q c) → ((c : Cell) → Q c → P c) → AddsCells Q old mid
  joins_as Q to from c = (λ has. ⊎_elim (λ was. inl was) (λ p. inr (to c p)) ((joins c).0 has), λ any. (joins c).1 (⊎_elim (λ was. inl was) (λ q. inr (from c q)) any))

  pub joins_then : (Q : Cell → Type 0) (new : List Cell) → AddsCells Q mid new → AddsCells (λ c. P c ⊎ Q c) old new
  joins_then Q new more c = (
    λ has. elim ((more c).0 has) [
      | inl in_mid ↦ ⊎_elim (λ was. inl was) (λ p. inr (inl p)) ((joins c).0 in_mid)
      | inr q ↦ inr (inr q)
    ],
    λ any. elim any [
      | inl was ↦ (more c).1 (inl ((joins c).1 (inl was)))
      | inr (inl p) ↦ (more c).1 (inl ((joins c).1 (inr p)))
      | inr (inr q) ↦ (more c).1 (inr q)
    ],
  )

pub joins_none : (P : Cell → Type 0) (cells : List Cell) → ((c : Cell) → P c → ⊥) → AddsCells P cells cells
joins_none P cells none c = (λ has. inl has, λ any. ⊎_elim (λ was. was) (λ p. absurd (none c p)) any)

-- The ends of a round's copies

-- one of the first copies reads the cell, or writes it
abbrev pub IsEndBefore : List Flight → ℕ → Cell → Type 0
IsEndBefore fs n cell = (k : ℕ) × (f : Flight) × (k < n) × (slice_get fs k ≡ Some f) × ((f.from ≡ cell) ⊎ (f.to ≡ cell))

same_some : (f g : Flight) → Some f ≡ Some g → f ≡ g
same_some f g e = cc

module _ (fs : List Flight) (n : ℕ) (f : Flight) (at : slice_get fs n ≡ Some f) where
  ends_both : (old mid : List Cell) → AddsCells (IsEndBefore fs n) old mid → AddsCells (IsEndBefore fs (n + 1)) old (insert_key eq (insert_key eq mid f.from) f.to)
  ends_both old mid joins =
      let first = joins_one (IsEndBefore fs n) old mid joins f.from in
      let both = joins_one (λ c. IsEndBefore fs n c ⊎ (c ≡ f.from)) old (insert_key eq mid f.from) first f.to in
      joins_as (λ c. (IsEndBefore fs n c ⊎ (c ≡ f.from)) ⊎ (c ≡ f.to)) old (insert_key eq (insert_key eq mid f.from) f.to) both (IsEndBefore fs (n + 1)) to from
    where
      to : (c : Cell) → (IsEndBefore fs n c ⊎ (c ≡ f.from)) ⊎ (c ≡ f.to) → IsEndBefore fs (n + 1) c
      to c (inl (inl (k, g, less, here, end))) = (k, g, omega arith, here, end)
      to c (inl (inr same)) = (n, f, omega arith, at, inl (sym same))
      to c (inr same) = (n, f, omega arith, at, inr (sym same))

      from : (c : Cell) → IsEndBefore fs (n + 1) c → (IsEndBefore fs n c ⊎ (c ≡ f.from)) ⊎ (c ≡ f.to)
      from c (k, g, less, here, end) = by (cases_eq k n)
        where
          by : (k ≡ n) ⊎ (k ≡ n → ⊥) → (IsEndBefore fs n c ⊎ (c ≡ f.from)) ⊎ (c ≡ f.to)
          by (inl same) =
              let is : g ≡ f = same_some g f (sym here ∙ ap (slice_get fs) same ∙ at) in
              ⊎_elim (λ e. inl (inr (sym e ∙ ap (λ (x : Flight). x.from) is))) (λ e. inr (sym e ∙ ap (λ (x : Flight). x.to) is)) end
          by (inr other) = inl (inl (k, g, omega arith, here, end))

  -- both slots of a copy more
  pub ends_more : (old mid next new : List Cell) → next ≡ insert_key eq mid f.from → new ≡ insert_key eq next f.to → AddsCells (IsEndBefore fs n) old mid → AddsCells (IsEndBefore fs (n + 1)) old new
  ends_more old mid next new one other joins =
      subst (λ (l : List Cell). AddsCells (IsEndBefore fs (n + 1)) old l) (ap (λ (l : List Cell). insert_key eq l f.to) (sym one) ∙ sym other) (ends_both old mid joins)

pub none_before : (fs : List Flight) (cells : List Cell) → AddsCells (IsEndBefore fs 0) cells cells
none_before fs cells = joins_none (IsEndBefore fs 0) cells (λ c end. let less = end.2 in absurd (omega arith))

-- all of them
pub ends_all : (fs : List Flight) (n : ℕ) → length fs ≤ n → (old new : List Cell) → AddsCells (IsEndBefore fs n) old new → AddsCells (IsEndOf fs) old new
ends_all fs n most old new joins = joins_as (IsEndBefore fs n) old new joins (IsEndOf fs) to from
  where
    to : (c : Cell) → IsEndBefore fs n c → IsEndOf fs c
    to c (k, f, less, at, inl e) = inl (k, f, slice_get_within fs k f at, get_or_from_slice_get fs k f f at, e)
    to c (k, f, less, at, inr e) = inr (k, f, slice_get_within fs k f at, get_or_from_slice_get fs k f f at, e)

    from : (c : Cell) → IsEndOf fs c → IsEndBefore fs n c
    from c (inl (k, f, less, is, e)) = (k, f, omega arith, slice_get-get_or fs k f less ∙ ap Some is, inl e)
    from c (inr (k, f, less, is, e)) = (k, f, omega arith, slice_get-get_or fs k f less ∙ ap Some is, inr e)

-- The cells of rounds

-- an end of a copy of one of the first rounds
abbrev pub IsRoundsCell : Task → ℕ → Cell → Type 0
IsRoundsCell task n cell = (r : ℕ) × (1 ≤ r) × (r ≤ n) × IsEndOf (flights_of task.input (round_at task.plan r)) cell

-- the journal's cells and those of the first rounds
abbrev pub IsCellUpTo : Task → ℕ → Cell → Type 0
IsCellUpTo task n cell = (cell ≡ Head) ⊎ ((cell ≡ Gate) ⊎ (IsMark n cell ⊎ IsRoundsCell task n cell))

abbrev pub Gathers : Task → ℕ → List Cell → Type 0
Gathers task n cells = (cell : Cell) → Contains cells cell ↔ IsCellUpTo task n cell

leaves_spot : (shifts : List Shift) (s : Shift) → Contains shifts s → Any (λ (x : Shift). x.from ≡ s.from) shifts
leaves_spot shifts s has = any_contains (λ (x : Shift). x.from ≡ s.from) shifts s has refl

reaches_spot : (shifts : List Shift) (s : Shift) → Contains shifts s → Any (λ (x : Shift). x.to ≡ s.to) shifts
reaches_spot shifts s has = any_contains (λ (x : Shift). x.to ≡ s.to) shifts s has refl

nothing_in : (c : Cell) → Contains [] c → ⊥
nothing_in c has = let less = has.1 in absurd (omega arith)

module _ (task : Task) where
  -- before the first round
  pub gathers_none : (empty first cells : List Cell) → empty ≡ [] → first ≡ insert_key eq empty Head → cells ≡ insert_key eq first Gate → Gathers task 0 cells
  gathers_none empty first cells is_empty one other c =
      let is : cells ≡ insert_key eq (insert_key eq [] Head) Gate = other ∙ ap (λ (l : List Cell). insert_key eq l Gate) (one ∙ ap (λ (l : List Cell). insert_key eq l Head) is_empty) in
      let none = joins_none (λ c. ⊥) [] (λ c out. out) in
      let head = joins_one (λ c. ⊥) [] [] none Head in
      let both = joins_one (λ c. ⊥ ⊎ (c ≡ Head)) [] (insert_key eq [] Head) head Gate in
      subst (λ (l : List Cell). Contains l c ↔ IsCellUpTo task 0 c) (sym is) (
        λ has. elim ((both c).0 has) [
          | inl was ↦ absurd (nothing_in c was)
          | inr (inl (inl out)) ↦ absurd out
          | inr (inl (inr same)) ↦ inl same
          | inr (inr same) ↦ inr (inl same)
        ],
        λ any. elim any [
          | inl same ↦ (both c).1 (inr (inl (inr same)))
          | inr (inl same) ↦ (both c).1 (inr (inr same))
          | inr (inr (inl mark)) ↦ let low = mark.1 in let high = mark.2 in absurd (omega arith)
          | inr (inr (inr (r, low, high, end))) ↦ absurd (omega arith)
        ],
      )

  -- with a round more
  pub gathers_more : (n : ℕ) (cells next new : List Cell) → Gathers task n cells → next ≡ insert_key eq cells (Mark (n + 1)) → AddsCells (IsEndOf (flights_of task.input (round_at task.plan (n + 1)))) next new → Gathers task (n + 1) new
  gathers_more n cells next new gathers is joins_next c = (
    λ has. elim ((joins c).0 has) [
      | inl before ↦ to (marked before)
      | inr end ↦ inr (inr (inr (n + 1, omega arith, omega arith, end)))
    ],
    from,
  )
    where
      joins : AddsCells (IsEndOf (flights_of task.input (round_at task.plan (n + 1)))) (insert_key eq cells (Mark (n + 1))) new
      joins = subst (λ (l : List Cell). AddsCells (IsEndOf (flights_of task.input (round_at task.plan (n + 1)))) l new) is joins_next

      none : AddsCells (λ c. ⊥) cells cells
      none = joins_none (λ c. ⊥) cells (λ c out. out)

      mark : AddsCells (λ c. ⊥ ⊎ (c ≡ Mark (n + 1))) cells (insert_key eq cells (Mark (n + 1)))
      mark = joins_one (λ c. ⊥) cells cells none (Mark (n + 1))

      marked : Contains (insert_key eq cells (Mark (n + 1))) c → Contains cells c ⊎ (c ≡ Mark (n + 1))
      marked has = elim ((mark c).0 has) [
        | inl was ↦ inl was
        | inr (inl out) ↦ absurd out
        | inr (inr same) ↦ inr same
      ]

      wider : IsCellUpTo task n c → IsCellUpTo task (n + 1) c
      wider (inl head) = inl head
      wider (inr (inl gate)) = inr (inl gate)
      wider (inr (inr (inl (m, low, high, is)))) = inr (inr (inl (m, low, omega arith, is)))
      wider (inr (inr (inr (r, low, high, end)))) = inr (inr (inr (r, low, omega arith, end)))

      to : Contains cells c ⊎ (c ≡ Mark (n + 1)) → IsCellUpTo task (n + 1) c
      to (inl was) = wider ((gathers c).0 was)
      to (inr same) = inr (inr (inl (n + 1, omega arith, omega arith, same)))

      kept : IsCellUpTo task n c → Contains new c
      kept is = (joins c).1 (inl ((mark c).1 (inl ((gathers c).1 is))))

      from : IsCellUpTo task (n + 1) c → Contains new c
      from (inl head) = kept (inl head)
      from (inr (inl gate)) = kept (inr (inl gate))
      from (inr (inr (inl (m, low, high, is)))) = by (cases_eq m (n + 1))
        where
          by : (m ≡ n + 1) ⊎ (m ≡ n + 1 → ⊥) → Contains new c
          by (inl same) = (joins c).1 (inl ((mark c).1 (inr (inr (is ∙ ap Mark same)))))
          by (inr other) = kept (inr (inr (inl (m, low, omega arith, is))))
      from (inr (inr (inr (r, low, high, end)))) = by (cases_eq r (n + 1))
        where
          by : (r ≡ n + 1) ⊎ (r ≡ n + 1 → ⊥) → Contains new c
          by (inl same) = (joins c).1 (inr (subst (λ (m : ℕ). IsEndOf (flights_of task.input (round_at task.plan m)) c) same end))
          by (inr other) = kept (inr (inr (inr (r, low, omega arith, end))))

  -- all rounds
  pub gathers_all : (n : ℕ) (cells : List Cell) → n ≡ length task.plan → Gathers task n cells → AreJobCells task cells
  gathers_all n cells is gathers c = (λ has. to ((gathers c).0 has), λ job. (gathers c).1 (from job))
    where
      shift_of : (shifts : List Shift) (k : ℕ) (f : Flight) → k < length (flights_of task.input shifts) → get_or (flights_of task.input shifts) k f ≡ f → (s : Shift) × Contains shifts s × (flight_of task.input s ≡ f)
      shift_of shifts k f less here = by (slice_get shifts k) refl
        where
          mapped : option_map (flight_of task.input) (slice_get shifts k) ≡ Some f
          mapped = sym (slice_get-map (flight_of task.input) shifts k) ∙ slice_get-get_or (flights_of task.input shifts) k f less ∙ ap Some here

          by : (o : Option Shift) → slice_get shifts k ≡ o → (s : Shift) × Contains shifts s × (flight_of task.input s ≡ f)
          by (Some s) e = (s, (k, slice_get_within shifts k s e, get_or_from_slice_get shifts k s s e), same_some (flight_of task.input s) f (sym (ap (option_map (flight_of task.input)) e) ∙ mapped))
          by None e = let wrong = sym (ap (option_map (flight_of task.input)) e) ∙ mapped in cc

      to : IsCellUpTo task n c → IsJobCell task.input task.plan c
      to (inl head) = inl (inl head)
      to (inr (inl gate)) = inl (inr (inl gate))
      to (inr (inr (inl (m, low, high, same)))) = inl (inr (inr (m, low, omega arith, same)))
      to (inr (inr (inr (r, low, high, inl (k, f, less, here, e))))) =
          let s = shift_of (round_at task.plan r) k f less here in
          inr (s.0.from, (r, inl (leaves_spot (round_at task.plan r) s.0 s.1)), ap (λ (x : Flight). x.from) s.2 ∙ e)
      to (inr (inr (inr (r, low, high, inr (k, f, less, here, e))))) =
          let s = shift_of (round_at task.plan r) k f less here in
          inr (s.0.to, (r, inr (reaches_spot (round_at task.plan r) s.0 s.1)), ap (λ (x : Flight). x.to) s.2 ∙ e)

      within : (r k : ℕ) → k < length (round_at task.plan r) → (1 ≤ r) × (r ≤ n)
      within zero k less = absurd (omega arith)
      within (suc r) k less = (
        omega arith,
        elim (cases_lt r (length task.plan)) [
          | inl low ↦ omega arith
          | inr past ↦ let none = ap (λ (l : List Shift). length l) (get_or_past task.plan r [] past) in absurd (omega arith)
        ],
      )

      copy_at : (shifts : List Shift) (k : ℕ) (s : Shift) → k < length shifts → get_or shifts k s ≡ s → (k < length (flights_of task.input shifts)) × (get_or (flights_of task.input shifts) k (flight_of task.input s) ≡ flight_of task.input s)
      copy_at shifts k s less here =
          let e : slice_get (flights_of task.input shifts) k ≡ Some (flight_of task.input s) = slice_get-map (flight_of task.input) shifts k ∙ ap (option_map (flight_of task.input)) (slice_get-get_or shifts k s less ∙ ap Some here) in
          (slice_get_within (flights_of task.input shifts) k (flight_of task.input s) e, get_or_from_slice_get (flights_of task.input shifts) k (flight_of task.input s) (flight_of task.input s) e)

      from : IsJobCell task.input task.plan c → IsCellUpTo task n c
      from (inl (inl head)) = inl head
      from (inl (inr (inl gate))) = inr (inl gate)
      from (inl (inr (inr (m, low, high, same)))) = inr (inr (inl (m, low, omega arith, same)))
      from (inr (spot, (r, inl (k, s, less, here, same)), e)) =
          let range = within r k less in
          let copy = copy_at (round_at task.plan r) k s less here in
          inr (inr (inr (r, range.0, range.1, inl (k, flight_of task.input s, copy.0, copy.1, ap (slot_of task.input) same ∙ e))))
      from (inr (spot, (r, inr (k, s, less, here, same)), e)) =
          let range = within r k less in
          let copy = copy_at (round_at task.plan r) k s less here in
          inr (inr (inr (r, range.0, range.1, inr (k, flight_of task.input s, copy.0, copy.1, ap (slot_of task.input) same ∙ e))))

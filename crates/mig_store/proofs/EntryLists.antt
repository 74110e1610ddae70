-- What the entries of cells say.
use Rattle.mig_store.proofs.Common.{All, AreDifferent, AreWithin, Cell, CellBytes, Contains, Entry, Held, IfSome, IsWithinPeriod, List, None, Option, Pick, Some, StoreCall, [], ap, arith, asked_by, bytes_at}
use Rattle.mig_store.proofs.Common.{cases_Bool, cell_of, change_at, cond-false, cond-true, crash, crash_entry, eqb-true, false_from_ne_true, first_of, firsts, fresh, get_or, get_or-append_seam}
use Rattle.mig_store.proofs.Common.{get_or_append_left, held_at, held_map, if◌then◌else◌, inl, inr, length, length-append, length-set, map, map-set, option_map, refl, seen, seen_all, set, settle}
use Rattle.mig_store.proofs.Common.{slice_get, slice_get-get_or, subst, suc, sym, true, zero, zero_entry, zero_held, ℕ, ◌++◌, ◌+◌, ◌<◌, ◌==◌, ◌∙◌, ◌∷◌, ◌≡◌}
use Rattle.std.proofs.Math.ListN.{get_or-map}
use Rattle.mig_store.proofs.CellLists.{held_at-change, held_at-absent, held_at-map, change_at-none, cells_of-map}

-- With one call more

-- the call is at its place
pub asked_last : (calls new : List StoreCall) (call : StoreCall) (place : ℕ) → new ≡ calls ++ call ∷ [] → place ≡ length calls → asked_by (slice_get new place) ≡ asked_by (Some call)
asked_last calls new call place pushed at =
    ap (λ (l : List StoreCall). asked_by (slice_get l place)) pushed ∙ ap (λ (n : ℕ). asked_by (slice_get (calls ++ call ∷ []) n)) at
    ∙ ap asked_by (slice_get-get_or (calls ++ call ∷ []) (length calls) call (omega (arith, length-append calls (call ∷ []))) ∙ ap Some (get_or-append_seam calls call [] call))

module _ (calls : List StoreCall) (call : StoreCall) where
  -- and the others are where they were
  bytes_more : (first : List ℕ) (place : Option ℕ) → IfSome place (λ place. place < length calls) → bytes_at (calls ++ call ∷ []) first place ≡ bytes_at calls first place
  bytes_more first None within = refl
  bytes_more first (Some place) within =
      ap asked_by (slice_get-get_or (calls ++ call ∷ []) place call (omega (arith, within, length-append calls (call ∷ []))) ∙ ap Some (get_or_append_left calls (call ∷ []) call place within) ∙ sym (slice_get-get_or calls place call within))

  one_more : (count period now : ℕ) (e : Entry) → count ≡ length calls → IsWithinPeriod count period e → seen (calls ++ call ∷ []) now e ≡ seen calls now e
  one_more count period now e is within =
      let kept = bytes_more e.first e.kept (subst (λ (n : ℕ). IfSome e.kept (λ place. place < n)) is within.kept) in
      let shown = bytes_more e.first e.shown (subst (λ (n : ℕ). IfSome e.shown (λ place. place < n)) is within.shown) in
      let asked = bytes_more e.first e.asked (subst (λ (n : ℕ). IfSome e.asked (λ place. place < n)) is within.asked) in
      λ i. if e.period == now then record { kept = kept i; shown = shown i; asked = asked i; unsettled = true } else fresh (shown i)

  all_more : (period now : ℕ) (held : List (Held Entry)) → AreWithin (length calls) period held → seen_all (calls ++ call ∷ []) now held ≡ seen_all calls now held
  all_more period now [] within = refl
  all_more period now (h ∷ held) within = λ i. record { cell = h.cell; value = one_more (length calls) period now h.value refl (within 0 h (omega arith)) i } ∷ all_more period now held (λ j d lt. within (suc j) d (omega arith)) i

  pub seen_more : (new : List StoreCall) (period now : ℕ) (held : List (Held Entry)) → new ≡ calls ++ call ∷ [] → AreWithin (length calls) period held → seen_all new now held ≡ seen_all calls now held
  seen_more new period now held pushed within = ap (λ (l : List StoreCall). seen_all l now held) pushed ∙ all_more period now held within

-- the call may be one of more
more_place : (count : ℕ) (place : Option ℕ) → IfSome place (λ place. place < count) → IfSome place (λ place. place < count + 1)
more_place count None within = tt
more_place count (Some place) within = omega (arith, within)

pub within_one : (count period : ℕ) (e : Entry) → IsWithinPeriod count period e → IsWithinPeriod (count + 1) period e
within_one count period e within = record { earlier = within.earlier; kept = more_place count e.kept within.kept; shown = more_place count e.shown within.shown; asked = more_place count e.asked within.asked }

pub within_more : (count period : ℕ) (held : List (Held Entry)) → AreWithin count period held → AreWithin (count + 1) period held
within_more count period held within i d lt = within_one count period (get_or held i d).value (within i d lt)

-- another entry at one place
module _ (P Q : Entry → Type 0) (more : (e : Entry) → P e → Q e) where
  pub set_all : (held : List (Held Entry)) (i : ℕ) (new d : Held Entry) → All (λ (h : Held Entry). P h.value) held → (P (get_or held i d).value → Q new.value) → All (λ (h : Held Entry). Q h.value) (set held i new)
  set_all [] i new d all here j e lt = let none : List (Held Entry) = [] in absurd (omega (arith, lt, length-set none i new))
  set_all (h ∷ held) zero new d all here zero e lt = here (all 0 h (omega arith))
  set_all (h ∷ held) zero new d all here (suc j) e lt = more (get_or held j e).value (all (suc j) e (omega (arith, lt)))
  set_all (h ∷ held) (suc i) new d all here zero e lt = more h.value (all 0 h (omega arith))
  set_all (h ∷ held) (suc i) new d all here (suc j) e lt = set_all held i new d (λ k f less. all (suc k) f (omega (arith, less))) here j e (omega (arith, lt))

-- so many calls as there are
pub within_all : (calls new : List StoreCall) (call : StoreCall) (period : ℕ) (held : List (Held Entry)) → new ≡ calls ++ call ∷ [] → AreWithin (length calls + 1) period held → AreWithin (length new) period held
within_all calls new call period held pushed within = subst (λ (n : ℕ). AreWithin n period held) (sym (ap (λ (l : List StoreCall). length l) pushed ∙ length-append calls (call ∷ []))) within

-- What entries say

-- a read gives what the entry shows
pub seen_shown : (calls : List StoreCall) (period : ℕ) (e : Entry) → (seen calls period e).shown ≡ bytes_at calls e.first e.shown
seen_shown calls period e = elim (cases_Bool (e.period == period)) [
  | inl is ↦ ap (λ (c : CellBytes). c.shown) (cond-true _ _ _ is)
  | inr not ↦ ap (λ (c : CellBytes). c.shown) (cond-false _ _ _ not)
]

-- what a read of a cell gives, by its entry
module _ (calls : List StoreCall) (period : ℕ) (held : List (Held Entry)) (cell : Cell) where
  pub reads_entry : (e : Entry) → held_at held cell ≡ Some e → option_map (λ (c : CellBytes). c.shown) (held_at (seen_all calls period held) cell) ≡ Some (bytes_at calls e.first e.shown)
  reads_entry e is = ap (option_map (λ (c : CellBytes). c.shown)) (held_at-map (seen calls period) held cell ∙ ap (option_map (seen calls period)) is) ∙ ap Some (seen_shown calls period e)

  pub reads_nothing : held_at held cell ≡ None → option_map (λ (c : CellBytes). c.shown) (held_at (seen_all calls period held) cell) ≡ None
  reads_nothing none = ap (option_map (λ (c : CellBytes). c.shown)) (held_at-map (seen calls period) held cell ∙ ap (option_map (seen calls period)) none)

  -- a cell that isn't held isn't changed
  pub seen_at-none : (g : CellBytes → CellBytes) → ¬ (Contains (map cell_of held) cell) → held_at (seen_all calls period held) ≡ change_at g cell (held_at (seen_all calls period held))
  seen_at-none g none = λ p other. sym (change_at-none g cell (held_at (seen_all calls period held))
      (held_at-absent (seen_all calls period held) cell (subst (λ (l : List Cell). ¬ (Contains l cell)) (sym (cells_of-map (seen calls period) held)) none)) other) p

-- another entry at one place
module _ (calls : List StoreCall) (period : ℕ) (held : List (Held Entry)) (cell : Cell) (i : ℕ) (found : slice_get (map cell_of held) i ≡ Some cell) (different : AreDifferent (map cell_of held)) where
  pub seen_at-set : (g : CellBytes → CellBytes) (new d : Held Entry) → new.cell ≡ (get_or held i d).cell → seen calls period new.value ≡ g (seen calls period (get_or held i d).value)
      → held_at (seen_all calls period (set held i new)) ≡ change_at g cell (held_at (seen_all calls period held))
  seen_at-set g new d named value =
      let at : get_or (seen_all calls period held) i (held_map (seen calls period) d) ≡ held_map (seen calls period) (get_or held i d) = get_or-map (held_map (seen calls period)) held i d in
      ap (λ (l : List (Held CellBytes)). held_at l) (map-set (held_map (seen calls period)) held i new)
      ∙ held_at-change (seen_all calls period held) cell i (subst (λ (l : List Cell). slice_get l i ≡ Some cell) (sym (cells_of-map (seen calls period) held)) found)
      (subst AreDifferent (sym (cells_of-map (seen calls period) held)) different) g (held_map (seen calls period) new) (held_map (seen calls period) d)
      (named ∙ sym (ap (λ (h : Held CellBytes). h.cell) at)) (value ∙ sym (ap (λ (h : Held CellBytes). g h.value) at))

-- the next period
next_seen : (calls : List StoreCall) (count period : ℕ) (e : Entry) → IsWithinPeriod count period e → seen calls (period + 1) e ≡ settle (seen calls period e)
next_seen calls count period e within = cond-false _ _ _ (false_from_ne_true _ (λ is. absurd (let same = eqb-true e.period (period + 1) is in omega (arith, same, within.earlier)))) ∙ ap fresh (sym (seen_shown calls period e))

pub seen_next : (calls : List StoreCall) (count period : ℕ) (held : List (Held Entry)) → AreWithin count period held → seen_all calls (period + 1) held ≡ map (held_map settle) (seen_all calls period held)
seen_next calls count period [] within = refl
seen_next calls count period (h ∷ held) within = λ i. record { cell = h.cell; value = next_seen calls count period h.value (within 0 h (omega arith)) i } ∷ seen_next calls count period held (λ j d lt. within (suc j) d (omega arith)) i

pub within_next : (count period : ℕ) (held : List (Held Entry)) → AreWithin count period held → AreWithin count (period + 1) held
within_next count period held within i d lt = let e = within i d lt in record { earlier = omega (arith, e.earlier); kept = e.kept; shown = e.shown; asked = e.asked }

-- after a crash
module _ (calls : List StoreCall) (period : ℕ) (pick : Pick) where
  pub seen_crashed : (later : List StoreCall) (held : List (Held Entry)) → seen_all later 1 (map (held_map (crash_entry calls period pick)) held) ≡ map (held_map (crash pick)) (seen_all calls period held)
  seen_crashed later [] = refl
  seen_crashed later (h ∷ held) = ap (λ (l : List (Held CellBytes)). held_map (crash pick) (held_map (seen calls period) h) ∷ l) (seen_crashed later held)

  pub firsts_crashed : (held : List (Held Entry)) → firsts (map (held_map (crash_entry calls period pick)) held) ≡ map (held_map (λ (c : CellBytes). c.shown)) (map (held_map (crash pick)) (seen_all calls period held))
  firsts_crashed [] = refl
  firsts_crashed (h ∷ held) = ap (λ (l : List (Held (List ℕ))). held_map (λ (c : CellBytes). c.shown) (held_map (crash pick) (held_map (seen calls period) h)) ∷ l) (firsts_crashed held)

  pub within_crashed : (count : ℕ) (held : List (Held Entry)) → AreWithin count 1 (map (held_map (crash_entry calls period pick)) held)
  within_crashed count [] i d lt = absurd (omega arith)
  within_crashed count (h ∷ held) zero d lt = record { earlier = omega arith; kept = tt; shown = tt; asked = tt }
  within_crashed count (h ∷ held) (suc i) d lt = within_crashed count held i d (omega arith)

-- before the first call
pub seen_zero : (calls : List StoreCall) (cells : List Cell) → seen_all calls 1 (map zero_entry cells) ≡ map (held_map fresh) (map zero_held cells)
seen_zero calls [] = refl
seen_zero calls (c ∷ cells) = ap (λ (l : List (Held CellBytes)). held_map fresh (zero_held c) ∷ l) (seen_zero calls cells)

pub firsts_zero : (cells : List Cell) → firsts (map zero_entry cells) ≡ map zero_held cells
firsts_zero [] = refl
firsts_zero (c ∷ cells) = ap (λ (l : List (Held (List ℕ))). zero_held c ∷ l) (firsts_zero cells)

pub cells_of-entries : (cells : List Cell) → map cell_of (map zero_entry cells) ≡ cells
cells_of-entries [] = refl
cells_of-entries (c ∷ cells) = ap (λ (l : List Cell). c ∷ l) (cells_of-entries cells)

pub within_zero : (count : ℕ) (cells : List Cell) → AreWithin count 1 (map zero_entry cells)
within_zero count [] i d lt = absurd (omega arith)
within_zero count (c ∷ cells) zero d lt = record { earlier = omega arith; kept = tt; shown = tt; asked = tt }
within_zero count (c ∷ cells) (suc i) d lt = within_zero count cells i d (omega arith)

-- the same bytes at first are of the same cells
pub same_cells : (old new : List (Held Entry)) → firsts new ≡ firsts old → map cell_of new ≡ map cell_of old
same_cells old new same = sym (cells_of-map first_of new) ∙ ap (λ (l : List (Held (List ℕ))). map cell_of l) same ∙ cells_of-map first_of old

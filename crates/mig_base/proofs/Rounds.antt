-- Where items are after shifts that can be carried out.
use Rattle.mig_base.proofs.Common.{All-contains, AllPairs, Any, Contains, Disk, InputLists, IsFree, IsLayout, IsLegal, IsSomeAnd, IsSpotOf, Layout, List, None, Option, Shift, Some, Spot, []}
use Rattle.mig_base.proofs.Common.{after_shifts, ap, arith, cases_eq, cases_order, cond, cond-false, cond-true, eq-eqb, get_or, get_or_default, inl, inr, last_target, length, ne_eqb, option_or}
use Rattle.mig_base.proofs.Common.{refl, slice_get, subst, suc, sym, zero, ℕ, ⊎_elim, ◌<◌, ◌==◌, ◌∙◌, ◌∷◌, ◌≡◌, ◌≢◌, ◌⊎◌}

pub here : {X : Type 0} (x : X) (xs : List X) → Contains (x ∷ xs) x
here x xs = (0, omega arith, refl)

pub there : {X : Type 0} (x y : X) (xs : List X) → Contains xs y → Contains (x ∷ xs) y
there x y xs has = (suc has.0, omega (arith, has.1), has.2)

pub contains_any : {X : Type 0} (P : X → Type 0) (xs : List X) (any : Any P xs) → Contains xs any.1
contains_any P xs any = (any.0, any.2, any.3)

pub any_contains : {X : Type 0} (P : X → Type 0) (xs : List X) (x : X) → Contains xs x → P x → Any P xs
any_contains P xs x has p = (has.0, x, has.1, has.2, p)

-- in a list whose elements have different keys, one key is one element
pub one_by : {X K : Type 0} (key : X → K) (xs : List X) → AllPairs (λ x y. key x ≢ key y) xs → (x y : X) → Contains xs x → Contains xs y → key x ≡ key y → x ≡ y
one_by key xs apart x y has_x has_y same = elim (cases_order has_x.0 has_y.0) [
  | inl at ↦ sym has_x.2 ∙ ap (λ (k : ℕ). get_or xs k x) at ∙ get_or_default xs has_y.0 x y has_y.1 ∙ has_y.2
  | inr (inl before) ↦ absurd (apart has_x.0 has_y.0 x before has_y.1 (ap key has_x.2 ∙ same ∙ ap key (sym (get_or_default xs has_y.0 x y has_y.1 ∙ has_y.2))))
  | inr (inr after) ↦ absurd (apart has_y.0 has_x.0 y after has_x.1 (ap key has_y.2 ∙ sym same ∙ ap key (sym (get_or_default xs has_x.0 y x has_x.1 ∙ has_x.2))))
]

pub in_some : (x y : Spot) → Some x ≡ Some y → x ≡ y
in_some x y e = cc

-- a spot's disk is there
pub spot_disk : (disks : List Disk) (spot : Spot) → IsSpotOf disks spot → spot.disk.0 < length disks
spot_disk disks spot is = there_at disks spot.disk.0 is
  where
    there_at : (ds : List Disk) (k : ℕ) → IsSomeAnd (slice_get ds k) (λ (d : Disk). spot.slot < d.slots) → k < length ds
    there_at [] k h = absurd h
    there_at (d ∷ ds) zero h = omega arith
    there_at (d ∷ ds) (suc k) h = let lt = there_at ds k h in omega arith

-- an item's last shift went to its target, or the item has no shift
abbrev LastIs : List Shift → ℕ → Type 0
LastIs shifts item =
    ((s : Shift) × Contains shifts s × (s.item.0 ≡ item) × (last_target shifts item ≡ Some s.to)) ⊎ (((s : Shift) → Contains shifts s → s.item.0 ≡ item → ⊥) × (last_target shifts item ≡ None))

last_cases : (shifts : List Shift) (item : ℕ) → LastIs shifts item
last_cases [] item = inr (λ s has e. absurd (let h = has.1 in omega arith), refl)
last_cases (t ∷ ts) item = elim (cases_eq t.item.0 item) [
  | inl same ↦ after_it same (last_cases ts item)
  | inr other ↦ not_it other (last_cases ts item)
]
  where
    this : Option Spot
    this = cond (t.item.0 == item) (Some t.to) None

    after_it : t.item.0 ≡ item → LastIs ts item → LastIs (t ∷ ts) item
    after_it same (inl last) = inl (last.0, there t last.0 ts last.1, last.2, ap (λ (o : Option Spot). option_or o this) last.3)
    after_it same (inr none) = inl (t, here t ts, same, ap (λ (o : Option Spot). option_or o this) none.1 ∙ cond-true _ _ _ (eq-eqb _ _ same))

    not_it : (t.item.0 ≡ item → ⊥) → LastIs ts item → LastIs (t ∷ ts) item
    not_it other (inl last) = inl (last.0, there t last.0 ts last.1, last.2, ap (λ (o : Option Spot). option_or o this) last.3)
    not_it other (inr none) = inr (not_first other none.0, ap (λ (o : Option Spot). option_or o this) none.1 ∙ cond-false _ _ _ (ne_eqb _ _ other))
      where
        not_first : (t.item.0 ≡ item → ⊥) → ((s : Shift) → Contains ts s → s.item.0 ≡ item → ⊥) → (s : Shift) → Contains (t ∷ ts) s → s.item.0 ≡ item → ⊥
        not_first other none s (zero, lt, is) e = other (ap (λ (u : Shift). u.item.0) is ∙ e)
        not_first other none s (suc k, lt, is) e = none s (k, omega arith, is) e

-- an item's last shift took it to its target, or it has none and stayed
abbrev pub MovedBy : Layout → List Shift → ℕ → Type 0
MovedBy layout shifts item =
    ((s : Shift) × Contains shifts s × (s.item.0 ≡ item) × (after_shifts layout shifts item ≡ Some s.to)) ⊎ (((s : Shift) → Contains shifts s → s.item.0 ≡ item → ⊥) × (after_shifts layout shifts item ≡ layout item))

pub moved_cases : (layout : Layout) (shifts : List Shift) (item : ℕ) → MovedBy layout shifts item
moved_cases layout shifts item = ⊎_elim
    (λ last. inl (last.0, last.1, last.2, ap (λ (o : Option Spot). option_or o (layout item)) last.3))
    (λ none. inr (none.0, ap (λ (o : Option Spot). option_or o (layout item)) none.1))
    (last_cases shifts item)

module _ (input : InputLists) (layout : Layout) (shifts : List Shift) (legal : IsLegal input layout shifts) where
  pub one_shift : (s t : Shift) → Contains shifts s → Contains shifts t → s.item.0 ≡ t.item.0 → s ≡ t
  one_shift s t has_s has_t same = one_by (λ (u : Shift). u.item) shifts legal.once s t has_s has_t (λ i. record { 0 = same i })

  pub one_target : (s t : Shift) → Contains shifts s → Contains shifts t → s.to ≡ t.to → s ≡ t
  one_target s t has_s has_t same = one_by (λ (u : Shift). u.to) shifts legal.apart s t has_s has_t same

  -- a shifted item is at its target
  pub at_target : (s : Shift) → Contains shifts s → after_shifts layout shifts s.item.0 ≡ Some s.to
  at_target s has = ⊎_elim
      (λ last. last.3 ∙ ap (λ (u : Shift). Some u.to) (one_shift last.0 s last.1 has last.2))
      (λ none. absurd (none.0 s has refl))
      (moved_cases layout shifts s.item.0)

  -- a target is nobody's spot before the round
  pub target_free : (s : Shift) → Contains shifts s → (item : ℕ) → layout item ≡ Some s.to → ⊥
  target_free s has item at = (All-contains (λ u. IsFree input layout u.to) shifts s legal.free has).1 (item, at)

  pub leaves : (s : Shift) → Contains shifts s → layout s.item.0 ≡ Some s.from
  leaves s has = All-contains (λ u. layout u.item.0 ≡ Some u.from) shifts s legal.leaves has

  pub to_disk : (s : Shift) → Contains shifts s → s.to.disk.0 < length input.disks
  to_disk s has = spot_disk input.disks s.to (All-contains (λ u. IsFree input layout u.to) shifts s legal.free has).0

  module _ (is : IsLayout input layout) where
    pub from_disk : (s : Shift) → Contains shifts s → s.from.disk.0 < length input.disks
    from_disk s has = is.on_disks s.item.0 s.from (leaves s has)

    -- a source is nobody's spot after the round
    pub source_free : (s : Shift) → Contains shifts s → (item : ℕ) → after_shifts layout shifts item ≡ Some s.from → ⊥
    source_free s has item at = ⊎_elim
        (λ last. target_free last.0 last.1 s.item.0 (leaves s has ∙ sym at ∙ last.3))
        (λ none. none.0 s has (is.apart s.item.0 item s.from (leaves s has) (sym none.1 ∙ at)))
        (moved_cases layout shifts item)

    pub layout_kept : IsLayout input (after_shifts layout shifts)
    layout_kept = record {
      on_disks = λ item spot at. disks item spot at (moved_cases layout shifts item);
      apart = λ i j spot at_i at_j. both i j spot at_i at_j (moved_cases layout shifts i) (moved_cases layout shifts j);
    }
      where
        disks : (item : ℕ) (spot : Spot) → after_shifts layout shifts item ≡ Some spot → MovedBy layout shifts item → spot.disk.0 < length input.disks
        disks item spot at (inl last) = subst (λ (p : Spot). p.disk.0 < length input.disks) (in_some last.0.to spot (sym last.3 ∙ at)) (to_disk last.0 last.1)
        disks item spot at (inr none) = is.on_disks item spot (sym none.1 ∙ at)

        both : (i j : ℕ) (spot : Spot) → after_shifts layout shifts i ≡ Some spot → after_shifts layout shifts j ≡ Some spot → MovedBy layout shifts i → MovedBy layout shifts j → i ≡ j
        both i j spot at_i at_j (inl a) (inl b) = sym a.2 ∙ ap (λ (u : Shift). u.item.0) (one_target a.0 b.0 a.1 b.1 (in_some a.0.to b.0.to (sym a.3 ∙ at_i ∙ sym at_j ∙ b.3))) ∙ b.2
        both i j spot at_i at_j (inl a) (inr b) = absurd (target_free a.0 a.1 j (sym b.1 ∙ at_j ∙ sym at_i ∙ a.3))
        both i j spot at_i at_j (inr a) (inl b) = absurd (target_free b.0 b.1 i (sym a.1 ∙ at_i ∙ sym at_j ∙ b.3))
        both i j spot at_i at_j (inr a) (inr b) = is.apart i j spot (sym a.1 ∙ at_i) (sym b.1 ∙ at_j)

pub cases_spot : (p q : Spot) → (p ≡ q) ⊎ (p ≡ q → ⊥)
cases_spot p q = elim (cases_eq p.disk.0 q.disk.0) [
  | inl disks ↦ elim (cases_eq p.slot q.slot) [
    | inl slots ↦ inl (λ i. record { disk = record { 0 = disks i }; slot = slots i })
    | inr not ↦ inr (λ same. not (ap (λ (s : Spot). s.slot) same))
  ]
  | inr not ↦ inr (λ same. not (ap (λ (s : Spot). s.disk.0) same))
]

-- a shift of the list leaves the spot, or none does
pub cases_source : (shifts : List Shift) (spot : Spot) → Any (λ s. s.from ≡ spot) shifts ⊎ (Any (λ s. s.from ≡ spot) shifts → ⊥)
cases_source [] spot = inr (λ any. let lt = any.2 in absurd (omega arith))
cases_source (t ∷ ts) spot = elim (cases_spot t.from spot) [
  | inl at ↦ inl (0, t, omega arith, refl, at)
  | inr not ↦ elim (cases_source ts spot) [
    | inl (k, s, lt, is, at) ↦ inl (suc k, s, omega arith, is, at)
    | inr none ↦ inr (later not none)
  ]
]
  where
    later : (t.from ≡ spot → ⊥) → (Any (λ s. s.from ≡ spot) ts → ⊥) → Any (λ s. s.from ≡ spot) (t ∷ ts) → ⊥
    later not none (zero, s, lt, is, at) = not (ap (λ (u : Shift). u.from) is ∙ at)
    later not none (suc k, s, lt, is, at) = none (k, s, omega arith, is, at)

-- What a plan's free targets say of its shifts.
use Rattle.mig_mover.proofs.Common.{All, AllWithin, Any-from_list_any, At, Bool, CanTake, Contains, Contains-append_cases, IfNone, Image, IsFirstUsed, IsLost, IsShifted, IsTask, IsThere}
use Rattle.mig_mover.proofs.Common.{InputLists, IsUnused, IsUsed, List, MatchBool, None, Option, Shift, Some, Spot, Task, [], ap, arith, cases_Bool, cases_eq, cond, eqb-true, false, false≢true}
use Rattle.mig_mover.proofs.Common.{filter, free_targets, get_or, get_or_default, inl, inr, is_of, length, list_any, map, no_spot, not, refl, round_at, same_spot, shifts_of, slice_get, subst}
use Rattle.mig_mover.proofs.Common.{suc, sym, take, there, to_disk, true, zero, ℕ, ⊎_elim, ◌+◌, ◌<◌, ◌∙◌, ◌∷◌, ◌≡◌, ◌⊎◌}
use Rattle.mig_jobs.proofs.TableSteps.{listed_has, has_listed}

module _ (spots : List Spot) where
  -- a shift's target comes first, or isn't free
  free_cons : (s : Shift) (ss : List Shift) → ((free_targets spots (s ∷ ss) ≡ s.to ∷ free_targets spots ss) × (Contains spots s.to → ⊥)) ⊎ ((free_targets spots (s ∷ ss) ≡ free_targets spots ss) × Contains spots s.to)
  free_cons s ss = elim (cases_Bool (list_any (same_spot s.to) spots)) [
    | inl has ↦ inr (ap (λ (b : Bool). map (λ (t : Shift). t.to) (cond (not b) (s ∷ filter (λ (u : Shift). not (list_any (same_spot u.to) spots)) ss) (filter (λ (u : Shift). not (list_any (same_spot u.to) spots)) ss))) has, listed_has spots s.to has)
    | inr none ↦ inl (ap (λ (b : Bool). map (λ (t : Shift). t.to) (cond (not b) (s ∷ filter (λ (u : Shift). not (list_any (same_spot u.to) spots)) ss) (filter (λ (u : Shift). not (list_any (same_spot u.to) spots)) ss))) none, λ there. false≢true (sym none ∙ has_listed spots s.to there))
  ]

  module _ (P : Spot → Type 0) where
    abbrev pub OrTaken : Shift → Type 0
    OrTaken s = ¬ Contains spots s.to → P s.to

    -- the first shift whose target is this one
    pub record IsFirstAt (shifts : List Shift) (spot : Spot) : Type 0 where
      pub place : ℕ
      pub shift : Shift
      pub at : slice_get shifts place ≡ Some shift
      pub target : shift.to ≡ spot
      pub free : ¬ Contains spots spot
      pub before : All (λ s. ¬ Contains spots s.to → P s.to) (take place shifts)

    all_cons : (s : Shift) (ss : List Shift) → OrTaken s → All (λ t. ¬ Contains spots t.to → P t.to) ss → All (λ t. ¬ Contains spots t.to → P t.to) (s ∷ ss)
    all_cons s ss here rest zero d lt = here
    all_cons s ss here rest (suc k) d lt = rest k d (omega arith)

    later : (s : Shift) (ss : List Shift) (spot : Spot) → OrTaken s → IsFirstAt ss spot → IsFirstAt (s ∷ ss) spot
    later s ss spot here is = record {
      place = suc is.place;
      shift = is.shift;
      at = is.at;
      target = is.target;
      free = is.free;
      before = all_cons s (take is.place ss) here is.before;
    }

    pub first_at : (shifts : List Shift) (k : ℕ) (d : Spot) → k < length (free_targets spots shifts) → AllWithin P (free_targets spots shifts) 0 k → IsFirstAt shifts (get_or (free_targets spots shifts) k d)
    first_at [] k d lt before = absurd (omega arith)
    first_at (s ∷ ss) k d lt before = elim (free_cons s ss) [
      | inl free ↦ subst (λ (l : List Spot). IsFirstAt (s ∷ ss) (get_or l k d)) (sym free.0)
          (among (λ j. first_at ss j d) free.1 k (subst (λ (l : List Spot). k < length l) free.0 lt) (subst (λ (l : List Spot). AllWithin P l 0 k) free.0 before))
      | inr taken ↦ subst (λ (l : List Spot). IsFirstAt (s ∷ ss) (get_or l k d)) (sym taken.0)
          (later s ss (get_or (free_targets spots ss) k d) (λ out. absurd (out taken.1)) (first_at ss k d (subst (λ (l : List Spot). k < length l) taken.0 lt) (subst (λ (l : List Spot). AllWithin P l 0 k) taken.0 before)))
    ]
      where
        among : ((j : ℕ) → j < length (free_targets spots ss) → AllWithin P (free_targets spots ss) 0 j → IsFirstAt ss (get_or (free_targets spots ss) j d)) → (Contains spots s.to → ⊥) → (j : ℕ) → j < length (s.to ∷ free_targets spots ss)
            → AllWithin P (s.to ∷ free_targets spots ss) 0 j → IsFirstAt (s ∷ ss) (get_or (s.to ∷ free_targets spots ss) j d)
        among rest free zero low before_j = record { place = 0; shift = s; at = refl; target = refl; free = free; before = λ i e less. absurd (omega arith) }
        among rest free (suc j) low before_j = later s ss (get_or (free_targets spots ss) j d) (λ out. before_j 0 d (omega arith) (omega arith))
            (rest j (omega arith) (λ i e zero_le less. before_j (suc i) e (omega arith) (omega arith)))

    pub none_at : (shifts : List Shift) → AllWithin P (free_targets spots shifts) 0 (length (free_targets spots shifts)) → All (λ s. ¬ Contains spots s.to → P s.to) shifts
    none_at [] all = λ k d lt. absurd (omega arith)
    none_at (s ∷ ss) all = elim (free_cons s ss) [
      | inl free ↦
          let here = subst (λ (l : List Spot). AllWithin P l 0 (length l)) free.0 all in
          all_cons s ss (λ out. here 0 s.to (omega arith) (omega arith)) (none_at ss (λ i e low less. here (suc i) e (omega arith) (omega arith)))
      | inr taken ↦ all_cons s ss (λ out. absurd (out taken.1)) (none_at ss (subst (λ (l : List Spot). AllWithin P l 0 (length l)) taken.0 all))
    ]

  -- each free target is the target of a shift
  pub target_of : (shifts : List Shift) (k : ℕ) (d : Spot) → k < length (free_targets spots shifts) → (s : Shift) × Contains shifts s × (s.to ≡ get_or (free_targets spots shifts) k d)
  target_of [] k d lt = absurd (omega arith)
  target_of (s ∷ ss) k d lt = elim (free_cons s ss) [
    | inl free ↦ subst (λ (l : List Spot). (t : Shift) × Contains (s ∷ ss) t × (t.to ≡ get_or l k d)) (sym free.0) (among (λ j. target_of ss j d) k (subst (λ (l : List Spot). k < length l) free.0 lt))
    | inr taken ↦ subst (λ (l : List Spot). (t : Shift) × Contains (s ∷ ss) t × (t.to ≡ get_or l k d)) (sym taken.0)
        (let t = target_of ss k d (subst (λ (l : List Spot). k < length l) taken.0 lt) in (t.0, there s t.0 ss t.1, t.2))
  ]
    where
      among : ((j : ℕ) → j < length (free_targets spots ss) → (t : Shift) × Contains ss t × (t.to ≡ get_or (free_targets spots ss) j d)) → (j : ℕ) → j < length (s.to ∷ free_targets spots ss)
          → (t : Shift) × Contains (s ∷ ss) t × (t.to ≡ get_or (s.to ∷ free_targets spots ss) j d)
      among rest zero low = (s, (0, omega arith, refl), refl)
      among rest (suc j) low = let t = rest j (omega arith) in (t.0, there s t.0 ss t.1, t.2)

-- a shift of the plan is one of a round
pub in_round : (plan : List (List Shift)) (s : Shift) → Contains (shifts_of plan) s → (i : ℕ) × (i < length plan) × Contains (get_or plan i []) s
in_round [] s has = absurd (let lt = has.1 in omega arith)
in_round (r ∷ rs) s has = ⊎_elim (λ here. (0, omega arith, here)) (λ rest. let at = in_round rs s rest in (suc at.0, let lt = at.1 in omega arith, at.2)) (Contains-append_cases r (shifts_of rs) s has)

module _ (task : Task) (is : IsTask task) (targets : List Spot) (same : targets ≡ free_targets task.input.spots (shifts_of task.plan)) (k : ℕ) (lt : k < length targets) where
  -- a free target is on a disk
  pub target_disk : (get_or targets k no_spot).disk.0 < length task.input.disks
  target_disk = subst (λ (l : List Spot). (get_or l k no_spot).disk.0 < length task.input.disks) (sym same)
      (let t = target_of task.input.spots (shifts_of task.plan) k no_spot (subst (λ (l : List Spot). k < length l) same lt) in
      let at = in_round task.plan t.0 t.1 in
      subst (λ (p : Spot). p.disk.0 < length task.input.disks) t.2 (to_disk task.input (At task.input task.plan at.0) (round_at task.plan (suc at.0)) (is.runs.rounds at.0 at.1) t.0 at.2))

module _ (task : Task) (image : Image) (targets : List Spot) (same : targets ≡ free_targets task.input.spots (shifts_of task.plan)) where
  pub first_used : (k : ℕ) → k < length targets → AllWithin (IsUnused task.input image) targets 0 k → IsUsed task.input image (get_or targets k no_spot) → IsFirstUsed task.input task.plan image (get_or targets k no_spot)
  first_used k lt before used =
      let at = first_at task.input.spots (IsUnused task.input image) (shifts_of task.plan) k no_spot (subst (λ (l : List Spot). k < length l) same lt) (subst (λ (l : List Spot). AllWithin (IsUnused task.input image) l 0 k) same before) in
      let e : get_or (free_targets task.input.spots (shifts_of task.plan)) k no_spot ≡ get_or targets k no_spot = ap (λ (l : List Spot). get_or l k no_spot) (sym same) in
      record {
        place = at.place;
        shift = at.shift;
        at = at.at;
        target = at.target ∙ e;
        free = subst (λ (p : Spot). ¬ Contains task.input.spots p) e at.free;
        used = used;
        before = at.before;
      }

  pub none_used : AllWithin (IsUnused task.input image) targets 0 (length targets) → All (CanTake task.input image) (shifts_of task.plan)
  none_used all = none_at task.input.spots (IsUnused task.input image) (shifts_of task.plan) (subst (λ (l : List Spot). AllWithin (IsUnused task.input image) l 0 (length l)) same all)

pub ruleset targets = (target_disk, first_used, none_used)

-- Items

pub shifted_is : (plan : List (List Shift)) (item : ℕ) → list_any (is_of item) (shifts_of plan) ≡ true → IsShifted plan item
shifted_is plan item said = let any = Any-from_list_any (is_of item) (shifts_of plan) said in (any.0, any.1, any.2, any.3, eqb-true any.1.item.0 item any.4)

-- an item that the plan shifts is lost exactly where it isn't there
pub lost_answer : (task : Task) (image : Image) (item : ℕ) (input : InputLists) (said : Bool) → input ≡ task.input → list_any (is_of item) (shifts_of task.plan) ≡ true → MatchBool said (IsThere input image item) (IsLost input image item)
    → MatchBool (not said) (IsShifted task.plan item × IsLost task.input image item) (IsShifted task.plan item → IsThere task.input image item)
lost_answer task image item input true same shifted is = λ moves. subst (λ (i : InputLists). IsThere i image item) same is
lost_answer task image item input false same shifted is = (shifted_is task.plan item shifted, subst (λ (i : InputLists). IsLost i image item) same is)

pub next_item : (P : ℕ → Type 0) (k : ℕ) → ((i : ℕ) → i < k → P i) → P k → (i : ℕ) → i < k + 1 → P i
next_item P k before here i lt = elim (cases_eq i k) [
  | inl is ↦ subst P (sym is) here
  | inr other ↦ before i (omega arith)
]

pub next_within : {X : Type 0} (P : X → Type 0) (xs : List X) (k : ℕ) (e : X) → k < length xs → AllWithin P xs 0 k → P (get_or xs k e) → AllWithin P xs 0 (k + 1)
next_within P xs k e lt before here i d low high = elim (cases_eq i k) [
  | inl same ↦ subst P (sym (ap (λ (n : ℕ). get_or xs n d) same ∙ get_or_default xs k d e lt)) here
  | inr other ↦ before i d low (omega arith)
]

pub none_of : {X P : Type 0} (found : Option X) → ((x : X) → found ≡ Some x → ⊥) → IfNone found P → P
none_of None out gives = gives
none_of (Some x) out gives = absurd (out x refl)

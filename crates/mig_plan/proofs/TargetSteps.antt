-- The spots that relocated items are given, one after the other.
use Rattle.mig_plan.proofs.Common.{AreFirstTargets, AreTargets, Bool, Contains, Contains-append_cases, Contains-append_left, Contains-append_right, Contains-push, IsFreeFrom, IsLowestFree, List}
use Rattle.mig_plan.proofs.Common.{InputLists, Spot, [], ap, append-nil, arith, cases_eq, cases_lt, cond, drop, false, filter, filter-append}
use Rattle.mig_plan.proofs.Common.{first_moves, get_or, get_or-set_other, get_or-set_same, get_or_append_left, get_or_default, get_or_push, incoming}
use Rattle.mig_plan.proofs.Common.{inl, inr, is_relocated, length, length-append, length-set, map-id, move_at, moves, no_spot, present, range_more}
use Rattle.mig_plan.proofs.Common.{range_with_len, refl, same_Some, set, slice_get-get_or, slice_get_within, some_free, spot, subst, sym}
use Rattle.mig_plan.proofs.Common.{take, take-append-drop, take-append-le, take-map-range_with_len, take_all, target, target_at, true, ℕ, ◌++◌, ◌+◌, ◌<◌, ◌∙◌, ◌∷◌, ◌≡◌, ◌≤◌}

moves_by : (input : InputLists) (i : ℕ) (b : Bool) → is_relocated input i ≡ b → first_moves input (i + 1) ≡ first_moves input i ++ cond b (i ∷ []) []
moves_by input i b t = ap (filter (is_relocated input)) (range_more i) ∙ filter-append (is_relocated input) (range_with_len 0 i) (i ∷ []) ∙ ap (λ c. first_moves input i ++ cond c (i ∷ []) []) t

pub stays : (input : InputLists) (i : ℕ) (targets : List Spot) (cursors : List ℕ) → is_relocated input i ≡ false → AreFirstTargets input i targets cursors → AreFirstTargets input (i + 1) targets cursors
stays input i targets cursors f a =
    let same : first_moves input (i + 1) ≡ first_moves input i = moves_by input i false f ∙ append-nil (first_moves input i) in
    record { len = a.len ∙ ap (λ (x : List ℕ). length x) (sym same); each = a.each; cursors_len = a.cursors_len; passed = a.passed; below = a.below }

-- the place of a relocated item among the moves
pub record IsMoveAt (input : InputLists) (i move : ℕ) : Type 0 where
  pub there : move < length (moves input)
  pub item : move_at input move ≡ i

pub move_is : (input : InputLists) (i move : ℕ) → i < length input.items → is_relocated input i ≡ true → move ≡ length (first_moves input i) → IsMoveAt input i move
move_is input i move h t e =
    let p : ℕ → Bool = is_relocated input in
    let items = range_with_len 0 (length input.items) in
    let kept = first_moves input i in
    let rest = filter p (drop (i + 1) items) in
    let front : take (i + 1) items ≡ range_with_len 0 (i + 1) = ap (take (i + 1)) (sym (map-id items)) ∙ take-map-range_with_len (λ x. x) 0 (length input.items) (i + 1) (omega (arith, h)) ∙ map-id (range_with_len 0 (i + 1)) in
    let list : moves input ≡ (kept ++ i ∷ []) ++ rest =
    ap (filter p) (sym (take-append-drop (i + 1) items)) ∙ filter-append p (take (i + 1) items) (drop (i + 1) items)
    ∙ ap (λ (xs : List ℕ). filter p xs ++ rest) front ∙ ap (λ (xs : List ℕ). xs ++ rest) (moves_by input i true t) in
    let long = length-append kept (i ∷ []) in
    record {
      there = omega (arith, e, ap (λ (xs : List ℕ). length xs) list, length-append (kept ++ i ∷ []) rest, long);
      item = ap (λ (xs : List ℕ). get_or xs move 0) list ∙ get_or_append_left (kept ++ i ∷ []) rest 0 move (omega (arith, e, long)) ∙ get_or_push kept i 0 move (sym e);
    }

more_taken : (spots targets : List Spot) (t s : Spot) → Contains (spots ++ targets) s → Contains (spots ++ (targets ++ t ∷ [])) s
more_taken spots targets t s has = elim (Contains-append_cases spots targets s has) [
  | inl a ↦ Contains-append_left spots (targets ++ t ∷ []) s a
  | inr b ↦ Contains-append_right spots (targets ++ t ∷ []) s (Contains-append_left targets (t ∷ []) s b)
]

-- a relocated item is given the free slot that is found from the cursor of its next disk on
module _ (input : InputLists) (i : ℕ) (targets : List Spot) (cursors : List ℕ) (v r : ℕ) (h : i < length input.items) (t : is_relocated input i ≡ true) (there : v < length input.disks) (next : v ≡ target input i) (a : AreFirstTargets input i targets cursors) (x : IsFreeFrom input.spots v (get_or cursors v 0) r) where
  T : List Spot
  T = targets ++ spot v r ∷ []

  long : length (targets ++ spot v r ∷ []) ≡ length targets + 1
  long = length-append targets (spot v r ∷ [])

  within : v < length cursors
  within = omega (arith, there, a.cursors_len)

  lowest : (s : ℕ) → s < r → Contains (input.spots ++ targets) (spot v s)
  lowest s l = elim (cases_lt s (get_or cursors v 0)) [
    | inl lt ↦ a.passed v s there lt
    | inr ge ↦ Contains-append_left input.spots targets (spot v s) (x.lowest s ge l)
  ]

  free : Contains (input.spots ++ targets) (spot v r) → ⊥
  free has = elim (Contains-append_cases input.spots targets (spot v r) has) [
    | inl c ↦ x.free c
    | inr c ↦
        let same : target_at targets c.0 ≡ spot v r = get_or_default targets c.0 no_spot (spot v r) c.1 ∙ c.2 in
        absurd (omega (arith, a.below c.0 c.1, ap (λ (z : Spot). z.slot) same, ap (λ (z : Spot). get_or cursors z.disk.0 0) same, x.from_on))
  ]

  new_each : (move : ℕ) → move < length (targets ++ spot v r ∷ []) → IsLowestFree (input.spots ++ take move (targets ++ spot v r ∷ [])) (target input (move_at input move)) (target_at (targets ++ spot v r ∷ []) move)
  new_each move l =
      let list = targets ++ spot v r ∷ [] in
      subst (λ (y : List Spot). IsLowestFree (input.spots ++ y) (target input (move_at input move)) (target_at list move)) (sym (take-append-le move targets (spot v r ∷ []) (omega (arith, l, long))))
      (elim (cases_lt move (length targets)) [
        | inl lt ↦ subst (λ (y : Spot). IsLowestFree (input.spots ++ take move targets) (target input (move_at input move)) y) (sym (get_or_append_left targets (spot v r ∷ []) no_spot move lt)) (a.each move lt)
        | inr ge ↦
            let at : move ≡ length targets = omega (arith, ge, l, long) in
            let is = move_is input i move h t (at ∙ a.len) in
            subst (λ (y : List Spot). IsLowestFree (input.spots ++ y) (target input (move_at input move)) (target_at list move)) (sym (take_all move targets (omega (arith, at))))
            (subst (λ (y : Spot). IsLowestFree (input.spots ++ targets) (target input (move_at input move)) y) (sym (get_or_push targets (spot v r) no_spot move (sym at)))
            (record { on_disk = next ∙ ap (target input) (sym is.item); free = free; lowest = λ s k. lowest s k }))
      ])

  new_passed : (w s : ℕ) → w < length input.disks → s < get_or (set cursors v (r + 1)) w 0 → Contains (input.spots ++ (targets ++ spot v r ∷ [])) (spot w s)
  new_passed w s hw l = elim (cases_eq w v) [
    | inl e ↦ subst (λ u. Contains (input.spots ++ (targets ++ spot v r ∷ [])) (spot u s)) (sym e) (elim (cases_eq s r) [
      | inl f ↦ subst (λ u. Contains (input.spots ++ (targets ++ spot v r ∷ [])) (spot v u)) (sym f) (Contains-append_right input.spots (targets ++ spot v r ∷ []) (spot v r) (Contains-push targets (spot v r)))
      | inr ne ↦ more_taken input.spots targets (spot v r) (spot v s) (lowest s (omega (arith, l, ne, ap (λ u. get_or (set cursors v (r + 1)) u 0) e, get_or-set_same cursors v (r + 1) 0 within)))
    ])
    | inr ne ↦ more_taken input.spots targets (spot v r) (spot w s) (a.passed w s hw (omega (arith, l, get_or-set_other cursors v w (r + 1) 0 ne)))
  ]

  new_below : (move : ℕ) → move < length (targets ++ spot v r ∷ []) → (target_at (targets ++ spot v r ∷ []) move).slot < get_or (set cursors v (r + 1)) (target_at (targets ++ spot v r ∷ []) move).disk.0 0
  new_below move l = elim (cases_lt move (length targets)) [
    | inl lt ↦ subst (λ (y : Spot). y.slot < get_or (set cursors v (r + 1)) y.disk.0 0) (sym (get_or_append_left targets (spot v r ∷ []) no_spot move lt)) (elim (cases_eq (target_at targets move).disk.0 v) [
      | inl f ↦ omega (arith, a.below move lt, ap (λ u. get_or cursors u 0) f, ap (λ u. get_or (set cursors v (r + 1)) u 0) f, get_or-set_same cursors v (r + 1) 0 within, x.from_on)
      | inr ne ↦ omega (arith, a.below move lt, get_or-set_other cursors v (target_at targets move).disk.0 (r + 1) 0 ne)
    ])
    | inr ge ↦ subst (λ (y : Spot). y.slot < get_or (set cursors v (r + 1)) y.disk.0 0) (sym (get_or_push targets (spot v r) no_spot move (omega (arith, ge, l, long)))) (omega (arith, get_or-set_same cursors v (r + 1) 0 within))
  ]

  pub goes : AreFirstTargets input (i + 1) (targets ++ spot v r ∷ []) (set cursors v (r + 1))
  goes = record {
    len = long ∙ omega (arith, a.len, ap (λ (y : List ℕ). length y) (moves_by input i true t), length-append (first_moves input i) (i ∷ []));
    each = new_each;
    cursors_len = length-set cursors v (r + 1) ∙ a.cursors_len;
    passed = new_passed;
    below = new_below;
  }

-- there is such a slot among as many as the disk has items and gets
pub not_full : (input : InputLists) (i : ℕ) (targets : List Spot) (cursors : List ℕ) (v slots : ℕ) → i < length input.items → is_relocated input i ≡ true → v < length input.disks → v ≡ target input i → present input v + incoming input v ≤ slots → AreFirstTargets input i targets cursors → ((s : ℕ) → get_or cursors v 0 ≤ s → s < slots → Contains input.spots (spot v s)) → ⊥
not_full input i targets cursors v slots h t there next room a full =
    let move = length targets in
    let is = move_is input i move h t a.len in
    some_free input move targets v slots room is.there refl (λ k l. (a.each k l).on_disk) (ap (target input) is.item ∙ sym next)
    (λ s l. elim (cases_lt s (get_or cursors v 0)) [
      | inl lt ↦ a.passed v s there lt
      | inr ge ↦ Contains-append_left input.spots targets (spot v s) (full s ge l)
    ])

pub finish : (input : InputLists) (n : ℕ) (targets : List Spot) (cursors : List ℕ) → n ≡ length input.items → AreFirstTargets input n targets cursors → AreTargets input targets
finish input n targets cursors e a =
    let x : AreFirstTargets input (length input.items) targets cursors = subst (λ m. AreFirstTargets input m targets cursors) e a in
    record {
      len = x.len;
      each = λ k item s at_item at_spot.
          let there : k < length targets = slice_get_within targets k s at_spot in
          let item_is : move_at input k ≡ item = same_Some (move_at input k) item (sym (slice_get-get_or (moves input) k 0 (slice_get_within (moves input) k item at_item)) ∙ at_item) in
          let spot_is : target_at targets k ≡ s = same_Some (target_at targets k) s (sym (slice_get-get_or targets k no_spot there) ∙ at_spot) in
          subst (λ (y : Spot). IsLowestFree (input.spots ++ take k targets) (target input item) y) spot_is
          (subst (λ m. IsLowestFree (input.spots ++ take k targets) (target input m) (target_at targets k)) item_is (x.each k there));
    }

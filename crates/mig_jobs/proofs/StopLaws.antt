-- Where an item is, by its stops.
use Rattle.mig_jobs.proofs.Common.{All, All-append, All-map, AreWaypoints, At, Bool, Global, InputLists, IsInput, IsPartitionPoint, IsPartitionedBy, List, None, Option, Shift, Some, Spot, Vec, Waypoint, []}
use Rattle.mig_jobs.proofs.Common.{ap, append-nil, append_assoc, arith, cases_eq, cases_lt, cond, cond-false, cond-true, eq-eqb, false, filter, get_or, get_or-append_right, get_or_append_left}
use Rattle.mig_jobs.proofs.Common.{get_or_default, inl, inr, is_of, last_spot, last_target, le-leb, leb, leb-false, leb-true, length, length-append, list_any, list_any-append, map, ne_eqb}
use Rattle.mig_jobs.proofs.Common.{no_spot, not, option_or, refl, round_at, shifts_of, slice_get, slice_get-get_or, subst, suc, sym, take, take_all, true, waypoint_of, waypoints_by, waypoints_in, zero, ℕ}
use Rattle.mig_jobs.proofs.Common.{◌++◌, ◌+◌, ◌-◌, ◌<◌, ◌==◌, ◌||◌, ◌∙◌, ◌∷◌, ◌≡◌, ◌≤◌}
use Rattle.mig_jobs.proofs.TableSteps.{shifts_more}

or_assoc : (a b c : Option Spot) → option_or (option_or a b) c ≡ option_or a (option_or b c)
or_assoc None b c = refl
or_assoc (Some x) b c = refl

or_none : (a : Option Spot) → option_or a None ≡ a
or_none None = refl
or_none (Some x) = refl

last_append : (xs ys : List Waypoint) → last_spot (xs ++ ys) ≡ option_or (last_spot ys) (last_spot xs)
last_append [] ys = sym (or_none (last_spot ys))
last_append (x ∷ xs) ys = ap (λ (o : Option Spot). option_or o (Some x.spot)) (last_append xs ys) ∙ or_assoc (last_spot ys) (last_spot xs) (Some x.spot)

-- the last stop of a round is its last target
last_by : (round item : ℕ) (shifts : List Shift) → last_spot (waypoints_by round shifts item) ≡ last_target shifts item
last_by round item [] = refl
last_by round item (s ∷ ss) = elim (cases_eq s.item.0 item) [
  | inl same ↦ ap (λ (xs : List Shift). last_spot (map (waypoint_of round) xs)) (cond-true (s.item.0 == item) (s ∷ filter (is_of item) ss) (filter (is_of item) ss) (eq-eqb _ _ same))
      ∙ ap (λ (o : Option Spot). option_or o (Some s.to)) (last_by round item ss)
      ∙ ap (λ (o : Option Spot). option_or (last_target ss item) o) (sym (cond-true (s.item.0 == item) (Some s.to) None (eq-eqb _ _ same)))
  | inr other ↦ ap (λ (xs : List Shift). last_spot (map (waypoint_of round) xs)) (cond-false (s.item.0 == item) (s ∷ filter (is_of item) ss) (filter (is_of item) ss) (ne_eqb _ _ other))
      ∙ last_by round item ss ∙ sym (or_none (last_target ss item))
      ∙ ap (λ (o : Option Spot). option_or (last_target ss item) o) (sym (cond-false (s.item.0 == item) (Some s.to) None (ne_eqb _ _ other)))
]

-- an item is at its last stop, or where it is now
pub at_stop : (input : InputLists) (plan : List (List Shift)) (k item : ℕ) → At input plan k item ≡ option_or (last_spot (waypoints_in plan k item)) (slice_get input.spots item)
at_stop input plan zero item = refl
at_stop input plan (suc k) item =
    ap (λ (o : Option Spot). option_or (last_target (round_at plan (suc k)) item) o) (at_stop input plan k item)
    ∙ sym (or_assoc (last_target (round_at plan (suc k)) item) (last_spot (waypoints_in plan k item)) (slice_get input.spots item))
    ∙ ap (λ (o : Option Spot). option_or (option_or o (last_spot (waypoints_in plan k item))) (slice_get input.spots item)) (sym (last_by (suc k) item (round_at plan (suc k))))
    ∙ ap (λ (o : Option Spot). option_or o (slice_get input.spots item)) (sym (last_append (waypoints_in plan k item) (waypoints_by (suc k) (round_at plan (suc k)) item)))

-- the rounds of stops
by_round : (P : ℕ → Type 0) (round item : ℕ) (shifts : List Shift) → P round → All (λ s. P s.round) (waypoints_by round shifts item)
by_round P round item shifts p = All-map (λ (s : Waypoint). P s.round) (waypoint_of round) (filter (is_of item) shifts) (λ k d lt. p)

all_wider : (P Q : Waypoint → Type 0) (xs : List Waypoint) → ((s : Waypoint) → P s → Q s) → All P xs → All Q xs
all_wider P Q xs within all k d lt = within (get_or xs k d) (all k d lt)

pub first_stops : (plan : List (List Shift)) (k item : ℕ) → All (λ s. s.round ≤ k) (waypoints_in plan k item)
first_stops plan zero item = λ j d lt. absurd (omega arith)
first_stops plan (suc k) item = All-append (λ (s : Waypoint). s.round ≤ suc k) (waypoints_in plan k item) (waypoints_by (suc k) (round_at plan (suc k)) item)
    (all_wider (λ s. s.round ≤ k) (λ s. s.round ≤ suc k) (waypoints_in plan k item) (λ s le. omega arith) (first_stops plan k item))
    (by_round (λ r. r ≤ suc k) (suc k) item (round_at plan (suc k)) (omega arith))

-- the stops after the first rounds
pub later_stops : (plan : List (List Shift)) (k n r item : ℕ) → r ≡ n + k → (after : List Waypoint) × (waypoints_in plan r item ≡ waypoints_in plan k item ++ after) × All (λ s. k < s.round) after
later_stops plan k zero r item e = ([], ap (λ (m : ℕ). waypoints_in plan m item) (let same : r ≡ k = omega (arith, e) in same) ∙ sym (append-nil (waypoints_in plan k item)), λ j d lt. absurd (omega arith))
later_stops plan k (suc n) zero item e = absurd (omega (arith, e))
later_stops plan k (suc n) (suc r) item e =
    let rest = later_stops plan k n r item (omega (arith, e)) in
    let more = waypoints_by (suc r) (round_at plan (suc r)) item in (
      rest.0 ++ more,
      ap (λ (xs : List Waypoint). xs ++ more) rest.1 ∙ append_assoc (waypoints_in plan k item) rest.0 more,
      All-append (λ (s : Waypoint). k < s.round) rest.0 more rest.2 (by_round (λ x. k < x) (suc r) item (round_at plan (suc r)) (omega (arith, e))),
    )

pub stops_split : (plan : List (List Shift)) (k r item : ℕ) → k ≤ r → (after : List Waypoint) × (waypoints_in plan r item ≡ waypoints_in plan k item ++ after) × All (λ s. k < s.round) after
stops_split plan k r item le = later_stops plan k (r - k) r item (omega arith)

-- Whether a plan shifts an item

abbrev any_stop : List Waypoint → Bool
any_stop [] = false
any_stop (stop ∷ stops) = true

any_length : (stops : List Waypoint) → not (length stops == 0) ≡ any_stop stops
any_length [] = refl
any_length (stop ∷ stops) = ap not (ne_eqb (suc (length stops)) 0 (λ e. absurd (omega (arith, e))))

any_append : (xs ys : List Waypoint) → any_stop (xs ++ ys) ≡ (any_stop xs || any_stop ys)
any_append [] ys = refl
any_append (x ∷ xs) ys = refl

any_by : (round item : ℕ) (shifts : List Shift) → any_stop (waypoints_by round shifts item) ≡ list_any (is_of item) shifts
any_by round item [] = refl
any_by round item (s ∷ shifts) = at (any_by round item shifts) (is_of item s)
  where
    at : any_stop (waypoints_by round shifts item) ≡ list_any (is_of item) shifts → (b : Bool)
        → any_stop (map (waypoint_of round) (cond b (s ∷ filter (is_of item) shifts) (filter (is_of item) shifts))) ≡ (b || list_any (is_of item) shifts)
    at rest true = refl
    at rest false = rest

-- an item has a stop exactly where a shift is of it
pub any_in : (plan : List (List Shift)) (r item : ℕ) → r ≤ length plan → any_stop (waypoints_in plan r item) ≡ list_any (is_of item) (shifts_of (take r plan))
any_in plan zero item le = refl
any_in plan (suc r) item le =
    let round = round_at plan (suc r) in
    let more : shifts_of (take (suc r) plan) ≡ shifts_of (take r plan) ++ round = ap (λ (n : ℕ). shifts_of (take n plan)) (let e : suc r ≡ r + 1 = omega arith in e)
    ∙ shifts_more plan r [] (omega (arith, le)) ∙ ap (λ (l : List Shift). shifts_of (take r plan) ++ l) (get_or_default plan r [] [] (omega (arith, le))) in
    any_append (waypoints_in plan r item) (waypoints_by (suc r) round item)
    ∙ ap (λ (b : Bool). b || any_stop (waypoints_by (suc r) round item)) (any_in plan r item (omega (arith, le)))
    ∙ ap (λ (b : Bool). list_any (is_of item) (shifts_of (take r plan)) || b) (any_by (suc r) item round)
    ∙ sym (list_any-append (is_of item) (shifts_of (take r plan)) round)
    ∙ ap (λ (l : List Shift). list_any (is_of item) l) (sym more)

pub shifted_is : (plan : List (List Shift)) (item : ℕ) (stops : List Waypoint) → stops ≡ waypoints_in plan (length plan) item → not (length stops == 0) ≡ list_any (is_of item) (shifts_of plan)
shifted_is plan item stops are =
    any_length stops ∙ ap any_stop are
    ∙ any_in plan (length plan) item (omega arith)
    ∙ ap (λ (l : List (List Shift)). list_any (is_of item) (shifts_of l)) (take_all (length plan) plan (omega arith))

-- Searching

abbrev pub no_stop : Waypoint
no_stop = record { round = 0; spot = no_spot }

module _ (stops before after : List Waypoint) (is : stops ≡ before ++ after) (round : ℕ) (low : All (λ s. s.round ≤ round) before) (high : All (λ s. round < s.round) after) where
  pub few_before : length before ≤ length stops
  few_before = let n = ap (λ (xs : List Waypoint). length xs) is in omega (arith, n, length-append before after)

  pub not_after : (i : ℕ) (d : Waypoint) → i < length stops → (get_or stops i d).round ≤ round → i < length before
  not_after i d lt le = elim (cases_lt i (length before)) [
    | inl before_it ↦ before_it
    | inr past ↦ absurd (let n = ap (λ (xs : List Waypoint). length xs) is in
        let here : get_or stops i d ≡ get_or after (i - length before) d = ap (λ (xs : List Waypoint). get_or xs i d) is ∙ get_or-append_right before after (length before) i d refl past in
        let r = ap (λ (s : Waypoint). s.round) here in
        let above = high (i - length before) d (omega (arith, n, length-append before after, lt, past)) in
        omega (arith, r, above, le))
  ]

  pub not_before : (i : ℕ) (d : Waypoint) → round < (get_or stops i d).round → length before ≤ i
  not_before i d gt = elim (cases_lt i (length before)) [
    | inl lt ↦ absurd (
        let here : get_or stops i d ≡ get_or before i d = ap (λ (xs : List Waypoint). get_or xs i d) is ∙ get_or_append_left before after d i lt in
        let r = ap (λ (s : Waypoint). s.round) here in
        let below = low i d lt in
        omega (arith, r, below, gt))
    | inr past ↦ past
  ]

  -- the stops that pass the test come first
  pub parted : IsPartitionedBy (λ (s : Waypoint). leb s.round round) stops
  parted i j d le lt passes =
      let first = not_after j d lt (leb-true (get_or stops j d).round round passes) in
      let within : i < length before = omega (arith, le, first) in
      let here : get_or stops i d ≡ get_or before i d = ap (λ (xs : List Waypoint). get_or xs i d) is ∙ get_or_append_left before after d i within in
      le-leb (get_or stops i d).round round (subst (λ (s : Waypoint). s.round ≤ round) (sym here) (low i d within))

  -- where they end, the others begin
  pub point_is : (count : ℕ) → count ≤ length stops → IsPartitionPoint (λ (s : Waypoint). leb s.round round ≡ true) (λ (s : Waypoint). leb s.round round ≡ false) stops count → count ≡ length before
  point_is count most point = let high_enough = most_before count most (λ i d lt. leb-true (get_or stops i d).round round (point.0 i d (omega arith) lt)) in
      let low_enough = all_before count most (λ i d le lt. leb-false (get_or stops i d).round round (point.1 i d le lt)) in
      omega (arith, high_enough, low_enough)
    where
      most_before : (n : ℕ) → n ≤ length stops → ((i : ℕ) (d : Waypoint) → i < n → (get_or stops i d).round ≤ round) → n ≤ length before
      most_before zero le each = omega arith
      most_before (suc n) le each = let last = not_after n no_stop (omega (arith, le)) (each n no_stop (omega arith)) in omega (arith, last)

      all_before : (n : ℕ) → n ≤ length stops → ((i : ℕ) (d : Waypoint) → n ≤ i → i < length stops → round < (get_or stops i d).round) → length before ≤ n
      all_before n le each = elim (cases_lt n (length stops)) [
        | inl lt ↦ not_before n no_stop (each n no_stop (omega arith) lt)
        | inr past ↦ omega (arith, past, few_before)
      ]

  pub last_found : (i : ℕ) (d : Waypoint) → length before ≡ suc i → last_spot before ≡ Some (get_or stops i d).spot
  last_found i d len = last_here before i d len ∙ ap (λ (s : Waypoint). Some s.spot) (sym (ap (λ (xs : List Waypoint). get_or xs i d) is ∙ get_or_append_left before after d i (omega (arith, len))))
    where
      last_here : (xs : List Waypoint) (j : ℕ) (e : Waypoint) → length xs ≡ suc j → last_spot xs ≡ Some (get_or xs j e).spot
      last_here [] j e n = absurd (omega arith)
      last_here (x ∷ []) zero e n = refl
      last_here (x ∷ []) (suc j) e n = absurd (omega arith)
      last_here (x ∷ y ∷ ys) zero e n = absurd (omega arith)
      last_here (x ∷ y ∷ ys) (suc j) e n = ap (λ (o : Option Spot). option_or o (Some x.spot)) (last_here (y ∷ ys) j e (omega arith))

  pub none_found : length before ≡ 0 → last_spot before ≡ None
  none_found len = none_here before len
    where
      none_here : (xs : List Waypoint) → length xs ≡ 0 → last_spot xs ≡ None
      none_here [] n = refl
      none_here (x ∷ xs) n = absurd (omega arith)

-- Building

-- a round more
pub rounds_more : (input : InputLists) (plan : List (List Shift)) (k round : ℕ) (shifts : List Shift) (rows new : List (Vec Waypoint Global)) → round ≡ suc k → shifts ≡ round_at plan (suc k) → length new ≡ length rows
    → ((item : ℕ) (d : Vec Waypoint Global) → item < length new → (get_or new item d).items ≡ (get_or rows item d).items ++ waypoints_by round shifts item) → AreWaypoints input plan k rows → AreWaypoints input plan (suc k) new
rounds_more input plan k round shifts rows new next same len added are = record {
  each = len ∙ are.each;
  row = λ item d lt. added item d lt ∙ ap (λ (xs : List Waypoint). xs ++ waypoints_by round shifts item) (are.row item d (omega (arith, lt, len)))
      ∙ ap (λ (n : ℕ). waypoints_in plan k item ++ waypoints_by n shifts item) next ∙ ap (λ (l : List Shift). waypoints_in plan k item ++ waypoints_by (suc k) l item) same;
}

-- The spot that is found

module _ (input : InputLists) (plan : List (List Shift)) (k item : ℕ) (most : k ≤ length plan) (stops : List Waypoint) (are : stops ≡ waypoints_in plan (length plan) item) (answer : Option Spot)
    (gives : (before after : List Waypoint) → stops ≡ before ++ after → All (λ s. s.round ≤ k) before → All (λ s. k < s.round) after → answer ≡ last_spot before) where
  at_answer : At input plan k item ≡ option_or answer (slice_get input.spots item)
  at_answer =
      let rest = stops_split plan k (length plan) item most in
      at_stop input plan k item ∙ ap (λ (o : Option Spot). option_or o (slice_get input.spots item)) (sym (gives (waypoints_in plan k item) rest.0 (are ∙ rest.1) (first_stops plan k item) rest.2))

  pub at_some : (spot : Spot) → answer ≡ Some spot → At input plan k item ≡ Some spot
  at_some spot is = at_answer ∙ ap (λ (o : Option Spot). option_or o (slice_get input.spots item)) is

  pub at_none : IsInput input → item < length input.items → (spots : List Spot) (d : Spot) → spots ≡ input.spots → answer ≡ None → At input plan k item ≡ Some (get_or spots item d)
  at_none valid lt spots d now is = at_answer ∙ ap (λ (o : Option Spot). option_or o (slice_get input.spots item)) is ∙ slice_get-get_or input.spots item d (omega (arith, lt, valid.spots_len)) ∙ ap (λ (l : List Spot). Some (get_or l item d)) (sym now)

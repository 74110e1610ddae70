-- A plan that runs and moves each relocated item once is a schedule that obeys.
use Rattle.mig_base.proofs.Common.{All, All-filter, At, Bool, DiskId, InputLists, IsInput, IsSchedule, List, None, Obeys, Once, Option, Runs, Shift, Some, Spot, Transfer, [], ap, arith, cases_lt, cond}
use Rattle.mig_base.proofs.Common.{count_by, eq-eqb, eqb, eqb-true, false, false≢true, filter, filter_passes, get_or, get_or-le-sum_by, get_or-range_with_len, inl, inr, is_of, is_relocated}
use Rattle.mig_base.proofs.Common.{last_target, length, length-range_with_len, list_any, map, moves, nat_tests, no_spot, not, option_map, option_or, passes_at_first, position_or_len}
use Rattle.mig_base.proofs.Common.{range_with_len, refl, round_at, round_of, shift_count, slice_get, slice_get-get_or, source, subst, suc, sum_by, sum_by-cons, sym, target, transfer}
use Rattle.mig_base.proofs.Common.{transfer_of, transfers_in, true, zero, ℕ, ◌&&◌, ◌+◌, ◌-◌, ◌<◌, ◌||◌, ◌∙◌, ◌∷◌, ◌≡◌, ◌≢◌, ◌≤◌}
use Rattle.mig_base.proofs.Copies.{count_by-le-one}
use Rattle.mig_base.proofs.KeptLimits.{keeps_fewer}
use Rattle.mig_base.proofs.Counting.{sum_by-map, sum_by-le_each, sum_by-none, sum_by-swap, one, count_by-filter-le}

-- each passing number is the key of some passing element, and no number stands twice: then no more numbers pass than elements
pub count_by-keyed : {Y : Type 0} (p : ℕ → Bool) (q : Y → Bool) (key : Y → ℕ) (ms : List ℕ) (ys : List Y) → ((k : ℕ) → count_by (λ m. eqb m k) ms ≤ 1) → All (λ m. one (p m) ≤ count_by (λ y. eqb m (key y) && q y) ys) ms → count_by p ms ≤ count_by q ys
count_by-keyed p q key ms ys apart each =
    let up = sum_by-le_each (λ m. one (p m)) (λ m. sum_by (λ y. one (eqb m (key y) && q y)) ys) ms each in
    let down = sum_by-le_each (λ y. sum_by (λ m. one (eqb m (key y) && q y)) ms) (λ y. one (q y)) ys (λ k d _. held (q (get_or ys k d)) (key (get_or ys k d)) ms (apart (key (get_or ys k d)))) in
    omega (arith, up, down, sum_by-swap (λ m y. one (eqb m (key y) && q y)) ms ys)
  where
    held : (b : Bool) (k : ℕ) (ms : List ℕ) → count_by (λ m. eqb m k) ms ≤ 1 → sum_by (λ m. one (eqb m k && b)) ms ≤ one b
    held true k ms h = omega (arith, h, sum_by-le_each (λ m. one (eqb m k && true)) (λ m. one (eqb m k)) ms (λ j d _. same (eqb (get_or ms j d) k)))
      where
        same : (b : Bool) → one (b && true) ≤ one b
        same b = grind (arith, nat_tests)
    held false k ms h = omega (arith, sum_by-none ms, sum_by-le_each (λ m. one (eqb m k && false)) (λ m. 0) ms (λ j d _. same (eqb (get_or ms j d) k)))
      where
        same : (b : Bool) → one (b && false) ≤ 0
        same b = grind (arith, nat_tests)

none_left : (o : Option Spot) (b : Bool) (x : Spot) → o ≡ None → one b ≡ 0 → option_or o (cond b (Some x) None) ≡ None
none_left o true x e h = absurd (omega (arith, h))
none_left o false x e h = rw e refl

picked : (o : Option Spot) (b : Bool) (x : Spot) → o ≡ None → b ≡ true → option_or o (cond b (Some x) None) ≡ Some x
picked o b x e f = rw (e, f) refl

kept : (o p : Option Spot) (x : Spot) → o ≡ Some x → option_or o p ≡ Some x
kept o p x e = rw e refl

passed : (o p : Option Spot) → o ≡ None → option_or o p ≡ p
passed o p e = rw e refl

-- an item that a round doesn't shift has no target there
pub none_counted : (round : List Shift) (m : ℕ) → count_by (is_of m) round ≡ 0 → last_target round m ≡ None
none_counted [] m none = refl
none_counted (s ∷ ss) m none =
    let split = sum_by-cons (λ x. one (is_of m x)) s ss in
    none_left (last_target ss m) (is_of m s) s.to (none_counted ss m (omega (arith, split, none))) (omega (arith, split, none))

-- the shift of an item that a round shifts once
pub record ShiftedBy (round : List Shift) (m : ℕ) : Type 0 where
  pub shift : Shift
  pub index : ℕ
  pub in_round : index < length round
  pub is : (d : Shift) → get_or round index d ≡ shift
  pub item : shift.item.0 ≡ m
  pub target : last_target round m ≡ Some shift.to

shifted_cons : (s : Shift) (ss : List Shift) (m : ℕ) (b : Bool) → is_of m s ≡ b → one b + count_by (is_of m) ss ≡ 1 → (count_by (is_of m) ss ≡ 1 → ShiftedBy ss m) → ShiftedBy (s ∷ ss) m
shifted_cons s ss m true e once rest = record {
  shift = s;
  index = 0;
  in_round = omega arith;
  is = λ d. refl;
  item = eqb-true s.item.0 m e;
  target = picked (last_target ss m) (is_of m s) s.to (none_counted ss m (omega (arith, once))) e;
}
shifted_cons s ss m false e once rest =
    let r = rest (omega (arith, once)) in
    record {
      shift = r.shift;
      index = suc r.index;
      in_round = omega (arith, r.in_round);
      is = r.is;
      item = r.item;
      target = kept (last_target ss m) (cond (is_of m s) (Some s.to) None) r.shift.to r.target;
    }

pub shifted_round : (round : List Shift) (m : ℕ) → count_by (is_of m) round ≡ 1 → ShiftedBy round m
shifted_round [] m once = absurd (omega (arith, once))
shifted_round (s ∷ ss) m once =
    let split = sum_by-cons (λ x. one (is_of m x)) s ss in
    shifted_cons s ss m (is_of m s) refl (omega (arith, split, once)) (λ h. shifted_round ss m h)

-- where a sum is 1, one place has it alone
alone : {X : Type 0} (f : X → ℕ) (xs : List X) (k r : ℕ) (d : X) → sum_by f xs ≡ 1 → 1 ≤ f (get_or xs k d) → k < length xs → r < length xs → r ≢ k → f (get_or xs r d) ≡ 0
alone f [] k r d once some hk hr ne = absurd (omega (arith, hk))
alone f (x ∷ xs) zero zero d once some hk hr ne = absurd (ne refl)
alone f (x ∷ xs) zero (suc r) d once some hk hr ne = omega (arith, sum_by-cons f x xs, once, some, get_or-le-sum_by f xs r d (omega (arith, hr)))
alone f (x ∷ xs) (suc k) zero d once some hk hr ne = omega (arith, sum_by-cons f x xs, once, some, get_or-le-sum_by f xs k d (omega (arith, hk)))
alone f (x ∷ xs) (suc k) (suc r) d once some hk hr ne =
    alone f xs k r d (omega (arith, sum_by-cons f x xs, once, some, get_or-le-sum_by f xs k d (omega (arith, hk)))) some (omega (arith, hk)) (omega (arith, hr)) (λ e. ne (ap (λ (n : ℕ). suc n) e))

-- an item that is shifted once in round k + 1, and in no other
pub record IsShiftedAt (plan : List (List Shift)) (m k : ℕ) : Type 0 where
  pub here : count_by (is_of m) (round_at plan (suc k)) ≡ 1
  pub others : (r : ℕ) → r < length plan → r ≢ k → count_by (is_of m) (round_at plan (suc r)) ≡ 0

pub shifted_at : (plan : List (List Shift)) (m k : ℕ) → k < length plan → shift_count plan m ≡ 1 → 1 ≤ count_by (is_of m) (round_at plan (suc k)) → IsShiftedAt plan m k
shifted_at plan m k within once some =
    let f : List Shift → ℕ = λ r. count_by (is_of m) r in
    record {
      here = omega (arith, once, some, get_or-le-sum_by f plan k [] within);
      others = λ r there ne. alone f plan k r [] once some within there ne;
    }

-- its spot is unchanged before that round, and the shift's target from then on
pub spot_before : (input : InputLists) (plan : List (List Shift)) (m k : ℕ) → ((r : ℕ) → r < k → count_by (is_of m) (round_at plan (suc r)) ≡ 0) → At input plan k m ≡ slice_get input.spots m
spot_before input plan m zero none = refl
spot_before input plan m (suc k) none =
    passed (last_target (round_at plan (suc k)) m) (At input plan k m) (none_counted (round_at plan (suc k)) m (none k (omega arith))) ∙ spot_before input plan m k (λ r h. none r (omega (arith, h)))

pub spot_later : (input : InputLists) (plan : List (List Shift)) (m n k j : ℕ) → j ≡ n + k → ((r : ℕ) → k ≤ r → r < j → count_by (is_of m) (round_at plan (suc r)) ≡ 0) → At input plan j m ≡ At input plan k m
spot_later input plan m zero k j e none = ap (λ (i : ℕ). At input plan i m) (omega (arith, e))
spot_later input plan m (suc n) k zero e none = absurd (omega (arith, e))
spot_later input plan m (suc n) k (suc j) e none =
    passed (last_target (round_at plan (suc j)) m) (At input plan j m) (none_counted (round_at plan (suc j)) m (none j (omega (arith, e)) (omega arith)))
    ∙ spot_later input plan m n k j (omega (arith, e)) (λ r l h. none r l (omega (arith, h)))

-- what is at a place of a list
pub is_at : {X : Type 0} (xs : List X) (k : ℕ) (d x : X) → k < length xs → slice_get xs k ≡ Some x → get_or xs k d ≡ x
is_at xs k d x h e = let f = sym (slice_get-get_or xs k d h) ∙ e in cc

transfer_by : (t u : Transfer) → t.leaves ≡ u.leaves → t.reaches ≡ u.reaches → t ≡ u
transfer_by t u e f = ap (λ (n : ℕ). let x : Transfer = record { leaves = n; reaches = t.reaches } in x) e ∙ ap (λ (n : ℕ). let x : Transfer = record { leaves = u.leaves; reaches = n } in x) f

same_transfer : (p : Transfer → Bool) (s : Shift) (m : ℕ) (t : Transfer) → s.item.0 ≡ m → transfer_of s ≡ t → one (p t) ≤ one (eqb m s.item.0 && p (transfer_of s))
same_transfer p s m t item same = rw (item, ap p same, eq-eqb m m refl) (omega arith)

-- such an item's shift has the two ends of its move
shift_ends : (input : InputLists) (plan : List (List Shift)) (m k : ℕ) → IsInput input → Runs input plan → m < length input.items → k < length plan → IsShiftedAt plan m k → (by : ShiftedBy (round_at plan (suc k)) m) → (by.shift.from.disk.0 ≡ source input m) × (by.shift.to.disk.0 ≡ target input m)
shift_ends input plan m k valid runs there within at by =
    let P : Shift → Type 0 = λ s. At input plan k s.item.0 ≡ Some s.from in
    let leaves : At input plan k by.shift.item.0 ≡ Some by.shift.from = subst P (by.is by.shift) ((runs.rounds k within).leaves by.index by.shift by.in_round) in
    let before : At input plan k m ≡ slice_get input.spots m = spot_before input plan m k (λ r h. at.others r (omega (arith, h, within)) (λ e. omega arith)) in
    let now : slice_get input.spots m ≡ Some by.shift.from = sym before ∙ ap (λ (i : ℕ). At input plan k i) (sym by.item) ∙ leaves in
    let next : At input plan (suc k) m ≡ Some by.shift.to = kept (last_target (round_at plan (suc k)) m) (At input plan k m) by.shift.to by.target in
    let end : At input plan (length plan) m ≡ Some by.shift.to = spot_later input plan m (length plan - suc k) (suc k) (length plan) (omega (arith, within)) (λ r l h. at.others r h (λ e. omega arith)) ∙ next in
    let disk : slice_get input.next m ≡ Some by.shift.to.disk = sym (runs.arrives m there) ∙ ap (λ (o : Option Spot). option_map (λ (s : Spot). s.disk) o) end in (
      sym (ap (λ (s : Spot). s.disk.0) (is_at input.spots m no_spot by.shift.from (omega (arith, there, valid.spots_len)) now)),
      sym (ap (λ (d : DiskId). d.0) (is_at input.next m (record { 0 = 0 }) by.shift.to.disk (omega (arith, there, valid.next_len)) disk)),
    )

counted_shift : (input : InputLists) (plan : List (List Shift)) (m k : ℕ) → IsInput input → Runs input plan → m < length input.items → k < length plan → IsShiftedAt plan m k → (by : ShiftedBy (round_at plan (suc k)) m) → (p : Transfer → Bool) → one (p (transfer input m)) ≤ count_by (λ s. eqb m s.item.0 && p (transfer_of s)) (round_at plan (suc k))
counted_shift input plan m k valid runs there within at by p =
    let ends = shift_ends input plan m k valid runs there within at by in
    let f : Shift → ℕ = λ s. one (eqb m s.item.0 && p (transfer_of s)) in
    let here = get_or-le-sum_by f (round_at plan (suc k)) by.index by.shift by.in_round in
    omega (arith, same_transfer p by.shift m (transfer input m) by.item (transfer_by (transfer_of by.shift) (transfer input m) ends.0 ends.1), ap f (by.is by.shift), here)

any_cons : (b : Bool) (n : ℕ) (c : Bool) → 1 ≤ one b + n → (1 ≤ n → c ≡ true) → (b || c) ≡ true
any_cons true n c h rest = refl
any_cons false n c h rest = rest (omega (arith, h))

-- a round that counts a shift of the item has one
any_counted : (round : List Shift) (m : ℕ) → 1 ≤ count_by (is_of m) round → list_any (is_of m) round ≡ true
any_counted [] m some = absurd (omega (arith, some))
any_counted (s ∷ ss) m some = any_cons (is_of m s) (count_by (is_of m) ss) (list_any (is_of m) ss) (omega (arith, some, sum_by-cons (λ x. one (is_of m x)) s ss)) (any_counted ss m)

first_cons : (b : Bool) (n c p len : ℕ) → 1 ≤ n + c → (1 ≤ n → b ≡ true) → (1 ≤ c → p < len) → cond (not b) (1 + p) 0 < suc len
first_cons true n c p len some here rest = omega arith
first_cons false n c p len some here rest = elim (cases_lt 0 n) [ inl l ↦ absurd (false≢true (here l)) | inr l ↦ omega (arith, rest (omega (arith, some, l))) ]

-- the place of the first round with a shift of the item
abbrev first : List (List Shift) → ℕ → ℕ
first plan m = position_or_len (λ r. list_any (is_of m) r) plan

found_round : (plan : List (List Shift)) (m : ℕ) → 1 ≤ shift_count plan m → first plan m < length plan
found_round [] m some = absurd (omega (arith, some))
found_round (r ∷ plan) m some = first_cons (list_any (is_of m) r) (count_by (is_of m) r) (shift_count plan m) (first plan m) (length plan) (omega (arith, some, sum_by-cons (λ x. count_by (is_of m) x) r plan)) (any_counted r m) (found_round plan m)

any_some : (round : List Shift) (m : ℕ) → list_any (is_of m) round ≡ true → 1 ≤ count_by (is_of m) round
any_some [] m h = absurd (false≢true h)
any_some (s ∷ ss) m h = some_cons (is_of m s) (list_any (is_of m) ss) (count_by (is_of m) ss) (count_by (is_of m) (s ∷ ss)) h (any_some ss m) (sum_by-cons (λ x. one (is_of m x)) s ss)
  where
    some_cons : (b c : Bool) (n k : ℕ) → (b || c) ≡ true → (c ≡ true → 1 ≤ n) → k ≡ one b + n → 1 ≤ k
    some_cons true c n k h rest e = omega (arith, e)
    some_cons false c n k h rest e = omega (arith, e, rest h)

pub shifted_first : (plan : List (List Shift)) (m : ℕ) → shift_count plan m ≡ 1 → (first plan m < length plan) × IsShiftedAt plan m (first plan m)
shifted_first plan m once =
    let within = found_round plan m (omega (arith, once)) in
    (within, shifted_at plan m (first plan m) within once (any_some (round_at plan (suc (first plan m))) m (passes_at_first (λ r. list_any (is_of m) r) plan [] within)))

pub transfer_counted : (input : InputLists) (plan : List (List Shift)) (m k : ℕ) → IsInput input → Runs input plan → m < length input.items → k < length plan → IsShiftedAt plan m k → (p : Transfer → Bool) → one (p (transfer input m)) ≤ count_by (λ s. eqb m s.item.0 && p (transfer_of s)) (round_at plan (suc k))
transfer_counted input plan m k valid runs there within at p = counted_shift input plan m k valid runs there within at (shifted_round (round_at plan (suc k)) m at.here) p

pub once_in_range : (a n k : ℕ) → count_by (λ m. eqb m k) (range_with_len a n) ≤ 1
once_in_range a n k = count_by-le-one (λ m. eqb m k) (range_with_len a n) (λ i j d l m h g.
    let in_list : j < n = omega (arith, m, length-range_with_len a n) in
    let i_at = get_or-range_with_len a n i d (omega (arith, l, in_list)) in
    let j_at = get_or-range_with_len a n j d in_list in
    absurd (omega (arith, l, i_at, j_at, eqb-true (get_or (range_with_len a n) i d) k h, eqb-true (get_or (range_with_len a n) j d) k g)))

pub range_below : (n : ℕ) → All (λ m. m < n) (range_with_len 0 n)
range_below n = λ k d h. omega (arith, get_or-range_with_len 0 n k d (omega (arith, h, length-range_with_len 0 n)), length-range_with_len 0 n, h)

-- each move is an item, and is relocated
pub moves_there : (input : InputLists) → All (λ m. m < length input.items) (moves input)
moves_there input = All-filter (is_relocated input) (λ m. m < length input.items) (range_with_len 0 (length input.items)) (range_below (length input.items))

move_once : (input : InputLists) (plan : List (List Shift)) → Once input plan → All (λ m. shift_count plan m ≡ 1) (moves input)
move_once input plan once = λ k d h. once (get_or (moves input) k d) (moves_there input k d h) ∙ ap (λ (b : Bool). one b) (filter_passes (is_relocated input) (range_with_len 0 (length input.items)) k d h)

pub scheduled : (input : InputLists) (plan : List (List Shift)) → Once input plan → IsSchedule input (length plan) (round_of plan)
scheduled input plan once = λ k d h. let at = shifted_first plan (get_or (moves input) k d) (move_once input plan once k d h) in (omega arith, omega (arith, at.0))

counted_in_round : (input : InputLists) (plan : List (List Shift)) (m r : ℕ) (p : Transfer → Bool) → IsInput input → Runs input plan → m < length input.items → shift_count plan m ≡ 1 → eqb (round_of plan m) (suc r) ≡ true → one (p (transfer input m)) ≤ count_by (λ s. eqb m s.item.0 && p (transfer_of s)) (round_at plan (suc r))
counted_in_round input plan m r p valid runs there once same =
    let at = shifted_first plan m once in
    let e : first plan m ≡ r = omega (arith, eqb-true (round_of plan m) (suc r) same) in
    let P : ℕ → Type 0 = λ k. one (p (transfer input m)) ≤ count_by (λ s. eqb m s.item.0 && p (transfer_of s)) (round_at plan (suc k)) in
    subst P e (transfer_counted input plan m (first plan m) valid runs there at.0 at.1 p)

-- the transfers of the moves of a round are among those of its shifts, whatever is counted of them
pub transfers_counted : (input : InputLists) (plan : List (List Shift)) (p : Transfer → Bool) (r : ℕ) → IsInput input → Runs input plan → Once input plan → count_by p (transfers_in input (round_of plan) (suc r)) ≤ count_by p (map transfer_of (round_at plan (suc r)))
transfers_counted input plan p r valid runs once =
    let q : Shift → Bool = λ s. p (transfer_of s) in
    let ms = filter (λ m. eqb (round_of plan m) (suc r)) (moves input) in
    let round = round_at plan (suc r) in
    let apart : (k : ℕ) → count_by (λ m. eqb m k) ms ≤ 1 = λ k. omega (arith, count_by-filter-le (λ m. eqb m k) (λ m. eqb (round_of plan m) (suc r)) (moves input), count_by-filter-le (λ m. eqb m k) (is_relocated input) (range_with_len 0 (length input.items)), once_in_range 0 (length input.items) k) in
    let each : All (λ m. one (p (transfer input m)) ≤ count_by (λ s. eqb m s.item.0 && q s) round) ms = λ k e h.
    let known = All-filter (λ m. eqb (round_of plan m) (suc r)) (λ m. (m < length input.items) × (shift_count plan m ≡ 1)) (moves input) (λ j f l. (moves_there input j f l, move_once input plan once j f l)) k e h in
    counted_in_round input plan (get_or ms k e) r p valid runs known.0 known.1 (filter_passes (λ m. eqb (round_of plan m) (suc r)) (moves input) k e h) in
    omega (arith, sum_by-map (λ t. one (p t)) (transfer input) ms, sum_by-map (λ t. one (p t)) transfer_of round, count_by-keyed (λ m. p (transfer input m)) q (λ s. s.item.0) ms round apart each)

-- where a plan runs and moves each relocated item once, the rounds of the shifts are a schedule that obeys
pub obeys : (input : InputLists) (plan : List (List Shift)) → IsInput input → Runs input plan → Once input plan → Obeys input (length plan) (round_of plan)
obeys input plan valid runs once zero least most v there = absurd (omega (arith, least))
obeys input plan valid runs once (suc r) least most v there =
    keeps_fewer _ v (transfers_in input (round_of plan) (suc r)) (map transfer_of (round_at plan (suc r))) (λ p. transfers_counted input plan p r valid runs once) ((runs.rounds r (omega (arith, most))).limits v there)

-- What a plan's rows keep: whose they are, where they go, and the limits of each round.
use Rattle.mig_numbers.proofs.Common.{All, All-append, All-contains, All-filter, All-map, All-nil, AreRows, AreSound, Bool, Cert, Contains}
use Rattle.mig_numbers.proofs.Common.{Contains-append_cases, Contains-append_left, Contains-append_right, Contains-get_or, Disk, DiskId, DiskNumbers}
use Rattle.mig_numbers.proofs.Common.{Found, InputLists, IsCertified, IsLowestFree, IsMoveShift, IsPlanOf, IsPlanned, IsRow, ItemNumbers, KeepsLimit}
use Rattle.mig_numbers.proofs.Common.{List, Needs, Shift, ShiftNumbers, Spot, Transfer, [], add-one, ap, append-nil, arith, cases_lt, cond, disk_in}
use Rattle.mig_numbers.proofs.Common.{false, filter, filter-append, filter_passes, found_of, get_or, get_or-map, get_or-take, get_or_default, inl}
use Rattle.mig_numbers.proofs.Common.{input_of, inr, is_before, is_in_round, is_relocated, length, length-map, length-map-range_with_len}
use Rattle.mig_numbers.proofs.Common.{length-take-le, limits_of, lowest_at, lt-ltb, ltb-true, made_item, map, map_same, move_at, move_relocated}
use Rattle.mig_numbers.proofs.Common.{move_there, moves, nat_tests, next_of, no_item, no_numbers, no_spot, one_all, plan_rows, refl, round_at, row_of}
use Rattle.mig_numbers.proofs.Common.{row_spot, row_transfer, rows_upto, set_in, shift_count, shifted_first, shifted_round, source, spot_of, subst}
use Rattle.mig_numbers.proofs.Common.{suc, sym, take, target, target_at, transfer_of, true, zero, ℕ, ⊎_elim, ◌++◌, ◌+◌, ◌<◌, ◌==◌, ◌∙◌, ◌∷◌, ◌≡◌, ◌≤◌}
use Rattle.mig_base.proofs.Components.{increasing_filter}
use Rattle.mig_numbers.proofs.Counts.{found_is, once_rows}
use Rattle.mig_numbers.proofs.Inputs.{made_at}
use Rattle.mig_numbers.proofs.Lists.{map_map}
use Rattle.mig_numbers.proofs.Rows.{rows_next}

-- Lists

kept_rest : {X : Type 0} (b : Bool) (x y : X) (xs : List X) → Contains xs y → Contains (cond b (x ∷ xs) xs) y
kept_rest true x y xs h = Contains-append_right (x ∷ []) xs y h
kept_rest false x y xs h = h

contains_filter : {X : Type 0} (p : X → Bool) (xs : List X) (y : X) → Contains xs y → p y ≡ true → Contains (filter p xs) y
contains_filter p [] y h t = absurd (omega (arith, h.1))
contains_filter {X} p (x ∷ xs) y h t = ⊎_elim
    (λ one.
    let same : x ≡ y = All-contains (λ z. x ≡ z) (x ∷ []) y (one_all (λ z. x ≡ z) x refl) one in
    subst (λ (b : Bool). Contains (cond b (x ∷ filter p xs) (filter p xs)) y) (sym (ap p same ∙ t)) (0, omega arith, same))
    (λ more. kept_rest (p x) x y (filter p xs) (contains_filter p xs y more t))
    (Contains-append_cases (x ∷ []) xs y h)

contains_map : {X Y : Type 0} (f : X → Y) (xs : List X) (x : X) → Contains xs x → Contains (map f xs) (f x)
contains_map f xs x h = (h.0, omega (arith, h.1, length-map xs f), get_or-map f xs h.0 x (f x) h.1 ∙ ap f h.2)

-- The rows of rounds

all_rows : (P : ShiftNumbers → Type 0) (plan : List (List Shift)) (n : ℕ) → ((k : ℕ) → k < n → All (λ s. P (row_of (k + 1) s)) (round_at plan (suc k))) → All P (rows_upto plan n)
all_rows P plan zero h = All-nil P
all_rows P plan (suc n) h =
    let more = map (row_of (n + 1)) (round_at plan (suc n)) in
    let step = All-append P (rows_upto plan n) more (all_rows P plan n (λ k lt. h k (omega (arith, lt)))) (All-map P (row_of (n + 1)) (round_at plan (suc n)) (h n (omega arith))) in
    subst (λ m. All P (rows_upto plan m)) (add-one n) (subst (All P) (sym (rows_next plan n)) step)

has_row : (plan : List (List Shift)) (k n : ℕ) (s : Shift) → k < n → Contains (round_at plan (suc k)) s → Contains (rows_upto plan n) (row_of (k + 1) s)
has_row plan k zero s lt h = absurd (omega (arith, lt))
has_row plan k (suc n) s lt h =
    let row = row_of (k + 1) s in
    let more = map (row_of (n + 1)) (round_at plan (suc n)) in
    let step : Contains (rows_upto plan n ++ more) row = elim (cases_lt k n) [
      | inl less ↦ Contains-append_left (rows_upto plan n) more row (has_row plan k n s less h)
      | inr last ↦
          let same : k ≡ n = omega (arith, lt, last) in
          Contains-append_right (rows_upto plan n) more row (subst (λ m. Contains (map (row_of (m + 1)) (round_at plan (suc m))) row) same (contains_map (row_of (k + 1)) (round_at plan (suc k)) s h))
    ] in
    subst (λ m. Contains (rows_upto plan m) row) (add-one n) (subst (λ (rs : List ShiftNumbers). Contains rs row) (sym (rows_next plan n)) step)

in_round : (q r : ℕ) (b : Bool) (shifts : List Shift) → (q == r) ≡ b → filter (is_in_round r) (map (row_of q) shifts) ≡ cond b (map (row_of q) shifts) []
in_round q r true [] e = refl
in_round q r false [] e = refl
in_round q r true (s ∷ shifts) e = rw e (ap (λ (rs : List ShiftNumbers). row_of q s ∷ rs) (in_round q r true shifts e))
in_round q r false (s ∷ shifts) e = rw e (in_round q r false shifts e)

none_before : (plan : List (List Shift)) (k n : ℕ) → n ≤ k → filter (is_in_round (k + 1)) (rows_upto plan n) ≡ []
none_before plan k zero h = refl
none_before plan k (suc n) h =
    let p = is_in_round (k + 1) in
    let other : (n + 1 == k + 1) ≡ false = grind (arith, nat_tests) in
    let more = map (row_of (n + 1)) (round_at plan (suc n)) in
    let step : filter p (rows_upto plan (n + 1)) ≡ [] = ap (filter p) (rows_next plan n) ∙ filter-append p (rows_upto plan n) more
    ∙ ap (λ (rs : List ShiftNumbers). rs ++ filter p more) (none_before plan k n (omega (arith, h))) ∙ in_round (n + 1) (k + 1) false (round_at plan (suc n)) other in
    subst (λ m. filter p (rows_upto plan m) ≡ []) (add-one n) step

-- the rows in a round are those of its shifts
round_rows : (plan : List (List Shift)) (k n : ℕ) → k < n → filter (is_in_round (k + 1)) (rows_upto plan n) ≡ map (row_of (k + 1)) (round_at plan (suc k))
round_rows plan k zero lt = absurd (omega (arith, lt))
round_rows plan k (suc n) lt =
    let p = is_in_round (k + 1) in
    let wanted = map (row_of (k + 1)) (round_at plan (suc k)) in
    let more = map (row_of (n + 1)) (round_at plan (suc n)) in
    let split = ap (filter p) (rows_next plan n) ∙ filter-append p (rows_upto plan n) more in
    let step : filter p (rows_upto plan (n + 1)) ≡ wanted = elim (cases_lt k n) [
      | inl less ↦
          let other : (n + 1 == k + 1) ≡ false = grind (arith, nat_tests) in
          split ∙ ap (λ (rs : List ShiftNumbers). rs ++ filter p more) (round_rows plan k n less) ∙ ap (λ (rs : List ShiftNumbers). wanted ++ rs) (in_round (n + 1) (k + 1) false (round_at plan (suc n)) other) ∙ append-nil wanted
      | inr last ↦
          let same : n ≡ k = omega (arith, lt, last) in
          let this : (n + 1 == k + 1) ≡ true = grind (arith, nat_tests) in
          split ∙ ap (λ (rs : List ShiftNumbers). rs ++ filter p more) (none_before plan k n (omega (arith, same))) ∙ in_round (n + 1) (k + 1) true (round_at plan (suc n)) this
          ∙ ap (λ m. map (row_of (m + 1)) (round_at plan (suc m))) same
    ] in
    subst (λ m. filter p (rows_upto plan m) ≡ wanted) (add-one n) step

-- Free slots

lowest_in : (xs ys : List Spot) (v w : ℕ) (s t : Spot) → ((x : Spot) → Contains xs x → Contains ys x) → ((x : Spot) → Contains ys x → Contains xs x) → v ≡ w → s ≡ t → IsLowestFree xs v s → IsLowestFree ys w t
lowest_in xs ys v w s t forth back e f l =
    let here : IsLowestFree ys v s = record { on_disk = l.on_disk; free = λ c. l.free (back s c); lowest = λ slot lt. forth (record { disk = s.disk; slot = slot }) (l.lowest slot lt) } in
    subst (IsLowestFree ys w) f (subst (λ n. IsLowestFree ys n s) e here)

-- a row is that of a move
record IsMoveRow (input : InputLists) (targets : List Spot) (rounds : ℕ) (row : ShiftNumbers) : Type 0 where
  move : ℕ
  within : move < length (moves input)
  item_is : row.item ≡ move_at input move
  spot_is : row_spot row ≡ target_at targets move
  from_one : 1 ≤ row.round
  in_rounds : row.round ≤ rounds

module _ (split : Bool) (disks : List DiskNumbers) (items : List ItemNumbers) (plan : List (List Shift)) (made : IsPlanOf (input_of split disks items) plan) where
  abbrev input : InputLists
  input = input_of split disks items

  abbrev targets : List Spot
  targets = made.targets.0

  abbrev rows : List ShiftNumbers
  rows = plan_rows plan

  ascending : (a b : ℕ) → a < b → b < length (moves input) → move_at input a < move_at input b
  ascending a b lt within = increasing_filter (is_relocated input) 0 (length input.items) a b 0 lt within

  item_there : (move : ℕ) → move < length (moves input) → move_at input move < length items
  item_there move within = omega (arith, move_there input move within, length-map-range_with_len made_item 0 (length items))

  move_shift_of : (k : ℕ) → k < length plan → All (IsMoveShift input targets) (round_at plan (suc k))
  move_shift_of k lt = made.targets.2 k [] lt

  move_row : (k : ℕ) (s : Shift) → k < length plan → IsMoveShift input targets s → IsMoveRow input targets (length plan) (row_of (k + 1) s)
  move_row k s lt m = record {
    move = m.0;
    within = m.1;
    item_is = ap (λ (x : Shift). x.item.0) m.2;
    spot_is = ap (λ (x : Shift). row_spot (row_of (k + 1) x)) m.2;
    from_one = omega arith;
    in_rounds = omega (arith, lt);
  }

  move_rows : All (IsMoveRow input targets (length plan)) rows
  move_rows = all_rows (IsMoveRow input targets (length plan)) plan (length plan) (λ k lt i d below. move_row k (get_or (round_at plan (suc k)) i d) lt (move_shift_of k lt i d below))

  -- the row of an earlier move goes to its target
  earlier_at : (j move : ℕ) → j < move → move < length (moves input) → (k : ℕ) → k < length plan → (s : Shift) → Contains (round_at plan (suc k)) s → s.item.0 ≡ move_at input j → Contains (map row_spot (filter (is_before (move_at input move)) rows)) (target_at targets j)
  earlier_at j move lt within k below s has item =
      let m = All-contains (IsMoveShift input targets) (round_at plan (suc k)) s (move_shift_of k below) has in
      let of_m : move_at input m.0 ≡ move_at input j = sym (ap (λ (x : Shift). x.item.0) m.2) ∙ item in
      let same : m.0 ≡ j = elim (cases_lt m.0 j) [
        | inl less ↦ absurd (omega (arith, of_m, ascending m.0 j less (omega (arith, lt, within))))
        | inr ge ↦ elim (cases_lt j m.0) [ inl more ↦ absurd (omega (arith, of_m, ascending j m.0 more m.1)) | inr le ↦ omega (arith, ge, le) ]
      ] in
      let row = row_of (k + 1) s in
      let before : is_before (move_at input move) row ≡ true = lt-ltb s.item.0 (move_at input move) (omega (arith, item, ascending j move lt within)) in
      let spot : row_spot row ≡ target_at targets j = ap (λ (x : Shift). row_spot (row_of (k + 1) x)) m.2 ∙ ap (target_at targets) same in
      subst (Contains (map row_spot (filter (is_before (move_at input move)) rows))) spot
      (contains_map row_spot (filter (is_before (move_at input move)) rows) row (contains_filter (is_before (move_at input move)) rows row (has_row plan k (length plan) s below has) before))

  earlier_row : (j move : ℕ) → j < move → move < length (moves input) → Contains (map row_spot (filter (is_before (move_at input move)) rows)) (target_at targets j)
  earlier_row j move lt within =
      let there : j < length (moves input) = omega (arith, lt, within) in
      let once : shift_count plan (move_at input j) ≡ 1 = made.once (move_at input j) (move_there input j there) ∙ ap (λ (b : Bool). cond b 1 0) (move_relocated input j there) in
      let first = shifted_first plan (move_at input j) once in
      let at = first.1 in
      let by = shifted_round _ (move_at input j) at.here in
      earlier_at j move lt within _ first.0 by.shift (by.index, by.in_round, by.is by.shift) by.item

  -- and a row of an earlier item goes to the target of an earlier move
  earlier_target : (move : ℕ) → move < length (moves input) → All (Contains (take move targets)) (map row_spot (filter (is_before (move_at input move)) rows))
  earlier_target move within =
      let before = is_before (move_at input move) in
      All-map (Contains (take move targets)) row_spot (filter before rows) (λ i d lt.
      let row = get_or (filter before rows) i d in
      let r = All-filter before (IsMoveRow input targets (length plan)) rows move_rows i d lt in
      let less : row.item < move_at input move = ltb-true row.item (move_at input move) (filter_passes before rows i d lt) in
      let low : r.move < move = elim (cases_lt r.move move) [
        | inl less_too ↦ less_too
        | inr ge ↦ elim (cases_lt move r.move) [
          | inl more ↦ absurd (omega (arith, less, r.item_is, ascending move r.move more r.within))
          | inr le ↦ let same : move ≡ r.move = omega (arith, ge, le) in absurd (omega (arith, less, r.item_is, ap (move_at input) same))
        ]
      ] in
      let len = made.targets.1.len in
      let long = length-take-le move targets (omega (arith, len, within)) in
      subst (Contains (take move targets)) (get_or-take move targets r.move no_spot low ∙ sym r.spot_is) (Contains-get_or (take move targets) r.move no_spot (omega (arith, low, long))))

  -- an earlier target is that of the row of an earlier item
  forth : (move : ℕ) (x : Spot) → move < length (moves input) → Contains (take move targets) x → Contains (map row_spot (filter (is_before (move_at input move)) rows)) x
  forth move x within c =
      let len = made.targets.1.len in
      let long = length-take-le move targets (omega (arith, len, within)) in
      let low : c.0 < move = omega (arith, c.1, long) in
      subst (Contains (map row_spot (filter (is_before (move_at input move)) rows))) (at_no_spot c.0 low (omega (arith, low, len, within)) ∙ c.2) (earlier_row c.0 move low within)
    where
      at_no_spot : (j : ℕ) → j < move → j < length targets → target_at targets j ≡ get_or (take move targets) j x
      at_no_spot j low there = get_or_default targets j no_spot x there ∙ sym (get_or-take move targets j x low)

  is_row : (row : ShiftNumbers) → IsMoveRow input targets (length plan) row → IsRow items rows (length plan) row
  is_row row r =
      let item = move_at input r.move in
      let there = item_there r.move r.within in
      let goes : target input item ≡ (get_or items item no_item).next_disk = ap (λ (v : DiskId). v.0) (get_or-map next_of items item no_item (record { 0 = 0 }) there) in
      let used = map row_spot (filter (is_before item) rows) in
      let lowest : IsLowestFree (map spot_of items ++ used) (get_or items item no_item).next_disk (row_spot row) =
      lowest_in (map spot_of items ++ take r.move targets) (map spot_of items ++ used) (target input item) (get_or items item no_item).next_disk (target_at targets r.move) (row_spot row)
      (λ x c. ⊎_elim
      (λ old. Contains-append_left (map spot_of items) used x old)
      (λ given. Contains-append_right (map spot_of items) used x (forth r.move x r.within given))
      (Contains-append_cases (map spot_of items) (take r.move targets) x c))
      (λ x c. ⊎_elim
      (λ old. Contains-append_left (map spot_of items) (take r.move targets) x old)
      (λ given. Contains-append_right (map spot_of items) (take r.move targets) x (All-contains (Contains (take r.move targets)) used x (earlier_target r.move r.within) given))
      (Contains-append_cases (map spot_of items) used x c))
      goes (sym r.spot_is) (lowest_at input targets made.targets.1 r.move r.within) in
      record {
        item = omega (arith, there, r.item_is);
        from_one = r.from_one;
        in_rounds = r.in_rounds;
        lowest = subst (λ i. IsLowestFree (map spot_of items ++ map row_spot (filter (is_before i) rows)) (get_or items i no_item).next_disk (row_spot row)) (sym r.item_is) lowest;
      }

  -- the transfers of the rows in a round are those of its shifts
  transfer_same : (k : ℕ) (s : Shift) → IsMoveShift input targets s → row_transfer items (row_of (k + 1) s) ≡ transfer_of s
  transfer_same k s m =
      let there = item_there m.0 m.1 in
      let from : source input (move_at input m.0) ≡ (get_or items (move_at input m.0) no_item).disk = ap (λ (x : Spot). x.disk.0) (get_or-map spot_of items (move_at input m.0) no_item no_spot there) in
      let to = (target_at targets m.0).disk.0 in
      subst (λ (x : Shift). row_transfer items (row_of (k + 1) x) ≡ transfer_of x) (sym m.2) (ap (λ n. leg n to) (sym from))
    where
      leg : ℕ → ℕ → Transfer
      leg a b = record { leaves = a; reaches = b }

  transfers_same : (k : ℕ) → k < length plan → map (row_transfer items) (filter (is_in_round (k + 1)) rows) ≡ map transfer_of (round_at plan (suc k))
  transfers_same k lt =
      let f : Shift → Transfer = λ s. row_transfer items (row_of (k + 1) s) in
      ap (map (row_transfer items)) (round_rows plan k (length plan) lt) ∙ map_map (row_transfer items) (row_of (k + 1)) (round_at plan (suc k))
      ∙ map_same f transfer_of (round_at plan (suc k)) (λ i d below. transfer_same k (get_or (round_at plan (suc k)) i d) (move_shift_of k lt i d below))

  limits_kept : (sound : AreSound split disks items) (r v : ℕ) → 1 ≤ r → r ≤ length plan → v < length disks → KeepsLimit (limits_of split (get_or disks v no_numbers)) v (map (row_transfer items) (filter (is_in_round r) rows))
  limits_kept sound zero v least most there = absurd (omega (arith, least))
  limits_kept sound (suc k) v least most there =
      let lt : k < length plan = omega (arith, most) in
      let kept = (made.runs.rounds k lt).limits v (omega (arith, there, length-map-range_with_len (disk_in split disks) 0 (length disks))) in
      let at = made_at split disks items sound.few sound.disks_sound sound.items_sound v there in
      let here : KeepsLimit (limits_of split (get_or disks v no_numbers)) v (map transfer_of (round_at plan (suc k))) = subst (λ (d : Disk). KeepsLimit d.limits v (map transfer_of (round_at plan (suc k)))) at kept in
      subst (λ m. KeepsLimit (limits_of split (get_or disks v no_numbers)) v (map (row_transfer items) (filter (is_in_round m) rows))) (add-one k)
      (subst (KeepsLimit (limits_of split (get_or disks v no_numbers)) v) (sym (transfers_same k lt)) here)

  are_rows : AreSound split disks items → AreRows split disks items rows (length plan)
  are_rows sound = record {
    each = λ i d lt. is_row (get_or rows i d) (move_rows i d lt);
    once = once_rows split disks items plan made;
    limits = limits_kept sound;
  }

-- a certified plan's rows and numbers are all that is promised
pub planned : (split : Bool) (disks : List DiskNumbers) (items : List ItemNumbers) (plan : List (List Shift)) (cert : Cert) (found : Found) → AreSound split disks items → IsCertified (input_of split disks items) plan cert → found ≡ found_of cert
    → IsPlanned split disks items (plan_rows plan) (set_in cert.bound) found
planned split disks items plan cert found sound made is =
    let rounds : found.rounds ≡ length plan = ap (λ (f : Found). f.rounds) is ∙ (found_is cert).0 ∙ made.holds.rounds in
    record {
      sound = sound;
      rounds = plan;
      certificate = cert;
      certified = made;
      rows_are = refl;
      set_is = refl;
      found_is = is;
      keeps = subst (AreRows split disks items (plan_rows plan)) (sym rounds) (are_rows split disks items plan made.planned sound);
      needs = subst (Needs (input_of split disks items)) (sym (ap (λ (f : Found). f.value) is ∙ (found_is cert).1)) made.needs;
    }

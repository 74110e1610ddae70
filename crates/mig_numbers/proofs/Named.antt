-- Inputs that differ in names alone are judged alike.
use Rattle.mig_numbers.proofs.Common.{All, At, Blame, Bool, Bound, Cert, CertHolds, Class, ClassDiffers, Differ, Disk, DiskId, DiskNumbers, Duplex}
use Rattle.mig_numbers.proofs.Common.{EndsElsewhere, Even, FirstBlame, General, HasNoFault, InputLists, IsArrivedAt, IsFirstShift, IsLeast, IsLegal}
use Rattle.mig_numbers.proofs.Common.{IsMovedTooOften, IsOver, IsOverLimit, IsSo, IsSomeAnd, IsSpotOf, IsTrue, ItemNumbers, KeepsLimit, KeepsLimits}
use Rattle.mig_numbers.proofs.Common.{LacksSlot, Layout, LeavesElsewhere, Limits, List, LoadDiffers, MovedTooOften, Needs, None, NotHere, Nothing}
use Rattle.mig_numbers.proofs.Common.{OfDisk, OfSet, OfSide, Once, Option, OverLimit, QuotientDiffers, Runs, Shift, SlotNotFree, Some, Spot, StandFor}
use Rattle.mig_numbers.proofs.Common.{Transfer, ValueDiffers, WrongEnd, [], after_shifts, ap, arith, bound_value, class_of, cond, counted_load}
use Rattle.mig_numbers.proofs.Common.{counted_value, disk_at, disk_in, div_ceil, fill_by_all, filter, fun_ext, get_or, get_or-map, greatest, inl}
use Rattle.mig_numbers.proofs.Common.{input_of, inr, inside, is_relocated, is_split, length, length-map, length-map-range_with_len, list_all, load}
use Rattle.mig_numbers.proofs.Common.{made_item, map, most_ends, moves, no_disk, no_numbers, no_spot, not, numbers, option_map, quotient}
use Rattle.mig_numbers.proofs.Common.{range_with_len, refl, round_at, rounds_for, shape, shape_by, shift_at, side_limit, side_load, slice_get}
use Rattle.mig_numbers.proofs.Common.{slice_get-map, stated_load, subst, suc, sum_by, sym, transfer_graph, transfer_of, transfers, transfers_in, zero}
use Rattle.mig_numbers.proofs.Common.{ℕ, ⊎_elim, ◌%◌, ◌-◌, ◌/◌, ◌<◌, ◌==◌, ◌||◌, ◌∙◌, ◌∷◌, ◌≡◌, ◌≢◌, ◌≤◌, ◌⊎◌}
use Rattle.mig_numbers.proofs.Lists.{map_map}

-- inputs that differ in names alone
pub record AreAlike (a b : InputLists) : Type 0 where
  pub disks : map shape a.disks ≡ map shape b.disks
  pub items : length a.items ≡ length b.items
  pub spots : a.spots ≡ b.spots
  pub next : a.next ≡ b.next

turn : (a b : InputLists) → AreAlike a b → AreAlike b a
turn a b alike = record { disks = sym alike.disks; items = sym alike.items; spots = sym alike.spots; next = sym alike.next }

shape_at : (ds : List Disk) (v : ℕ) → shape (get_or ds v no_disk) ≡ get_or (map shape ds) v (shape no_disk)
shape_at [] v = refl
shape_at (d ∷ ds) zero = refl
shape_at (d ∷ ds) (suc v) = shape_at ds v

to_shapes : (o : Option Disk) (n : ℕ) → IsSomeAnd o (λ (d : Disk). n < d.slots) → IsSomeAnd (option_map shape o) (λ (p : Limits × ℕ). n < p.1)
to_shapes (Some d) n h = h
to_shapes None n h = h

from_shapes : (o : Option Disk) (n : ℕ) → IsSomeAnd (option_map shape o) (λ (p : Limits × ℕ). n < p.1) → IsSomeAnd o (λ (d : Disk). n < d.slots)
from_shapes (Some d) n h = h
from_shapes None n h = h

least_by : (P Q : ℕ → Type 0) (n : ℕ) → ((k : ℕ) → P k → Q k) → ((k : ℕ) → Q k → P k) → IsLeast P n → IsLeast Q n
least_by P Q n to back h = record { holds = to n h.holds; least = λ k lt q. h.least k lt (back k q) }

-- What is counted, of limits, the number of disks, transfers and next disks

abbrev transfer_by : List Spot → List DiskId → ℕ → Transfer
transfer_by spots next item = record { leaves = (get_or spots item no_spot).disk.0; reaches = (get_or next item (record { 0 = 0 })).0 }

abbrev class_from : (ℕ → Limits) → ℕ → List Transfer → Class
class_from l n ts = cond (is_split (l 0)) Duplex (cond (list_all (λ v. not (not (load v ts == 0)) || (most_ends (l v) % 2 == 0)) (range_with_len 0 n)) Even General)

abbrev set_from : List ℕ → (ℕ → Limits) → List Transfer → ℕ
set_from set l ts = cond (sum_by (λ v. most_ends (l v)) set / 2 == 0) 0 (div_ceil (inside set ts) (sum_by (λ v. most_ends (l v)) set / 2))

abbrev limits_in : InputLists → ℕ → Limits
limits_in input v = (disk_at input.disks v).limits

module _ (a b : InputLists) (alike : AreAlike a b) where
  disk_count : length a.disks ≡ length b.disks
  disk_count = sym (length-map a.disks shape) ∙ ap (λ (ps : List (Limits × ℕ)). length ps) alike.disks ∙ length-map b.disks shape

  limits_at : (v : ℕ) → (disk_at a.disks v).limits ≡ (disk_at b.disks v).limits
  limits_at v = ap (λ (p : Limits × ℕ). p.0) (shape_at a.disks v ∙ ap (λ (ps : List (Limits × ℕ)). get_or ps v (shape no_disk)) alike.disks ∙ sym (shape_at b.disks v))

  all_limits : limits_in a ≡ limits_in b
  all_limits = fun_ext limits_at

  spot_there : (s : Spot) → IsSpotOf a.disks s → IsSpotOf b.disks s
  spot_there s h =
      let same : option_map shape (slice_get a.disks s.disk.0) ≡ option_map shape (slice_get b.disks s.disk.0) =
      sym (slice_get-map shape a.disks s.disk.0) ∙ ap (λ (ps : List (Limits × ℕ)). slice_get ps s.disk.0) alike.disks ∙ slice_get-map shape b.disks s.disk.0 in
      from_shapes (slice_get b.disks s.disk.0) s.slot (subst (λ (o : Option (Limits × ℕ)). IsSomeAnd o (λ p. s.slot < p.1)) same (to_shapes (slice_get a.disks s.disk.0) s.slot h))

  at_same : (plan : List (List Shift)) (k : ℕ) → At a plan k ≡ At b plan k
  at_same plan zero = ap (λ (ss : List Spot). λ (item : ℕ). slice_get ss item) alike.spots
  at_same plan (suc k) = ap (λ (l : Layout). λ (item : ℕ). after_shifts l (round_at plan (suc k)) item) (at_same plan k)

  kept : (ts : List Transfer) → KeepsLimits a.disks ts → KeepsLimits b.disks ts
  kept ts h v lt = subst (λ (l : Limits). KeepsLimit l v ts) (limits_at v) (h v (omega (arith, lt, disk_count)))

  legal : (l : Layout) (shifts : List Shift) → IsLegal a l shifts → IsLegal b l shifts
  legal l shifts h = record { some = h.some; leaves = h.leaves; once = h.once; free = λ i d lt. let f = h.free i d lt in (spot_there (get_or shifts i d).to f.0, f.1); apart = h.apart; limits = kept (map transfer_of shifts) h.limits }

  arrived : (plan : List (List Shift)) (item : ℕ) → IsArrivedAt a (At a plan (length plan)) item → IsArrivedAt b (At b plan (length plan)) item
  arrived plan item h = subst (λ (l : Layout). IsArrivedAt b l item) (at_same plan (length plan)) (h ∙ ap (λ (ns : List DiskId). slice_get ns item) alike.next)

  runs : (plan : List (List Shift)) → Runs a plan → Runs b plan
  runs plan h = record {
    rounds = λ k lt. subst (λ (l : Layout). IsLegal b l (round_at plan (suc k))) (at_same plan k) (legal (At a plan k) (round_at plan (suc k)) (h.rounds k lt));
    arrives = λ item lt. arrived plan item (h.arrives item (omega (arith, lt, alike.items)));
  }

  relocated : (item : ℕ) → is_relocated a item ≡ is_relocated b item
  relocated item = ap (λ (ss : List Spot). not ((get_or ss item no_spot).disk.0 == (get_or a.next item (record { 0 = 0 })).0)) alike.spots
      ∙ ap (λ (ns : List DiskId). not ((get_or b.spots item no_spot).disk.0 == (get_or ns item (record { 0 = 0 })).0)) alike.next

  once : (plan : List (List Shift)) → Once a plan → Once b plan
  once plan h item lt = h item (omega (arith, lt, alike.items)) ∙ ap (λ t. cond t 1 0) (relocated item)

  moves_same : moves a ≡ moves b
  moves_same = ap (λ (f : ℕ → Bool). filter f (range_with_len 0 (length a.items))) (fun_ext relocated) ∙ ap (λ n. filter (is_relocated b) (range_with_len 0 n)) alike.items

  transfer_same : transfer_by a.spots a.next ≡ transfer_by b.spots b.next
  transfer_same = ap (λ (ss : List Spot). transfer_by ss a.next) alike.spots ∙ ap (λ (ns : List DiskId). transfer_by b.spots ns) alike.next

  transfers_same : transfers a ≡ transfers b
  transfers_same = ap (λ (f : ℕ → Transfer). map f (moves a)) transfer_same ∙ ap (map (transfer_by b.spots b.next)) moves_same

  transfers_in_same : (round_of : ℕ → ℕ) (r : ℕ) → transfers_in a round_of r ≡ transfers_in b round_of r
  transfers_in_same round_of r = ap (λ (f : ℕ → Transfer). map f (filter (λ item. round_of item == r) (moves a))) transfer_same ∙ ap (λ (ms : List ℕ). map (transfer_by b.spots b.next) (filter (λ item. round_of item == r) ms)) moves_same

  quotient_same : quotient (transfer_graph a) ≡ quotient (transfer_graph b)
  quotient_same = ap (λ (l : ℕ → Limits). greatest (map (λ v. rounds_for (l v) v (transfers a)) (range_with_len 0 (length a.disks)))) all_limits
      ∙ ap (λ n. greatest (map (λ v. rounds_for (limits_in b v) v (transfers a)) (range_with_len 0 n))) disk_count
      ∙ ap (λ (ts : List Transfer). greatest (map (λ v. rounds_for (limits_in b v) v ts) (range_with_len 0 (length b.disks)))) transfers_same

  class_same : class_of (transfer_graph a) ≡ class_of (transfer_graph b)
  class_same = ap (λ (l : ℕ → Limits). class_from l (length a.disks) (transfers a)) all_limits ∙ ap (λ n. class_from (limits_in b) n (transfers a)) disk_count ∙ ap (λ (ts : List Transfer). class_from (limits_in b) (length b.disks) ts) transfers_same

  load_same : (bound : Bound) → counted_load (transfer_graph a) bound ≡ counted_load (transfer_graph b) bound
  load_same Nothing = refl
  load_same (OfDisk disk l x) = ap (load disk.0) transfers_same
  load_same (OfSide disk side l x) = ap (side_load side disk.0) transfers_same
  load_same (OfSet set i x) = ap (inside (numbers set)) transfers_same

  value_same : (bound : Bound) → counted_value (transfer_graph a) bound ≡ counted_value (transfer_graph b) bound
  value_same Nothing = refl
  value_same (OfDisk disk l x) = ap (λ (m : Limits). rounds_for m disk.0 (transfers a)) (limits_at disk.0) ∙ ap (rounds_for (limits_in b disk.0) disk.0) transfers_same
  value_same (OfSide disk side l x) = ap (λ (m : Limits). div_ceil (side_load side disk.0 (transfers a)) (side_limit side m)) (limits_at disk.0) ∙ ap (λ (ts : List Transfer). div_ceil (side_load side disk.0 ts) (side_limit side (limits_in b disk.0))) transfers_same
  value_same (OfSet set i x) = ap (λ (l : ℕ → Limits). set_from (numbers set) l (transfers a)) all_limits ∙ ap (set_from (numbers set) (limits_in b)) transfers_same

  holds : (plan : List (List Shift)) (cert : Cert) → CertHolds a plan cert → CertHolds b plan cert
  holds plan cert h = record { rounds = h.rounds; quotient_is = h.quotient_is ∙ quotient_same; class = h.class ∙ class_same; bound = record { loads = h.bound.loads ∙ load_same cert.bound; values = h.bound.values ∙ value_same cert.bound } }

-- and back
module _ (a b : InputLists) (alike : AreAlike a b) where
  back : AreAlike b a
  back = turn a b alike

  needs : (n : ℕ) → Needs a n → Needs b n
  needs n h rounds round_of all obeys = h rounds round_of (subst (All (λ item. (1 ≤ round_of item) × (round_of item ≤ rounds))) (moves_same b a back) all)
      (λ r lo hi. subst (KeepsLimits a.disks) (transfers_in_same b a back round_of r) (kept b a back (transfers_in b round_of r) (obeys r lo hi)))

  lacks : (l : Layout) (round : List Shift) (k : ℕ) → LacksSlot a l round k → LacksSlot b l round k
  lacks l round k h = ⊎_elim (λ none. inl (λ there. none (spot_there b a back (shift_at round k).to there))) (λ more. inr more) h

  over : (round : List Shift) (v count : ℕ) → IsOver a round v count → IsOver b round v count
  over round v count h = subst (λ (l : Limits). IsOverLimit l v (map transfer_of round) count) (limits_at a b alike v) h

  elsewhere : (plan : List (List Shift)) (item : ℕ) → EndsElsewhere a plan item → EndsElsewhere b plan item
  elsewhere plan item h = (omega (arith, h.0, alike.items), λ there. h.1 (arrived b a back plan item there))

  too_often : (plan : List (List Shift)) (item : ℕ) → IsMovedTooOften a plan item → IsMovedTooOften b plan item
  too_often plan item h = (omega (arith, h.0, alike.items), ⊎_elim (λ more. inl more) (λ some. inr (some.0, subst (λ t. ¬ IsTrue t) (relocated a b alike item) some.1)) h.1)

-- what is so of one is so of the other
module _ (a b : InputLists) (alike : AreAlike a b) where
  other : AreAlike b a
  other = turn a b alike

  so : (plan : List (List Shift)) (cert : Cert) (blame : Blame) → IsSo a plan cert blame → IsSo b plan cert blame
  so plan cert (NotHere r item) h = (h.0, subst (λ (l : Layout). IsFirstShift (round_at plan r) (LeavesElsewhere l (round_at plan r)) item.0) (at_same a b alike plan (r - 1)) h.1)
  so plan cert (SlotNotFree r item) h =
      let round = round_at plan r in
      let f = subst (λ (l : Layout). IsFirstShift round (LacksSlot a l round) item.0) (at_same a b alike plan (r - 1)) h.1 in
      let l = At b plan (r - 1) in
      (h.0, (f.0, f.1, least_by (LacksSlot a l round) (LacksSlot b l round) f.0 (lacks a b alike l round) (lacks b a other l round) f.2, f.3))
  so plan cert (OverLimit r disk count) h =
      (h.0, omega (arith, h.1, disk_count a b alike), over a b alike (round_at plan r) disk.0 count h.2, λ v c lt o. h.3 v c lt (over b a other (round_at plan r) v c o))
  so plan cert (WrongEnd item) h = least_by (EndsElsewhere a plan) (EndsElsewhere b plan) item.0 (elsewhere a b alike plan) (elsewhere b a other plan) h
  so plan cert (MovedTooOften item count) h = (least_by (IsMovedTooOften a plan) (IsMovedTooOften b plan) item.0 (too_often a b alike plan) (too_often b a other plan) h.0, h.1)
  so plan cert (QuotientDiffers told counted) h = subst (λ n. Differ cert.quotient n told counted) (quotient_same a b alike) h
  so plan cert ClassDiffers h = subst (λ (c : Class). cert.class ≢ c) (class_same a b alike) h
  so plan cert (LoadDiffers told counted) h = subst (λ n. Differ (stated_load cert.bound) n told counted) (load_same a b alike cert.bound) h
  so plan cert (ValueDiffers told counted) h = subst (λ n. Differ (bound_value cert.bound) n told counted) (value_same a b alike cert.bound) h
  so plan cert _ h = h

-- and which fault is the first
pub first_blame : (a b : InputLists) → AreAlike a b → (plan : List (List Shift)) (cert : Cert) (blame : Blame) → FirstBlame a plan cert blame → FirstBlame b plan cert blame
first_blame a b alike plan cert blame h = record { so = so a b alike plan cert blame h.so; first = λ c d. h.first c (so b a (other a b alike) plan cert c d) }

pub no_fault : (a b : InputLists) → AreAlike a b → (plan : List (List Shift)) (cert : Cert) → HasNoFault a plan cert → HasNoFault b plan cert
no_fault a b alike plan cert h = record { runs = runs a b alike plan h.runs; once = once a b alike plan h.once; holds = holds a b alike plan cert h.holds; needs = needs a b alike (bound_value cert.bound) h.needs }

-- any input that numbers stand for is like the one whose names are made
pub alike_by : (split : Bool) (disks : List DiskNumbers) (items : List ItemNumbers) (input : InputLists) → StandFor split disks items input → AreAlike (input_of split disks items) input
alike_by split disks items input s =
    let by : ℕ → Limits × ℕ = λ k. shape_by split (get_or disks k no_numbers) in
    let none : Limits × ℕ = shape no_disk in
    let shapes : map shape (map (disk_in split disks) (range_with_len 0 (length disks))) ≡ map (shape_by split) disks =
    map_map shape (disk_in split disks) (range_with_len 0 (length disks))
    ∙ sym (fill_by_all by (map (shape_by split) disks) (length disks) none (length-map disks (shape_by split)) (λ k lt. get_or-map (shape_by split) disks k no_numbers none lt)) in
    record { disks = shapes ∙ sym s.disks_are; items = length-map-range_with_len made_item 0 (length items) ∙ sym s.items_are; spots = sym s.spots_are; next = sym s.next_are }

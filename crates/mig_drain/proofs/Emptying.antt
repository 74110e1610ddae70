-- Next disks that empty a disk need as many rounds as are enough for its items.
use Rattle.mig_drain.proofs.Common.{All, All-filter, AreEnough, AreFewest, Bool, Contains, DiskId, Empties, Incoming, InputLists, IsInput, List, NeedsToEmpty, Outgoing, Spot, [], ap, arith, can_take}
use Rattle.mig_drain.proofs.Common.{cond, count_by, count_by-filter, count_same, differ, disk_at, div_ceil-le}
use Rattle.mig_drain.proofs.Common.{eq-eqb, eqb, false, filter, filter_passes, get_or, get_or-le-sum_by}
use Rattle.mig_drain.proofs.Common.{get_or-range_with_len, in_range, is_other, is_relocated, length, length-range_with_len, limits_at, moves, moves_there, nat_tests, ne_eqb, no_spot, not, one}
use Rattle.mig_drain.proofs.Common.{others, outgoing_limit, present, quotient, range_with_len, refl, side_positive, source, subst, suc, sum_by, sum_by-le_each, sum_by-swap, sym, target}
use Rattle.mig_drain.proofs.Common.{transfer_graph, true, with_next, zero, ℕ, ◌&&◌, ◌<◌, ◌∙◌, ◌∷◌, ◌≡◌, ◌≢◌, ◌≤◌}
use Rattle.mig_drain.proofs.SideCounts.{leaving_counted, needs_quotient, reaching_counted, side_within_quotient}

-- the input with other next disks is an input
pub is_input : (input : InputLists) (next : List DiskId) → IsInput input → length next ≡ length input.items → All (λ d. d.0 < length input.disks) next → IsInput (with_next input next)
is_input input next is len there = record {
  few_disks = is.few_disks;
  named_disks = is.named_disks;
  disk_names = is.disk_names;
  disk_ranges = is.disk_ranges;
  one_kind = is.one_kind;
  few_items = is.few_items;
  named_items = is.named_items;
  item_names = is.item_names;
  spots_len = is.spots_len;
  next_len = len;
  on_disks = is.on_disks;
  next_disks = there;
  spots_apart = is.spots_apart;
}

rest : {X : Type 0} (b : Bool) (x y : X) (xs : List X) → Contains xs y → Contains (cond b (x ∷ xs) xs) y
rest true x y xs (k, l, is) = (suc k, omega (arith, l), is)
rest false x y xs has = has

-- an element that passes is in the filtered list
kept : {X : Type 0} (p : X → Bool) (xs : List X) (x : X) → Contains xs x → p x ≡ true → Contains (filter p xs) x
kept p [] x (k, l, is) t = absurd (omega (arith, l))
kept p (y ∷ ys) x (zero, l, is) t = subst (λ c. Contains (cond c (y ∷ filter p ys) (filter p ys)) x) (sym (ap p is ∙ t)) (0, omega arith, is)
kept p (y ∷ ys) x (suc k, l, is) t = rest (p y) y x (filter p ys) (kept p ys x (k, omega (arith, l), is) t)

-- the other disks are disks, and other ones, and all of them
other_there : (input : InputLists) (v u : ℕ) → u < length input.disks → u ≢ v → Contains (others input v) u
other_there input v u l ne =
    let n = length input.disks in
    kept (is_other v) (range_with_len 0 n) u (u, omega (arith, l, length-range_with_len 0 n), in_range n u u l) (ap not (ne_eqb u v ne))

pub other_below : (input : InputLists) (v : ℕ) → All (λ u. u < length input.disks) (others input v)
other_below input v =
    let n = length input.disks in
    All-filter (is_other v) (λ u. u < n) (range_with_len 0 n) (λ j e m. let h : j < n = omega (arith, m, length-range_with_len 0 n) in omega (arith, h, get_or-range_with_len 0 n j e h))

pub other_not : (input : InputLists) (v : ℕ) → All (λ u. u ≢ v) (others input v)
other_not input v k d l = differ (get_or (others input v) k d) v (filter_passes (is_other v) (range_with_len 0 (length input.disks)) k d l)

-- how many items are on a disk, counted by number
pub present_counted : (input : InputLists) (v : ℕ) → IsInput input → present input v ≡ count_by (λ item. eqb (source input item) v) (range_with_len 0 (length input.items))
present_counted input v is =
    let n = length input.items in
    let items = range_with_len 0 n in
    count_same (λ (s : Spot). eqb s.disk.0 v) (λ item. eqb (source input item) v) no_spot 0 input.spots items (omega (arith, is.spots_len, length-range_with_len 0 n))
    (λ k l. ap (λ i. eqb (source input i) v) (sym (in_range n k 0 (omega (arith, l, is.spots_len)))))

both_less : (a b : Bool) → one (a && b) ≤ one b
both_less a b = grind (arith, nat_tests)

module _ (input : InputLists) (is : IsInput input) (v : ℕ) (there : v < length input.disks) (next : List DiskId) (e : Empties input v next) where
  -- each item of the disk is moved away
  leaves : (item : ℕ) → item < length input.items → target (with_next input next) item ≢ v
  leaves item l = e.leaves item (record { 0 = 0 }) (omega (arith, l, e.len))

  relocated : (item : ℕ) → item < length input.items → source input item ≡ v → is_relocated (with_next input next) item ≡ true
  relocated item l at = ap not (ne_eqb (source input item) (target (with_next input next) item) (λ same. leaves item l (sym same ∙ at)))

  moving : (item : ℕ) → item < length input.items → (b : Bool) → eqb (source input item) v ≡ b → one (eqb (source input item) v) ≤ one (is_relocated (with_next input next) item && eqb (source input item) v)
  moving item l true t = rw (t, relocated item l (grind (arith, nat_tests))) (omega arith)
  moving item l false f = rw f (omega arith)

  own_moves : present input v ≤ count_by (λ item. eqb (source input item) v) (moves (with_next input next))
  own_moves =
      let n = length input.items in
      let items = range_with_len 0 n in
      omega (
        arith,
        present_counted input v is,
        count_by-filter (λ item. eqb (source input item) v) (is_relocated (with_next input next)) items,
        sum_by-le_each (λ item. one (eqb (source input item) v)) (λ item. one (is_relocated (with_next input next) item && eqb (source input item) v)) items (λ k d l.
            let m : k < n = omega (arith, l, length-range_with_len 0 n) in
            let at : get_or items k d < n = omega (arith, m, get_or-range_with_len 0 n k d m) in
            moving (get_or items k d) at (eqb (source input (get_or items k d)) v) refl),
      )

  -- and goes to one of the other disks
  reached : (item : ℕ) → item < length input.items → (b : Bool) → one b ≤ sum_by (λ u. one (b && eqb (target (with_next input next) item) u)) (others input v)
  reached item l false = omega arith
  reached item l true =
      let t = target (with_next input next) item in
      let c = other_there input v t (e.there item (record { 0 = 0 }) (omega (arith, l, e.len))) (leaves item l) in
      omega (arith, get_or-le-sum_by (λ u. one (true && eqb t u)) (others input v) c.0 t c.1, ap (λ u. one (true && eqb t u)) c.2, ap one (eq-eqb t t refl))

  split : present input v ≤ sum_by (λ u. count_by (λ item. eqb (source input item) v && eqb (target (with_next input next) item) u) (moves (with_next input next))) (others input v)
  split =
      let ms = moves (with_next input next) in
      let each = sum_by-le_each (λ item. one (eqb (source input item) v)) (λ item. sum_by (λ u. one (eqb (source input item) v && eqb (target (with_next input next) item) u)) (others input v)) ms
      (λ k d l. reached (get_or ms k d) (moves_there (with_next input next) k d l) (eqb (source input (get_or ms k d)) v)) in
      omega (arith, own_moves, each, sum_by-swap (λ item u. one (eqb (source input item) v && eqb (target (with_next input next) item) u)) ms (others input v))

  -- which takes as many as come to it, at most
  taken : (u : ℕ) → u < length input.disks → count_by (λ item. eqb (source input item) v && eqb (target (with_next input next) item) u) (moves (with_next input next)) ≤ can_take input (quotient (transfer_graph (with_next input next))) u
  taken u l =
      let ms = moves (with_next input next) in
      let come = sum_by-le_each (λ item. one (eqb (source input item) v && eqb (target (with_next input next) item) u)) (λ item. one (eqb (target (with_next input next) item) u)) ms (λ k d h. both_less (eqb (source input (get_or ms k d)) v) (eqb (target (with_next input next) (get_or ms k d)) u)) in
      omega (arith, come, e.roomy u l, reaching_counted (with_next input next) u, side_within_quotient (transfer_graph (with_next input next)) Incoming u l (limits_at input is u l))

  pub enough : AreEnough input v (quotient (transfer_graph (with_next input next)))
  enough =
      let ms = moves (with_next input next) in
      let q = quotient (transfer_graph (with_next input next)) in
      record {
        leave = div_ceil-le (present input v) (outgoing_limit input v) q (side_positive Outgoing (disk_at input.disks v).limits (limits_at input is v there))
            (omega (arith, own_moves, leaving_counted (with_next input next) v, side_within_quotient (transfer_graph (with_next input next)) Outgoing v there (limits_at input is v there)));
        come = omega (
          arith,
          split,
          sum_by-le_each (λ u. count_by (λ item. eqb (source input item) v && eqb (target (with_next input next) item) u) ms) (can_take input q) (others input v)
              (λ k d l. taken (get_or (others input v) k d) (other_below input v k d l)),
        );
      }

-- so the fewest rounds that are enough are needed
pub needs_to_empty : (input : InputLists) (v rounds : ℕ) → IsInput input → v < length input.disks → AreFewest input v rounds → NeedsToEmpty input v rounds
needs_to_empty input v r is there fewest next e rounds round_of scheduled obeys =
    omega (arith, fewest.least (quotient (transfer_graph (with_next input next))) (enough input is v there next e), needs_quotient (with_next input next) (is_input input next is e.len e.there) rounds round_of scheduled obeys)

-- From dealt ends to the copies of edges.
use Rattle.mig_split.proofs.Common.{All, All-head, All-tail, AreCopies, AreCopyPairs, AreEndDisks, AreFewCopies, AreHeads, AreJoined, AreShared, AreShares, AreSides, AreTails, Bool, CopyId, DiskId, IsDealt}
use Rattle.mig_split.proofs.Common.{IsDealtBy, IsDiskInRange, IsEnough, List, Transfers, Transfer, [], ap, arith, cases_lt, ceil_within, copy_at, count_at, count_by, count_same, listed_disk, occurrences}
use Rattle.mig_split.proofs.Common.{div_ceil, drop, drop_at, ends_at, eqb, false, first_copy, get_or, get_or-append-add, get_or-drop, get_or-take, get_or_append_left, get_or_default, head_of}
use Rattle.mig_split.proofs.Common.{heads, in_of, inl, inr, is_end, is_forward, length, length-append, length-drop, length-take-le, limit, load, load_within_quotient, min, mul-le-mul_left}
use Rattle.mig_split.proofs.Common.{mul-le-mul_right, nat_tests, no_disk, none_pass, one, one_of_two, out_of, quotient, refl, second_of, subst, suc, sum, sum_by-append, sum_by-cons}
use Rattle.mig_split.proofs.Common.{sum_by-take-drop, sym, tail_of, tails, take, take_at, touches, transfer_at, true, zero, ℕ, ◌*◌, ◌++◌, ◌+◌, ◌-◌, ◌<◌, ◌||◌, ◌∙◌, ◌∷◌, ◌≡◌, ◌≢◌, ◌≤◌}
use Rattle.mig_split.proofs.Numbers.{numbers_room, numbers_few, ceil_most, ceil_enough}

get_or-tails : (ts : List Transfer) (ds : List Bool) (k n : ℕ) → length ds ≡ length ts → k < length ts → get_or (tails ts ds) k n ≡ tail_of (transfer_at ts k) (is_forward ds k)
get_or-tails [] ds k n len h = absurd (omega arith)
get_or-tails (t ∷ ts) [] k n len h = absurd (omega arith)
get_or-tails (t ∷ ts) (d ∷ ds) zero n len h = refl
get_or-tails (t ∷ ts) (d ∷ ds) (suc k) n len h = get_or-tails ts ds k n (omega arith) (omega arith)

get_or-heads : (ts : List Transfer) (ds : List Bool) (k n : ℕ) → length ds ≡ length ts → k < length ts → get_or (heads ts ds) k n ≡ head_of (transfer_at ts k) (is_forward ds k)
get_or-heads [] ds k n len h = absurd (omega arith)
get_or-heads (t ∷ ts) [] k n len h = absurd (omega arith)
get_or-heads (t ∷ ts) (d ∷ ds) zero n len h = refl
get_or-heads (t ∷ ts) (d ∷ ds) (suc k) n len h = get_or-heads ts ds k n (omega arith) (omega arith)

length-tails : (ts : List Transfer) (ds : List Bool) → length ds ≡ length ts → length (tails ts ds) ≡ length ts
length-tails [] ds len = refl
length-tails (t ∷ ts) [] len = absurd (omega arith)
length-tails (t ∷ ts) (d ∷ ds) len = ap suc (length-tails ts ds (omega arith))

length-heads : (ts : List Transfer) (ds : List Bool) → length ds ≡ length ts → length (heads ts ds) ≡ length ts
length-heads [] ds len = refl
length-heads (t ∷ ts) [] len = absurd (omega arith)
length-heads (t ∷ ts) (d ∷ ds) len = ap suc (length-heads ts ds (omega arith))

out_is : (ts : List Transfer) (ds : List Bool) (disks : List DiskId) (v : ℕ) → length ds ≡ length ts → AreTails ts ds disks → occurrences v disks ≡ out_of ts ds v
out_is ts ds disks v len a = count_same (λ (d : DiskId). eqb d.0 v) (λ n. eqb n v) (record { 0 = 0 }) 0 disks (tails ts ds) (a.len ∙ sym (length-tails ts ds len)) (λ k h. ap (λ n. eqb n v) (a.known k (omega (arith, h, a.len)) ∙ sym (get_or-tails ts ds k 0 len (omega (arith, h, a.len)))))

in_is : (ts : List Transfer) (ds : List Bool) (disks : List DiskId) (v : ℕ) → length ds ≡ length ts → AreHeads ts ds disks → occurrences v disks ≡ in_of ts ds v
in_is ts ds disks v len a = count_same (λ (d : DiskId). eqb d.0 v) (λ n. eqb n v) (record { 0 = 0 }) 0 disks (heads ts ds) (a.len ∙ sym (length-heads ts ds len)) (λ k h. ap (λ n. eqb n v) (a.known k (omega (arith, h, a.len)) ∙ sym (get_or-heads ts ds k 0 len (omega (arith, h, a.len)))))

-- a copy's ends are first or second ends of edges
pub ends_most : (k : CopyId) (ends : List (CopyId × CopyId)) → ends_at k ends ≤ count_by (λ p. eqb p.0.0 k.0) ends + count_by (λ p. eqb p.1.0 k.0) ends
ends_most k [] = omega arith
ends_most k (p ∷ ps) =
    omega (arith, sum_by-cons (λ q. one (is_end k q)) p ps, sum_by-cons (λ (q : CopyId × CopyId). one (eqb q.0.0 k.0)) p ps, sum_by-cons (λ (q : CopyId × CopyId). one (eqb q.1.0 k.0)) p ps, one_of_two (eqb p.0.0 k.0) (eqb p.1.0 k.0), ends_most k ps)

pub firsts_are : (k : CopyId) (firsts seconds : List CopyId) (from : ℕ) (ends : List (CopyId × CopyId)) → AreCopyPairs firsts seconds from ends → count_by (λ p. eqb p.0.0 k.0) ends ≡ count_at k.0 firsts
firsts_are k firsts seconds from ends a = count_same (λ (p : CopyId × CopyId). eqb p.0.0 k.0) (λ (c : CopyId). eqb c.0 k.0) (record { 0 = 0 }, record { 0 = 0 }) (record { 0 = 0 }) ends firsts a.len (λ i h. ap (λ n. eqb n k.0) (a.first i (omega (arith, h, a.len))))

less_not : (a b : ℕ) → a < b → eqb a b ≡ false
less_not a b h = grind (arith, nat_tests)

more_not : (a b : ℕ) → b < a → eqb a b ≡ false
more_not a b h = grind (arith, nat_tests)

moved_test : (from c k : ℕ) → from ≤ k → eqb (from + c) k ≡ eqb c (k - from)
moved_test from c k h = grind (arith, nat_tests)

pub seconds_are : (k : CopyId) (firsts seconds : List CopyId) (from : ℕ) (ends : List (CopyId × CopyId)) → length firsts ≡ length seconds → from ≤ k.0 → AreCopyPairs firsts seconds from ends → count_by (λ p. eqb p.1.0 k.0) ends ≡ count_at (k.0 - from) seconds
seconds_are k firsts seconds from ends same h a = count_same (λ (p : CopyId × CopyId). eqb p.1.0 k.0) (λ (c : CopyId). eqb c.0 (k.0 - from)) (record { 0 = 0 }, record { 0 = 0 }) (record { 0 = 0 }) ends seconds (a.len ∙ same) (λ i l. ap (λ n. eqb n k.0) (a.second i (omega (arith, l, a.len))) ∙ moved_test from (copy_at seconds i) k.0 h)

pub seconds_none : (k : CopyId) (firsts seconds : List CopyId) (from : ℕ) (ends : List (CopyId × CopyId)) → k.0 < from → AreCopyPairs firsts seconds from ends → count_by (λ p. eqb p.1.0 k.0) ends ≡ 0
seconds_none k firsts seconds from ends h a = none_pass (λ (p : CopyId × CopyId). eqb p.1.0 k.0) ends (λ i d l. subst (λ (p : CopyId × CopyId). eqb p.1.0 k.0 ≡ false) (get_or_default ends i (record { 0 = 0 }, record { 0 = 0 }) d l) (more_not (second_of ends i) k.0 (omega (arith, h, a.second i (omega (arith, l, a.len))))))

pub firsts_none : (k : CopyId) (firsts seconds : List CopyId) (from : ℕ) (ends : List (CopyId × CopyId)) → ((i : ℕ) → i < length firsts → copy_at firsts i < k.0) → AreCopyPairs firsts seconds from ends → count_by (λ p. eqb p.0.0 k.0) ends ≡ 0
firsts_none k firsts seconds from ends h a = none_pass (λ (p : CopyId × CopyId). eqb p.0.0 k.0) ends (λ i d l. subst (λ (p : CopyId × CopyId). eqb p.0.0 k.0 ≡ false) (get_or_default ends i (record { 0 = 0 }, record { 0 = 0 }) d l) (less_not (first_copy ends i) k.0 (omega (arith, h i (omega (arith, l, a.len)), a.first i (omega (arith, l, a.len))))))

copy_there : (q disks : ℕ) (stops homes : List DiskId) (copies : List CopyId) → IsDealt q disks stops homes copies → (i : ℕ) → i < length stops → copy_at copies i < length homes
copy_there q disks stops homes copies d i h = d.there i (record { 0 = 0 }) (omega (arith, h, d.one_each))

disk_left : (xs ys : List DiskId) (k : ℕ) → k < length xs → listed_disk (xs ++ ys) k ≡ listed_disk xs k
disk_left xs ys k h = ap (λ (d : DiskId). d.0) (get_or_append_left xs ys (record { 0 = 0 }) k h)

disk_right : (xs ys : List DiskId) (k : ℕ) → listed_disk (xs ++ ys) (length xs + k) ≡ listed_disk ys k
disk_right xs ys k = ap (λ (d : DiskId). d.0) (get_or-append-add xs ys k (record { 0 = 0 }))

pub AreSides-all : (q : ℕ) (graph : Transfers) (ds : List Bool) (ts hs oh ih : List DiskId) (oc ic : List CopyId) (ends : List (CopyId × CopyId)) → length ds ≡ length graph.transfers → AreTails graph.transfers ds ts → AreHeads graph.transfers ds hs → IsDealt q (length graph.disks) ts oh oc → IsDealt q (length graph.disks) hs ih ic → AreCopyPairs oc ic (length oh) ends → AreSides q graph ds (length oh) ends (oh ++ ih)
AreSides-all q graph ds ts hs oh ih oc ic ends len at ah o i p =
    let long = length-append oh ih in
    let m : (e : ℕ) → e < length ends → (e < length ts) × (e < length hs) × (e < length oc) × (e < length graph.transfers) = λ e h. (omega (arith, h, p.len, o.one_each), omega (arith, h, p.len, o.one_each, at.len, ah.len), omega (arith, h, p.len), omega (arith, h, p.len, o.one_each, at.len)) in
    record {
      one_each = p.len ∙ o.one_each ∙ at.len;
      there = λ e h. (omega (arith, p.first e (m e h).2, copy_there q (length graph.disks) ts oh oc o e (m e h).0), omega (arith, p.second e (m e h).2), omega (arith, long, p.second e (m e h).2, copy_there q (length graph.disks) hs ih ic i e (m e h).1));
      first = λ e h. ap (listed_disk (oh ++ ih)) (p.first e (m e h).2) ∙ disk_left oh ih (copy_at oc e) (copy_there q (length graph.disks) ts oh oc o e (m e h).0) ∙ o.home e (m e h).0 ∙ at.known e (m e h).3;
      second = λ e h. ap (listed_disk (oh ++ ih)) (p.second e (m e h).2) ∙ disk_right oh ih (copy_at ic e) ∙ i.home e (m e h).1 ∙ ah.known e (m e h).3;
      left_number = λ v h. ap (occurrences v) (take_at oh ih (length oh) refl) ∙ o.number v h ∙ ap (λ n. div_ceil n q) (out_is graph.transfers ds ts v len at);
      right_number = λ v h. ap (occurrences v) (drop_at oh ih (length oh) refl) ∙ i.number v h ∙ ap (λ n. div_ceil n q) (in_is graph.transfers ds hs v len ah);
      most = λ k h. elim (cases_lt k.0 (length oh)) [
        | inl l ↦ omega (arith, ends_most k ends, firsts_are k oc ic (length oh) ends p, seconds_none k oc ic (length oh) ends l p, o.most k.0 l)
        | inr l ↦ omega (arith, ends_most k ends, seconds_are k oc ic (length oh) ends (omega (arith, o.one_each, i.one_each, at.len, ah.len)) l p, firsts_none k oc ic (length oh) ends (λ j hj. omega (arith, l, copy_there q (length graph.disks) ts oh oc o j (omega (arith, hj, o.one_each)))) p, i.most (k.0 - length oh) (omega (arith, h, l, long)))
      ];
      room = omega (arith, long, ap (λ n. n * q) long, o.room, i.room, at.len, ah.len);
      few = omega (arith, long, o.few, i.few, at.len, ah.len);
    }

-- ---- edges between the copies of any number

one_touch : (v l r : ℕ) → l ≢ r → one (eqb l v) + one (eqb r v) ≡ one (eqb v l || eqb v r)
one_touch v l r ne = grind (arith, nat_tests)

pub one_end : (v : ℕ) (t : Transfer) (forward : Bool) → t.leaves ≢ t.reaches → one (eqb (tail_of t forward) v) + one (eqb (head_of t forward) v) ≡ one (touches v t)
one_end v t true ne = one_touch v t.leaves t.reaches ne
one_end v t false ne = omega (arith, one_touch v t.leaves t.reaches ne)

-- an edge leaves one of its disks and enters the other, whatever its direction
pub out_in : (ts : List Transfer) (ds : List Bool) (v : ℕ) → length ds ≡ length ts → All (λ t. t.leaves ≢ t.reaches) ts → out_of ts ds v + in_of ts ds v ≡ load v ts
out_in [] ds v len h = refl
out_in (t ∷ ts) [] v len h = absurd (omega arith)
out_in (t ∷ ts) (d ∷ ds) v len h =
    omega (
      arith,
      sum_by-cons (λ (n : ℕ). one (eqb n v)) (tail_of t d) (tails ts ds),
      sum_by-cons (λ (n : ℕ). one (eqb n v)) (head_of t d) (heads ts ds),
      sum_by-cons (λ (x : Transfer). one (touches v x)) t ts,
      one_end v t d (All-head (λ (x : Transfer). x.leaves ≢ x.reaches) t ts h),
      out_in ts ds v (omega (arith, len)) (All-tail (λ (x : Transfer). x.leaves ≢ x.reaches) t ts h),
    )

pub stops_load : (ts : List Transfer) (ds : List Bool) (stops : List DiskId) (v : ℕ) → length ds ≡ length ts → All (λ t. t.leaves ≢ t.reaches) ts → AreEndDisks ts ds stops → occurrences v stops ≡ load v ts
stops_load ts ds stops v len apart a =
    omega (arith, ap (occurrences v) a.is, sum_by-append (λ (d : DiskId). one (eqb d.0 v)) a.tails a.heads, out_is ts ds a.tails v len a.tails_are, in_is ts ds a.heads v len a.heads_are, out_in ts ds v len apart)

pub stops_len : (ts : List Transfer) (ds : List Bool) (stops : List DiskId) → AreEndDisks ts ds stops → length stops ≡ length ts + length ts
stops_len ts ds stops a = omega (arith, ap (λ (xs : List DiskId). length xs) a.is, length-append a.tails a.heads, a.tails_are.len, a.heads_are.len)

-- the first stops, and the others
stop_left : (ts : List Transfer) (ds : List Bool) (stops : List DiskId) (e : ℕ) → AreEndDisks ts ds stops → e < length ts → listed_disk stops e ≡ tail_of (transfer_at ts e) (is_forward ds e)
stop_left ts ds stops e a h = ap (λ (xs : List DiskId). listed_disk xs e) a.is ∙ disk_left a.tails a.heads e (omega (arith, h, a.tails_are.len)) ∙ a.tails_are.known e h

stop_right : (ts : List Transfer) (ds : List Bool) (stops : List DiskId) (e m : ℕ) → AreEndDisks ts ds stops → m ≡ length ts → e < length ts → listed_disk stops (m + e) ≡ head_of (transfer_at ts e) (is_forward ds e)
stop_right ts ds stops e m a is_m h =
    ap (λ (xs : List DiskId). listed_disk xs (m + e)) a.is ∙ ap (λ k. listed_disk (a.tails ++ a.heads) (k + e)) (omega (arith, is_m, a.tails_are.len)) ∙ disk_right a.tails a.heads e ∙ a.heads_are.known e h

end_there : (t : Transfer) (forward : Bool) (n : ℕ) → t.leaves < n → t.reaches < n → (tail_of t forward < n) × (head_of t forward < n)
end_there t true n l r = (l, r)
end_there t false n l r = (r, l)

pub stops_there : (ts : List Transfer) (ds : List Bool) (stops : List DiskId) (n : ℕ) → AreEndDisks ts ds stops → All (λ t. t.leaves < n) ts → All (λ t. t.reaches < n) ts → All (λ d. d.0 < n) stops
stops_there ts ds stops n a leaves reaches k d h =
    subst (λ (x : DiskId). x.0 < n) (get_or_default stops k (record { 0 = 0 }) d h)
    (elim (cases_lt k (length ts)) [
      | inl l ↦ omega (arith, stop_left ts ds stops k a l, (there k l).0)
      | inr l ↦ (let e = k - length ts in
          let low : e < length ts = omega (arith, h, l, stops_len ts ds stops a) in
          omega (arith, ap (listed_disk stops) (split k (length ts) l), stop_right ts ds stops e (length ts) a refl low, (there e low).1))
    ])
  where
    there : (e : ℕ) → e < length ts → (tail_of (transfer_at ts e) (is_forward ds e) < n) × (head_of (transfer_at ts e) (is_forward ds e) < n)
    there e l = end_there (transfer_at ts e) (is_forward ds e) n (leaves e (record { leaves = 0; reaches = 0 }) l) (reaches e (record { leaves = 0; reaches = 0 }) l)

    split : (k m : ℕ) → m ≤ k → k ≡ m + (k - m)
    split k m h = omega arith

from_none : (k : ℕ) (copies : List CopyId) → count_at (k - 0) copies ≡ count_at k copies
from_none k copies = ap (λ n. count_at n copies) (omega arith)

pub AreJoined-all : (q m : ℕ) (numbers : List ℕ) (stops homes : List DiskId) (copies : List CopyId) (ends : List (CopyId × CopyId)) → IsDealtBy q numbers stops homes copies → length stops ≡ m + m → AreCopyPairs (take m copies) (drop m copies) 0 ends → AreJoined q m numbers stops ends homes
AreJoined-all q m numbers stops homes copies ends o long p =
    let half : length (take m copies) ≡ m = length-take-le m copies (omega (arith, o.one_each, long)) in
    let rest : length (drop m copies) ≡ m = length-drop m copies ∙ omega (arith, o.one_each, long) in
    let there : (i : ℕ) → i < length stops → copy_at copies i < length homes = λ i h. o.there i (record { 0 = 0 }) (omega (arith, h, o.one_each)) in
    let fst : (e : ℕ) → e < m → first_copy ends e ≡ copy_at copies e = λ e h. p.first e (omega (arith, h, half)) ∙ ap (λ (c : CopyId). c.0) (get_or-take m copies e (record { 0 = 0 }) h) in
    let snd : (e : ℕ) → e < m → second_of ends e ≡ copy_at copies (m + e) = λ e h. p.second e (omega (arith, h, half)) ∙ omega (arith, ap (λ (c : CopyId). c.0) (get_or-drop m copies e (record { 0 = 0 }))) in
    record {
      one_each = p.len ∙ half;
      there = λ e h. (omega (arith, fst e h, there e (omega (arith, h, long))), omega (arith, snd e h, there (m + e) (omega (arith, h, long))));
      first = λ e h. ap (listed_disk homes) (fst e h) ∙ o.home e (omega (arith, h, long));
      second = λ e h. ap (listed_disk homes) (snd e h) ∙ o.home (m + e) (omega (arith, h, long));
      number = o.number;
      most = λ k h. omega (arith, ends_most k ends, firsts_are k (take m copies) (drop m copies) 0 ends p, seconds_are k (take m copies) (drop m copies) 0 ends (omega (arith, half, rest)) (omega arith) p, sum_by-take-drop (λ (c : CopyId). one (eqb c.0 k.0)) copies m, from_none k.0 (drop m copies), o.most k.0 h);
      total = o.total;
    }

pub AreCopies-all : (q : ℕ) (graph : Transfers) (ds : List Bool) (stops homes : List DiskId) (numbers : List ℕ) (ends : List (CopyId × CopyId)) (m : ℕ) → m ≡ length graph.transfers → length ds ≡ length graph.transfers → All (λ t. t.leaves ≢ t.reaches) graph.transfers → ((k : ℕ) → k < length graph.transfers → is_forward ds k ≡ true) → AreEndDisks graph.transfers ds stops → AreFewCopies q (length graph.disks) stops numbers → AreJoined q m numbers stops ends homes → AreCopies q graph ends homes
AreCopies-all q graph ds stops homes numbers ends m is_m len apart forward a f j =
    let n : (e : ℕ) → e < length ends → e < m = λ e h. omega (arith, h, j.one_each) in
    let n' : (e : ℕ) → e < length ends → e < length graph.transfers = λ e h. omega (arith, n e h, is_m) in
    let long = stops_len graph.transfers ds stops a in
    record {
      one_each = j.one_each ∙ is_m;
      there = λ e h. j.there e (n e h);
      first = λ e h. j.first e (n e h) ∙ stop_left graph.transfers ds stops e a (n' e h) ∙ ap (tail_of (transfer_at graph.transfers e)) (forward e (n' e h));
      second = λ e h. j.second e (n e h) ∙ stop_right graph.transfers ds stops e m a is_m (n' e h) ∙ ap (head_of (transfer_at graph.transfers e)) (forward e (n' e h));
      number = λ v h. j.number v (omega (arith, h, f.len)) ∙ f.each v h ∙ ap (λ k. div_ceil k q) (stops_load graph.transfers ds stops v len apart a);
      most = j.most;
      room = omega (arith, f.room, ap (λ k. k * q) j.total, long);
      few = omega (arith, f.few, j.total, long);
    }

-- ---- as many copies as the limit

-- the limit's copies can have all edges, and so can as many as there are shares
pub shared_enough : (q s l n : ℕ) → 1 ≤ s → s ≤ q → n ≤ q * l → n ≤ min l (div_ceil n s) * q
shared_enough q s l n some most all = elim (cases_lt (div_ceil n s) l) [
  | inl h ↦ omega (arith, ceil_enough n s some, mul-le-mul_left (div_ceil n s) most, ap (λ k. k * q) (low l (div_ceil n s) h))
  | inr h ↦ omega (arith, all, ap (λ k. k * q) (high l (div_ceil n s) h))
]
  where
    low : (a b : ℕ) → b < a → min a b ≡ b
    low a b h = omega arith

    high : (a b : ℕ) → a ≤ b → min a b ≡ a
    high a b h = omega arith

shared_below : (l c s n : ℕ) → c * s ≤ n → min l c * s ≤ n
shared_below l c s n h = omega (arith, h, mul-le-mul_right s (low l c))
  where
    low : (a b : ℕ) → min a b ≤ b
    low a b = omega arith

pub shared_sum : (graph : Transfers) (ds : List Bool) (share : ℕ) (stops : List DiskId) (numbers : List ℕ) → 1 ≤ share → length ds ≡ length graph.transfers → All (λ t. t.leaves ≢ t.reaches) graph.transfers → AreEndDisks graph.transfers ds stops → AreShared graph share numbers → sum numbers ≤ length stops
shared_sum graph ds share stops numbers some len apart a f =
    numbers_few (length graph.disks) stops numbers f.len (λ v h. omega (arith, ceil_within (load v graph.transfers) share some, f.each v h, stops_load graph.transfers ds stops v len apart a))

pub shared_all : (graph : Transfers) (ds : List Bool) (share q : ℕ) (stops : List DiskId) (numbers : List ℕ) → q ≡ quotient graph → 1 ≤ share → share ≤ q → All IsDiskInRange graph.disks → length ds ≡ length graph.transfers → All (λ t. t.leaves ≢ t.reaches) graph.transfers → AreEndDisks graph.transfers ds stops → AreShared graph share numbers → IsEnough q stops numbers
shared_all graph ds share q stops numbers is_q some most valid len apart a f v h =
    let there : v < length graph.disks = omega (arith, h, f.len) in
    let all = load_within_quotient graph v there (valid v no_disk there).0 in
    omega (arith, stops_load graph.transfers ds stops v len apart a, shared_enough q share (limit graph v) (load v graph.transfers) some most (omega (arith, all, ap (λ n. n * limit graph v) is_q)), ap (λ n. n * q) (f.each v there))

pub AreShares-all : (graph : Transfers) (ds : List Bool) (share q m : ℕ) (stops homes : List DiskId) (numbers : List ℕ) (ends : List (CopyId × CopyId)) → q ≡ quotient graph → m ≡ length graph.transfers → 1 ≤ share → length ds ≡ length graph.transfers → All (λ t. t.leaves ≢ t.reaches) graph.transfers → AreEndDisks graph.transfers ds stops → AreShared graph share numbers → AreJoined q m numbers stops ends homes → AreShares graph ds share ends homes
AreShares-all graph ds share q m stops homes numbers ends is_q is_m some len apart a f j =
    let n : (e : ℕ) → e < length ends → e < m = λ e h. omega (arith, h, j.one_each) in
    let n' : (e : ℕ) → e < length ends → e < length graph.transfers = λ e h. omega (arith, n e h, is_m) in
    let long = stops_len graph.transfers ds stops a in
    let count : (v : ℕ) → occurrences v stops ≡ load v graph.transfers = λ v. stops_load graph.transfers ds stops v len apart a in
    let room = numbers_room share (length graph.disks) stops numbers f.len (λ v h. omega (arith, shared_below (limit graph v) (div_ceil (load v graph.transfers) share) share (load v graph.transfers + share) (ceil_most (load v graph.transfers) share some), ap (λ k. k * share) (f.each v h), count v)) in
    let few = shared_sum graph ds share stops numbers some len apart a f in
    record {
      one_each = j.one_each ∙ is_m;
      there = λ e h. j.there e (n e h);
      first = λ e h. j.first e (n e h) ∙ stop_left graph.transfers ds stops e a (n' e h);
      second = λ e h. j.second e (n e h) ∙ stop_right graph.transfers ds stops e m a is_m (n' e h);
      number = λ v h. j.number v (omega (arith, h, f.len)) ∙ f.each v h;
      most = λ k h. omega (arith, j.most k h, is_q);
      room = omega (arith, room, ap (λ k. k * share) j.total, long);
      few = omega (arith, few, j.total, long);
    }

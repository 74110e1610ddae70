-- How many copies each disk gets, and how many all get.
use Rattle.mig_split.proofs.Common.{AreFewCopies, CopyId, DiskId, IsDealt, IsDealtBy, IsEnough, List, [], ap, arith, ceil_within, div_ceil, div_ceil_times, get_or, get_or-map-range_with_len, occurrences}
use Rattle.mig_split.proofs.Common.{length, length-map-range_with_len, map, range_with_len, suc, sum, sum_by-cons, sym, ℕ, ◌*◌, ◌+◌, ◌<◌, ◌∙◌, ◌∷◌, ◌≡◌, ◌≤◌}
use Rattle.mig_split.proofs.Counts.{counts_total}

-- numbers that pass others at each place by so much at most, times a factor
sums_within : (s : ℕ) (xs ys : List ℕ) → length xs ≡ length ys → ((k : ℕ) → k < length xs → get_or xs k 0 * s ≤ get_or ys k 0 + s) → sum xs * s ≤ sum ys + length xs * s
sums_within s [] [] len h = omega arith
sums_within s [] (y ∷ ys) len h = absurd (omega arith)
sums_within s (x ∷ xs) [] len h = absurd (omega arith)
sums_within s (x ∷ xs) (y ∷ ys) len h =
    let rest = sums_within s xs ys (omega arith) (λ k l. h (suc k) (omega arith)) in
    omega (arith, sum_by-cons (λ (n : ℕ). n) x xs, sum_by-cons (λ (n : ℕ). n) y ys, h 0 (omega arith), rest, ap (λ n. n * s) (sum_by-cons (λ (n : ℕ). n) x xs))

sums_below : (xs ys : List ℕ) → length xs ≡ length ys → ((k : ℕ) → k < length xs → get_or xs k 0 ≤ get_or ys k 0) → sum xs ≤ sum ys
sums_below [] [] len h = omega arith
sums_below [] (y ∷ ys) len h = absurd (omega arith)
sums_below (x ∷ xs) [] len h = absurd (omega arith)
sums_below (x ∷ xs) (y ∷ ys) len h =
    omega (arith, sum_by-cons (λ (n : ℕ). n) x xs, sum_by-cons (λ (n : ℕ). n) y ys, h 0 (omega arith), sums_below xs ys (omega arith) (λ k l. h (suc k) (omega arith)))

-- the counts of the disks' ends as a list
counts_of : ℕ → List DiskId → List ℕ
counts_of disks stops = map (λ v. occurrences v stops) (range_with_len 0 disks)

counts_len : (disks : ℕ) (stops : List DiskId) → length (counts_of disks stops) ≡ disks
unfolding counts_of
counts_len disks stops = length-map-range_with_len (λ v. occurrences v stops) 0 disks

counts_at : (disks : ℕ) (stops : List DiskId) (v : ℕ) → v < disks → get_or (counts_of disks stops) v 0 ≡ occurrences v stops
unfolding counts_of
counts_at disks stops v h = get_or-map-range_with_len (λ v. occurrences v stops) 0 disks v v 0 h (omega arith)

counts_sum : (disks : ℕ) (stops : List DiskId) → sum (counts_of disks stops) ≤ length stops
counts_sum disks stops = counts_total disks stops (counts_of disks stops) (record { len = counts_len disks stops; counted = counts_at disks stops })

-- disks whose copies have `share` ends each, but for one copy of each disk
pub numbers_room : (share disks : ℕ) (stops : List DiskId) (numbers : List ℕ) → length numbers ≡ disks → ((v : ℕ) → v < disks → get_or numbers v 0 * share ≤ occurrences v stops + share) → sum numbers * share ≤ length stops + disks * share
numbers_room share disks stops numbers len each =
    let all = sums_within share numbers (counts_of disks stops) (len ∙ sym (counts_len disks stops)) (λ v h. omega (arith, each v (omega (arith, h, len)), counts_at disks stops v (omega (arith, h, len)))) in
    omega (arith, all, counts_sum disks stops, ap (λ n. n * share) len)

-- disks with no more copies than ends
pub numbers_few : (disks : ℕ) (stops : List DiskId) (numbers : List ℕ) → length numbers ≡ disks → ((v : ℕ) → v < disks → get_or numbers v 0 ≤ occurrences v stops) → sum numbers ≤ length stops
numbers_few disks stops numbers len each =
    let all = sums_below numbers (counts_of disks stops) (len ∙ sym (counts_len disks stops)) (λ v h. omega (arith, each v (omega (arith, h, len)), counts_at disks stops v (omega (arith, h, len)))) in
    omega (arith, all, counts_sum disks stops)

pub ceil_most : (n q : ℕ) → 1 ≤ q → div_ceil n q * q ≤ n + q
ceil_most n q pos = omega (arith, (div_ceil_times n q pos).1)

pub ceil_enough : (n q : ℕ) → 1 ≤ q → n ≤ div_ceil n q * q
ceil_enough n q pos = (div_ceil_times n q pos).0

pub AreFew-all : (q disks : ℕ) (stops : List DiskId) (numbers : List ℕ) → 1 ≤ q → length numbers ≡ disks → ((v : ℕ) → v < disks → get_or numbers v 0 ≡ div_ceil (occurrences v stops) q) → AreFewCopies q disks stops numbers
AreFew-all q disks stops numbers pos len each =
    record {
      len = len;
      each = each;
      room = numbers_room q disks stops numbers len (λ v h. omega (arith, ceil_most (occurrences v stops) q pos, ap (λ n. n * q) (each v h)));
      few = numbers_few disks stops numbers len (λ v h. omega (arith, ceil_within (occurrences v stops) q pos, each v h));
    }

pub few_enough : (q disks : ℕ) (stops : List DiskId) (numbers : List ℕ) → 1 ≤ q → AreFewCopies q disks stops numbers → IsEnough q stops numbers
few_enough q disks stops numbers pos f v h = omega (arith, ceil_enough (occurrences v stops) q pos, ap (λ n. n * q) (f.each v (omega (arith, h, f.len))))

pub IsDealt-few : (q disks : ℕ) (stops homes : List DiskId) (copies : List CopyId) (numbers : List ℕ) → AreFewCopies q disks stops numbers → IsDealtBy q numbers stops homes copies → IsDealt q disks stops homes copies
IsDealt-few q disks stops homes copies numbers f d =
    record {
      one_each = d.one_each;
      there = d.there;
      home = d.home;
      number = λ v h. d.number v (omega (arith, h, f.len)) ∙ f.each v h;
      most = d.most;
      homes_there = λ k e h. omega (arith, d.homes_there k e h, f.len);
      room = omega (arith, f.room, ap (λ n. n * q) d.total);
      few = omega (arith, f.few, d.total);
    }

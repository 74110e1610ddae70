-- Counting the ends of each disk.
use Rattle.mig_split.proofs.Common.{AreCounts, DiskId, List, ap, arith, cases_eq, count_by, count_by-le-length, count_by-le-one, count_by_more_no, count_by_more_yes, eq-eqb, listed_disk, occurrences}
use Rattle.mig_split.proofs.Common.{eqb, fill_by_all, get_or, get_or-range_with_len, get_or-set_other, get_or-set_same, inl, inr, length}
use Rattle.mig_split.proofs.Common.{length-range_with_len, length-set, map, ne_eqb, one, range_with_len, refl, set, subst, sum, sum-map}
use Rattle.mig_split.proofs.Common.{sum_by, sum_by-le, sum_by-swap, sym, take, ℕ, ◌+◌, ◌<◌, ◌∙◌, ◌≡◌, ◌≢◌, ◌≤◌}
use Rattle.mig_base.proofs.Common.{eqb-true}

pub count_of_same : (stops : List DiskId) (i v : ℕ) → i < length stops → listed_disk stops i ≡ v → occurrences v (take (i + 1) stops) ≡ occurrences v (take i stops) + 1
count_of_same stops i v h e = count_by_more_yes (λ (d : DiskId). eqb d.0 v) stops i (record { 0 = 0 }) h (eq-eqb _ _ e)

pub count_of_other : (stops : List DiskId) (i v : ℕ) → i < length stops → v ≢ listed_disk stops i → occurrences v (take (i + 1) stops) ≡ occurrences v (take i stops)
count_of_other stops i v h e = count_by_more_no (λ (d : DiskId). eqb d.0 v) stops i (record { 0 = 0 }) h (ne_eqb _ _ (λ x. e (sym x)))

pub AreCounts-more : (disks : ℕ) (stops : List DiskId) (counts : List ℕ) (i n : ℕ) → i < length stops → listed_disk stops i < disks → n ≡ get_or counts (listed_disk stops i) 0 + 1 → AreCounts disks (take i stops) counts → AreCounts disks (take (i + 1) stops) (set counts (listed_disk stops i) n)
AreCounts-more disks stops counts i n h there is_n a =
    record {
      len = length-set counts (listed_disk stops i) n ∙ a.len;
      counted = λ v hv. elim (cases_eq v (listed_disk stops i)) [
        | inl e ↦ subst (λ m. get_or (set counts (listed_disk stops i) n) m 0 ≡ occurrences m (take (i + 1) stops)) (sym e)
            (get_or-set_same counts (listed_disk stops i) n 0 (omega (arith, there, a.len)) ∙ is_n ∙ omega (arith, a.counted (listed_disk stops i) there, count_of_same stops i (listed_disk stops i) h refl))
        | inr ne ↦ get_or-set_other counts (listed_disk stops i) v n 0 ne ∙ a.counted v hv ∙ sym (count_of_other stops i v h ne)
      ];
    }

pub AreCounts-few : (disks : ℕ) (stops : List DiskId) (counts : List ℕ) (i v : ℕ) → v < disks → AreCounts disks (take i stops) counts → get_or counts v 0 ≤ length (take i stops)
AreCounts-few disks stops counts i v h a = omega (arith, a.counted v h, count_by-le-length (λ (d : DiskId). eqb d.0 v) (take i stops))

-- all disks together have no more ends than there are
pub counts_total : (disks : ℕ) (stops : List DiskId) (counts : List ℕ) → AreCounts disks stops counts → sum counts ≤ length stops
counts_total disks stops counts a =
    let n = disks in
    let f : ℕ → DiskId → ℕ = λ v d. one (eqb d.0 v) in
    let e : counts ≡ map (λ v. occurrences v stops) (range_with_len 0 n) = fill_by_all (λ v. occurrences v stops) counts n 0 a.len (λ v h. a.counted v h) in
    let total : sum counts ≡ sum_by (λ v. occurrences v stops) (range_with_len 0 n) = ap (λ (xs : List ℕ). sum xs) e ∙ sum-map (λ v. occurrences v stops) (range_with_len 0 n) in
    let turned = sum_by-swap f (range_with_len 0 n) stops in
    let most = sum_by-le (λ (d : DiskId). sum_by (λ v. f v d) (range_with_len 0 n)) 1 stops (λ k d h. once (get_or stops k d).0 n) in
    omega (arith, total, turned, most)
  where
    once : (w n : ℕ) → count_by (λ v. eqb w v) (range_with_len 0 n) ≤ 1
    once w n = count_by-le-one (λ v. eqb w v) (range_with_len 0 n) (λ i j d l h p q.
        let below : j < n = omega (arith, h, length-range_with_len 0 n) in
        let i_at = get_or-range_with_len 0 n i d (omega (arith, l, below)) in
        let j_at = get_or-range_with_len 0 n j d below in
        absurd (omega (arith, l, i_at, j_at, eqb-true w (get_or (range_with_len 0 n) i d) p, eqb-true w (get_or (range_with_len 0 n) j d) q)))

-- Where a plan has as many rounds as the quotient, the best bound is a disk or a side of one, and its value is the quotient.
use Rattle.mig_best.proofs.Common.{All-map, Best, Bool, Bound, BoundHolds, ByComponent, ByDisk, BySide, ByTriple, Candidate, DiskId, Incoming, IsBelow, IsBest, IsCandidateOf, IsDiskBound}
use Rattle.mig_best.proofs.Common.{IsSideCandidate, IsTrue, Joint, Limits, List, NamesCandidate, Nothing, OfDisk, OfSet, OfSide, Outgoing, Side, Split, Transfers, Transfer, [], ap, arith, bound_value}
use Rattle.mig_best.proofs.Common.{candidate_joint, cases_eq, cases_lt, disk_at, disk_value, div_ceil, false, false≢true, get_or, get_or-range_with_len, greatest_most, inl, inr, is_duplex}
use Rattle.mig_best.proofs.Common.{is_split, joint_candidate, length, length-range_with_len, load, map, max, ne_eqb, not, place, quotient, range_with_len, refl, rounds_for, rounds_for_none}
use Rattle.mig_best.proofs.Common.{set_value, side_limit, side_load, side_value, subst, suc, sym, takes_part, true, value, value_within_quotient, zero, ℕ, ◌-◌, ◌<◌, ◌∙◌, ◌≡◌, ◌≢◌, ◌≤◌}

-- the quotient is at most what each disk's value is at most
quotient_within : (graph : Transfers) (m : ℕ) → ((v : ℕ) → v < length graph.disks → disk_value graph v ≤ m) → quotient graph ≤ m
quotient_within graph m each =
    let n = length graph.disks in
    greatest_most 0 m (map (disk_value graph) (range_with_len 0 n)) (omega arith)
    (All-map (λ x. x ≤ m) (disk_value graph) (range_with_len 0 n) (λ k d h.
    let v = get_or (range_with_len 0 n) k d in
    each v (omega (arith, get_or-range_with_len 0 n k d (omega (arith, h, length-range_with_len 0 n)), h, length-range_with_len 0 n))))

-- a disk that takes no part needs no round
idle_value : (graph : Transfers) (v : ℕ) → load v graph.transfers ≡ 0 → disk_value graph v ≡ 0
idle_value graph v none = rounds_for_none (disk_at graph.disks v).limits v graph.transfers none

takes : (graph : Transfers) (v : ℕ) → load v graph.transfers ≢ 0 → IsTrue (takes_part graph v)
takes graph v some = ap not (ne_eqb (load v graph.transfers) 0 some)

-- without moves the quotient is 0
quotient_of_none : (graph : Transfers) → graph.transfers ≡ [] → quotient graph ≡ 0
quotient_of_none graph none = omega (arith, quotient_within graph 0 (λ v there. let e = idle_value graph v (ap (load v) none) in omega (arith, e)))

-- the rounds that a disk with split limits needs are the greater of both sides'
split_within : (limits : Limits) (v m : ℕ) (transfers : List Transfer) → is_split limits ≡ true → div_ceil (side_load Outgoing v transfers) (side_limit Outgoing limits) ≤ m → div_ceil (side_load Incoming v transfers) (side_limit Incoming limits) ≤ m → rounds_for limits v transfers ≤ m
split_within (Joint l) v m transfers split a b = absurd (false≢true split)
split_within (Split outgoing incoming) v m transfers split a b = greater (div_ceil (side_load Outgoing v transfers) outgoing) (div_ceil (side_load Incoming v transfers) incoming) a b
  where
    greater : (a b : ℕ) → a ≤ m → b ≤ m → max a b ≤ m
    greater a b h k = omega (arith, h, k)

side_within : (limits : Limits) (v : ℕ) (side : Side) (transfers : List Transfer) → is_split limits ≡ true → div_ceil (side_load side v transfers) (side_limit side limits) ≤ rounds_for limits v transfers
side_within (Joint l) v side transfers split = absurd (false≢true split)
side_within (Split outgoing incoming) v Outgoing transfers split = left (div_ceil (side_load Outgoing v transfers) outgoing) (div_ceil (side_load Incoming v transfers) incoming)
  where
    left : (a b : ℕ) → a ≤ max a b
    left a b = omega arith
side_within (Split outgoing incoming) v Incoming transfers split = right (div_ceil (side_load Outgoing v transfers) outgoing) (div_ceil (side_load Incoming v transfers) incoming)
  where
    right : (a b : ℕ) → b ≤ max a b
    right a b = omega arith

-- a side without a load needs no round
idle_side : (graph : Transfers) (side : Side) (v : ℕ) → side_load side v graph.transfers ≡ 0 → side_value graph side v ≡ 0
idle_side graph side v none = ap (λ n. div_ceil n (side_limit side (disk_at graph.disks v).limits)) none ∙ nothing (side_limit side (disk_at graph.disks v).limits)
  where
    nothing : (m : ℕ) → div_ceil 0 m ≡ 0
    nothing zero = refl
    nothing (suc m) = omega arith

module _ (graph : Transfers) (kind : (v : ℕ) → v < length graph.disks → is_split (disk_at graph.disks v).limits ≡ is_duplex graph.disks) where
  -- the best of joint limits, where it is a disk
  best_disk : is_duplex graph.disks ≡ false → (v : ℕ) → IsBest graph (ByDisk v) → disk_value graph v ≡ quotient graph
  best_disk joint v is =
      let up = value_within_quotient graph v (joint_candidate graph joint (ByDisk v) is.candidate).0 in
      let down = quotient_within graph (disk_value graph v) (λ u there. elim (cases_eq (load u graph.transfers) 0) [
        | inl none ↦ omega (arith, idle_value graph u none)
        | inr some ↦ is.greatest (ByDisk u) (candidate_joint graph joint (ByDisk u) (there, takes graph u some))
      ]) in
      omega (arith, up, down)

  -- and the best of split limits
  best_side : is_duplex graph.disks ≡ true → (v : ℕ) (side : Side) → IsBest graph (BySide v side) → side_value graph side v ≡ quotient graph
  best_side split v side is =
      let there = (subst (λ b. IsCandidateOf b graph (BySide v side)) split is.candidate).0 in
      let up = side_within (disk_at graph.disks v).limits v side graph.transfers (kind v there ∙ split) in
      let least : (u : ℕ) (other : Side) → u < length graph.disks → side_value graph other u ≤ side_value graph side v = λ u other within. elim (cases_lt 0 (side_load other u graph.transfers)) [
        | inl some ↦ is.greatest (BySide u other) (subst (λ b. IsCandidateOf b graph (BySide u other)) (sym split) (within, some))
        | inr none ↦ omega (arith, idle_side graph other u (omega (arith, none)))
      ] in
      let down = quotient_within graph (side_value graph side v) (λ u within. split_within (disk_at graph.disks u).limits u (side_value graph side v) graph.transfers (kind u within ∙ split) (least u Outgoing within) (least u Incoming within)) in
      omega (arith, up, value_within_quotient graph v there, down)

  -- a best candidate that comes after the disks is above the quotient
  above : is_duplex graph.disks ≡ false → (c : Candidate) → IsBest graph c → ((u : ℕ) → IsBelow (place (ByDisk u)) (place c)) → (a : ℕ) → a < length graph.disks → IsTrue (takes_part graph a) → quotient graph < value graph c
  above joint c is later a within part =
      let some = is.first (ByDisk a) (candidate_joint graph joint (ByDisk a) (within, part)) (later a) in
      let most = quotient_within graph (value graph c - 1) (λ u there. elim (cases_eq (load u graph.transfers) 0) [
        | inl none ↦ omega (arith, idle_value graph u none)
        | inr busy ↦ omega (arith, is.first (ByDisk u) (candidate_joint graph joint (ByDisk u) (there, takes graph u busy)) (later u))
      ]) in
      omega (arith, some, most)

  -- a set isn't the best bound where the quotient is one
  no_set : is_duplex graph.disks ≡ false → (c : Candidate) (set : List DiskId) (i x : ℕ) → NamesCandidate (OfSet set i x) c → IsBest graph c → BoundHolds graph (OfSet set i x) → x ≤ quotient graph → ⊥
  no_set joint (ByDisk v) set i x names is holds most = names
  no_set joint (BySide v side) set i x names is holds most = names
  no_set joint (ByTriple a b c) set i x names is holds most =
      let k = joint_candidate graph joint (ByTriple a b c) is.candidate in
      let high = above joint (ByTriple a b c) is (λ u. inl (omega arith)) a (omega (arith, k.0, k.1, k.2)) k.3 in
      omega (arith, high, holds.values, ap (set_value graph) names, most)
  no_set joint (ByComponent members) set i x names is holds most =
      let k = (joint_candidate graph joint (ByComponent members) is.candidate).0 in
      let first = k.there 0 0 k.filled in
      let high = above joint (ByComponent members) is (λ u. inl (omega arith)) (get_or members 0 0) first.0 first.1 in
      omega (arith, high, holds.values, ap (set_value graph) names, most)

  pub tight_bound : (bound : Bound) → Best graph bound → bound_value bound ≤ quotient graph → IsDiskBound bound (quotient graph)
  tight_bound bound = by (is_duplex graph.disks) refl bound
    where
      by : (b : Bool) → is_duplex graph.disks ≡ b → (bound : Bound) → Best graph bound → bound_value bound ≤ quotient graph → IsDiskBound bound (quotient graph)
      by b e Nothing best most = quotient_of_none graph best
      by false joint (OfDisk disk l x) best most = best.3.values ∙ best_disk joint disk.0 (subst (IsBest graph) best.1 best.2)
      by false joint (OfSide disk side l x) best most = absurd (joint_candidate graph joint (BySide disk.0 side) (subst (IsBest graph) best.1 best.2).candidate)
      by false joint (OfSet set i x) best most = absurd (no_set joint best.0 set i x best.1 best.2 best.3 most)
      by true split (OfDisk disk l x) best most = absurd (subst (λ b. IsCandidateOf b graph (ByDisk disk.0)) split (subst (IsBest graph) best.1 best.2).candidate)
      by true split (OfSide disk side l x) best most = best.3.values ∙ best_side split disk.0 side (subst (IsBest graph) best.1 best.2)
      by true split (OfSet set i x) best most = absurd (none best.0 best.1 (subst (λ b. IsCandidateOf b graph best.0) split best.2.candidate))
        where
          none : (c : Candidate) → NamesCandidate (OfSet set i x) c → IsSideCandidate graph c → ⊥
          none (ByDisk v) names is = is
          none (BySide v side) names is = names
          none (ByTriple p q r) names is = is
          none (ByComponent members) names is = is

-- A triple is no better than its disks where some two of them aren't joined by a move.
use Rattle.mig_bounds.proofs.Common.{AreTops, ByDisk, ByTriple, Candidate, IsBestBelow, IsGraph, IsJointCandidate, IsTooLittle, IsTrue, List, Transfers, Transfer, [], arith, between, cases_lt}
use Rattle.mig_bounds.proofs.Common.{disk_at, ends_positive, eqb, get_or, halved_value, inl, inr, inside, joins, length, limit, limit_sum, load, load_within_rounds, mul-le-mul_left}
use Rattle.mig_bounds.proofs.Common.{mul-le-mul_right, nat_tests, no_disk, not_none, one, set, set_value, sum_by-add, sum_by-le_each, sum_by-same_each, takes_part, touches, value, ℕ, ◌%◌, ◌&&◌}
use Rattle.mig_bounds.proofs.Common.{◌*◌, ◌+◌, ◌/◌, ◌<◌, ◌||◌, ◌∷◌, ◌≡◌, ◌≢◌, ◌≤◌, ◌⊎◌}
use Rattle.mig_bounds.proofs.Steps.{inside_three_is}

-- how many moves join two disks, and the disks' loads

joins_once : (a b l r : ℕ) → one ((eqb l a && eqb r b) || (eqb l b && eqb r a)) ≤ one (eqb a l || eqb a r)
joins_once a b l r = grind (arith, nat_tests)

joins_two : (x y z l r : ℕ) → x ≢ y → one ((eqb l x && eqb r z) || (eqb l z && eqb r x)) + one ((eqb l y && eqb r z) || (eqb l z && eqb r y)) ≤ one (eqb z l || eqb z r)
joins_two x y z l r apart = grind (arith, nat_tests)

joins_either : (a b l r : ℕ) → one ((eqb l a && eqb r b) || (eqb l b && eqb r a)) ≡ one ((eqb l b && eqb r a) || (eqb l a && eqb r b))
joins_either a b l r = grind (arith, nat_tests)

pub between_comm : (a b : ℕ) (ts : List Transfer) → between a b ts ≡ between b a ts
between_comm a b ts = sum_by-same_each (λ t. one (joins a b t)) (λ t. one (joins b a t)) ts (λ k d h. joins_either a b (get_or ts k d).leaves (get_or ts k d).reaches)

pub between-le-load : (a b : ℕ) (ts : List Transfer) → between a b ts ≤ load a ts
between-le-load a b ts = sum_by-le_each (λ t. one (joins a b t)) (λ t. one (touches a t)) ts (λ k d h. joins_once a b (get_or ts k d).leaves (get_or ts k d).reaches)

two-le-load : (x y z : ℕ) (ts : List Transfer) → x ≢ y → between x z ts + between y z ts ≤ load z ts
two-le-load x y z ts apart =
    let each = sum_by-le_each (λ t. one (joins x z t) + one (joins y z t)) (λ t. one (touches z t)) ts (λ k d h. joins_two x y z (get_or ts k d).leaves (get_or ts k d).reaches apart) in
    omega (arith, each, sum_by-add (λ t. one (joins x z t)) (λ t. one (joins y z t)) ts)

-- a disk that a move joins to another takes part
pub joined_takes_part : (graph : Transfers) (a b : ℕ) → between a b graph.transfers ≢ 0 → IsTrue (takes_part graph a)
joined_takes_part graph a b some = not_none (load a graph.transfers) (λ none. some (omega (arith, none, between-le-load a b graph.transfers)))

-- a set's value is within a number of rounds where its inside is

pub set_value-le : (graph : Transfers) (set : List ℕ) (rounds : ℕ) → inside set graph.transfers ≤ rounds * (limit_sum graph set / 2) → set_value graph set ≤ rounds
set_value-le graph set rounds h = halved_value (limit_sum graph set / 2) (inside set graph.transfers) rounds h

-- of two parts of an odd sum of limits, one is within half of it
half_covers : (rounds x y z sum i : ℕ) → sum ≡ x + y + z → sum % 2 ≡ 1 → i ≤ rounds * z → i ≤ rounds * x + rounds * y → i ≤ rounds * (sum / 2)
half_covers rounds x y z sum i is odd last others = elim (cases_lt z (x + y)) [
  | inl less ↦ (let low : z ≤ sum / 2 = omega (arith, is, odd, less) in omega (arith, last, mul-le-mul_left rounds low))
  | inr more ↦ (let low : x + y ≤ sum / 2 = omega (arith, is, odd, more) in omega (arith, others, mul-le-mul_left rounds low))
]

-- the best of the disks covers the load of each
pub load_within : (graph : Transfers) (best : Candidate) (rounds v : ℕ) (rest : List ℕ) → IsGraph graph → IsBestBelow graph best rounds (1 ∷ rest) → v < length graph.disks → IsTrue (takes_part graph v) → load v graph.transfers ≤ rounds * limit graph v
load_within graph best rounds v rest kept before there part =
    let most = before.greatest (ByDisk v) (there, part) (inl (omega arith)) in
    omega (arith, load_within_rounds (disk_at graph.disks v).limits v graph.transfers (kept.disks_valid v no_disk there).0, mul-le-mul_right (limit graph v) most)

-- no triple is better of which two disks aren't joined
pub no_better_triple : (graph : Transfers) (best : Candidate) (rounds a b c : ℕ) (rest : List ℕ) → IsGraph graph → IsBestBelow graph best rounds (1 ∷ rest) → (between a b graph.transfers ≡ 0) ⊎ ((between a c graph.transfers ≡ 0) ⊎ (between b c graph.transfers ≡ 0)) → IsJointCandidate graph (ByTriple a b c) → value graph (ByTriple a b c) ≤ rounds
no_better_triple graph best rounds a b c rest kept before apart (ab, bc, there, part_a, part_b, part_c, odd) =
    let ts = graph.transfers in
    let sum = limit_sum graph (a ∷ b ∷ c ∷ []) in
    let i = inside (a ∷ b ∷ c ∷ []) graph.transfers in
    set_value-le graph (a ∷ b ∷ c ∷ []) rounds (elim apart [
      | inl none ↦ half_covers rounds (limit graph a) (limit graph b) (limit graph c) sum i (omega arith) odd
          (omega (arith, none, split, in_c, two-le-load a b c ts (λ e. absurd (omega (arith, e, ab)))))
          (omega (arith, none, split, in_a, in_b, between-le-load a c ts, between-le-load b c ts))
      | inr other ↦ elim other [
        | inl none ↦ half_covers rounds (limit graph a) (limit graph c) (limit graph b) sum i (omega arith) odd
            (omega (arith, none, split, in_b, between_comm b c ts, two-le-load a c b ts (λ e. absurd (omega (arith, e, ab, bc)))))
            (omega (arith, none, split, in_a, in_c, between-le-load a b ts, between_comm b c ts, between-le-load c b ts))
        | inr none ↦ half_covers rounds (limit graph b) (limit graph c) (limit graph a) sum i (omega arith) odd
            (omega (arith, none, split, in_a, between_comm a b ts, between_comm a c ts, two-le-load b c a ts (λ e. absurd (omega (arith, e, bc)))))
            (omega (arith, none, split, in_b, in_c, between_comm a b ts, between_comm a c ts, between-le-load b a ts, between-le-load c a ts))
      ]
    ])
  where
    split : inside (a ∷ b ∷ c ∷ []) graph.transfers ≡ (between a b graph.transfers + between a c graph.transfers) + between b c graph.transfers
    split = inside_three_is a b c graph.transfers ab bc kept.apart

    in_a : load a graph.transfers ≤ rounds * limit graph a
    in_a = load_within graph best rounds a rest kept before (omega (arith, ab, bc, there)) part_a

    in_b : load b graph.transfers ≤ rounds * limit graph b
    in_b = load_within graph best rounds b rest kept before (omega (arith, bc, there)) part_b

    in_c : load c graph.transfers ≤ rounds * limit graph c
    in_c = load_within graph best rounds c rest kept before there part_c

-- no triple is better that begins with two disks that are joined too little
pub no_better_third : (graph : Transfers) (best : Candidate) (tops : List ℕ) (rounds a b c : ℕ) (rest : List ℕ) → IsGraph graph → IsBestBelow graph best rounds (1 ∷ rest) → AreTops graph tops → IsTooLittle graph tops a b rounds → IsJointCandidate graph (ByTriple a b c) → value graph (ByTriple a b c) ≤ rounds
no_better_third graph best tops rounds a b c rest kept before are little cand = elim little [
  | inl none ↦ no_better_triple graph best rounds a b c rest kept before (inl none) cand
  | inr few ↦ set_value-le graph (a ∷ b ∷ c ∷ []) rounds (
      let low : (limit graph a + limit graph b + 1) / 2 ≤ limit_sum graph (a ∷ b ∷ c ∷ []) / 2 = omega (arith, ends_positive (disk_at graph.disks c).limits (kept.disks_valid c no_disk cand.2).0) in
      omega (
        arith,
        few,
        inside_three_is a b c graph.transfers cand.0 cand.1 kept.apart,
        mul-le-mul_left rounds low,
        are.above a c (omega (arith, cand.0, cand.1, cand.2)) cand.2,
        are.above b c (omega (arith, cand.1, cand.2)) cand.2,
      ))
]

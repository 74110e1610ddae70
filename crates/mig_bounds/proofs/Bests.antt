-- The end of the search.
use Rattle.mig_bounds.proofs.Common.{ByComponent, ByDisk, BySide, ByTriple, Candidate, IsBelow, IsBest, IsBestBelow, IsGraph, IsLabelling, List, NoneTakesPart, Transfers, Transfer, [], ap, arith}
use Rattle.mig_bounds.proofs.Common.{candidate_joint, eq-eqb, eqb, eqb-true, false, get_or, get_or-le-sum_by, has_at, has_true, inl, is_duplex, joint_candidate, labelled, length, load, nat_tests}
use Rattle.mig_bounds.proofs.Common.{not, one, place, refl, set, touches, true, ℕ, ◌<◌, ◌||◌, ◌∷◌, ◌≡◌, ◌≤◌}

-- every candidate is below the end
all_below : (c : Candidate) → IsBelow (place c) (3 ∷ [])
all_below (ByDisk v) = inl (omega arith)
all_below (BySide v side) = inl (omega arith)
all_below (ByTriple a b c) = inl (omega arith)
all_below (ByComponent set) = inl (omega arith)

pub IsBest-whole : (graph : Transfers) (best : Candidate) (rounds : ℕ) → is_duplex graph.disks ≡ false → IsBestBelow graph best rounds (3 ∷ []) → IsBest graph best
IsBest-whole graph best rounds joint b = record {
  candidate = candidate_joint graph joint best b.candidate;
  greatest = λ c cand. omega (arith, b.greatest c (joint_candidate graph joint c cand) (all_below c), b.value_is);
  first = λ c cand below. omega (arith, b.first c (joint_candidate graph joint c cand) below, b.value_is);
}

-- a label that some disk has is that of a disk
pub label_there : (graph : Transfers) (labels : List ℕ) (r : ℕ) → IsLabelling graph labels (length graph.transfers) → 0 < length (labelled labels r) → r < length labels
label_there graph labels r is some =
    let w = get_or (labelled labels r) 0 0 in
    let found = has_true (λ v. eqb (get_or labels v 0) r) 0 (length labels) w (has_at (labelled labels r) 0 0 some) in
    omega (arith, found.1, is.least w (omega (arith, found.1)), eqb-true (get_or labels w 0) r found.2)

-- where no disk takes part, there is no move
pub no_transfers : (graph : Transfers) → IsGraph graph → NoneTakesPart graph (length graph.disks) → graph.transfers ≡ []
no_transfers graph valid none = by_list graph.transfers refl
  where
    loaded : (n : ℕ) → 1 ≤ n → not (eqb n 0) ≡ true
    loaded n h = grind (arith, nat_tests)

    by_list : (ts : List Transfer) → graph.transfers ≡ ts → graph.transfers ≡ []
    by_list [] e = e
    by_list (t ∷ ts) e =
        let some : 0 < length graph.transfers = omega (arith, ap (λ (x : List Transfer). length x) e) in
        let first = get_or graph.transfers 0 t in
        let v = first.leaves in
        let met : touches v first ≡ true = ap (λ b. b || eqb v first.reaches) (eq-eqb v v refl) in
        absurd (none v (valid.leaves_there 0 t some) (loaded (load v graph.transfers) (omega (arith, get_or-le-sum_by (λ (s : Transfer). one (touches v s)) graph.transfers 0 t some, ap one met))))

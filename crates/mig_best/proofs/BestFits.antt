-- The disks of the best bound are there.
use Rattle.mig_best.proofs.Common.{All, All-cons, All-nil, Best, Bool, Bound, BoundFits, BoundHolds, ByComponent, ByDisk, BySide, ByTriple, Candidate, Class, DiskId, Duplex, Even, General}
use Rattle.mig_best.proofs.Common.{IsBest, IsCandidateOf, IsEven, IsOfKind, List, NamesCandidate, Nothing, OfDisk, OfSet, OfSide, Side, Transfers, [], ap, arith, class_is_duplex, class_is_even, class_of}
use Rattle.mig_best.proofs.Common.{false, false≢true, get_or, get_or-map, is_duplex, length, length-map, numbers, refl, subst, sym, true, ℕ, ◌<◌, ◌∙◌, ◌∷◌, ◌≡◌}

-- disks whose numbers are those of disks that are there
all_there : (set : List DiskId) (n : ℕ) (members : List ℕ) → numbers set ≡ members → All (λ v. v < n) members → All (λ (disk : DiskId). disk.0 < n) set
all_there set n members same each k d there =
    let long : k < length members = omega (arith, there, ap (λ (vs : List ℕ). length vs) same, length-map set (λ (disk : DiskId). disk.0)) in
    let at : get_or members k d.0 ≡ (get_or set k d).0 = ap (λ (vs : List ℕ). get_or vs k d.0) (sym same) ∙ get_or-map (λ (disk : DiskId). disk.0) set k d d.0 there in
    subst (λ v. v < n) at (each k d.0 long)

three_there : (n a b c : ℕ) → a < b → b < c → c < n → All (λ v. v < n) (a ∷ b ∷ c ∷ [])
three_there n a b c ab bc cn =
    All-cons (λ v. v < n) a (b ∷ c ∷ []) (omega (arith, ab, bc, cn)) (All-cons (λ v. v < n) b (c ∷ []) (omega (arith, bc, cn)) (All-cons (λ v. v < n) c [] cn (All-nil (λ v. v < n))))

-- a candidate's disks are there
disk_there : (kind : Bool) (graph : Transfers) (v : ℕ) → IsCandidateOf kind graph (ByDisk v) → v < length graph.disks
disk_there false graph v is = is.0
disk_there true graph v is = absurd is

side_there : (kind : Bool) (graph : Transfers) (v : ℕ) (side : Side) → IsCandidateOf kind graph (BySide v side) → v < length graph.disks
side_there false graph v side is = absurd is
side_there true graph v side is = is.0

triple_there : (kind : Bool) (graph : Transfers) (a b c : ℕ) → IsCandidateOf kind graph (ByTriple a b c) → All (λ v. v < length graph.disks) (a ∷ b ∷ c ∷ [])
triple_there false graph a b c k = three_there (length graph.disks) a b c k.0 k.1 k.2
triple_there true graph a b c k = absurd k

members_there : (kind : Bool) (graph : Transfers) (members : List ℕ) → IsCandidateOf kind graph (ByComponent members) → All (λ v. v < length graph.disks) members
members_there false graph members is = λ k d h. (is.0.there k d h).0
members_there true graph members is = absurd is

pub Best-fits : (graph : Transfers) (bound : Bound) → Best graph bound → BoundFits graph bound
Best-fits graph Nothing best = tt
Best-fits graph (OfDisk disk l x) best = disk_there (is_duplex graph.disks) graph disk.0 (subst (IsBest graph) best.1 best.2).candidate
Best-fits graph (OfSide disk side l x) best = side_there (is_duplex graph.disks) graph disk.0 side (subst (IsBest graph) best.1 best.2).candidate
Best-fits graph (OfSet set i x) (ByDisk v, names, is, holds) = absurd names
Best-fits graph (OfSet set i x) (BySide v side, names, is, holds) = absurd names
Best-fits graph (OfSet set i x) (ByTriple a b c, names, is, holds) = all_there set (length graph.disks) (a ∷ b ∷ c ∷ []) names (triple_there (is_duplex graph.disks) graph a b c is.candidate)
Best-fits graph (OfSet set i x) (ByComponent members, names, is, holds) = all_there set (length graph.disks) members names (members_there (is_duplex graph.disks) graph members is.candidate)

-- the best bound is of the kind of the limits
kind_of : (kind : Bool) (graph : Transfers) (bound : Bound) (c : Candidate) → NamesCandidate bound c → IsCandidateOf kind graph c → IsOfKind kind bound
kind_of kind graph Nothing c names is = tt
kind_of false graph (OfDisk disk l x) c names is = refl
kind_of true graph (OfDisk disk l x) c names is = absurd (subst (IsCandidateOf true graph) names is)
kind_of true graph (OfSide disk side l x) c names is = refl
kind_of false graph (OfSide disk side l x) c names is = absurd (subst (IsCandidateOf false graph) names is)
kind_of false graph (OfSet set i x) c names is = refl
kind_of true graph (OfSet set i x) (ByDisk v) names is = absurd names
kind_of true graph (OfSet set i x) (BySide v side) names is = absurd names
kind_of true graph (OfSet set i x) (ByTriple a b c) names is = absurd is
kind_of true graph (OfSet set i x) (ByComponent members) names is = absurd is

pub Best-kind : (graph : Transfers) (bound : Bound) → Best graph bound → IsOfKind (is_duplex graph.disks) bound
Best-kind graph Nothing best = tt
Best-kind graph (OfDisk disk l x) best = kind_of (is_duplex graph.disks) graph (OfDisk disk l x) best.0 best.1 best.2.candidate
Best-kind graph (OfSide disk side l x) best = kind_of (is_duplex graph.disks) graph (OfSide disk side l x) best.0 best.1 best.2.candidate
Best-kind graph (OfSet set i x) best = kind_of (is_duplex graph.disks) graph (OfSet set i x) best.0 best.1 best.2.candidate

-- what the best bound states is so
pub Best-holds : (graph : Transfers) (bound : Bound) → Best graph bound → BoundHolds graph bound
Best-holds graph Nothing best = record { loads = refl; values = refl }
Best-holds graph (OfDisk disk l x) best = best.3
Best-holds graph (OfSide disk side l x) best = best.3
Best-holds graph (OfSet set i x) best = best.3

-- the class that a test of evenness gives
pub class_even : (graph : Transfers) → IsEven graph → class_of graph ≡ Even
class_even graph even = (class_is_even graph).1 even

pub class_general : (graph : Transfers) → is_duplex graph.disks ≡ false → (IsEven graph → ⊥) → class_of graph ≡ General
class_general graph joint odd = by_class (class_of graph) refl
  where
    by_class : (c : Class) → class_of graph ≡ c → class_of graph ≡ General
    by_class Even e = absurd (odd ((class_is_even graph).0 e))
    by_class General e = e
    by_class Duplex e = absurd (false≢true (sym joint ∙ (class_is_duplex graph).0 e))

pub class_duplex : (graph : Transfers) → is_duplex graph.disks ≡ true → class_of graph ≡ Duplex
class_duplex graph split = (class_is_duplex graph).1 split

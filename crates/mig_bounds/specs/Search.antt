-- A search of the candidates in their order.
use Rattle.std.specs.Prelude.{◌≡◌, ℕ, ◌<◌, ◌≤◌, ◌∷◌, [], IsTrue, List, Option, MatchOption}
use Rattle.mig_base.specs.Transfers.{Transfers, takes_part}
use Rattle.mig_base.specs.Bounding.{Candidate, ByDisk, ByTriple, IsJointCandidate, value, place, IsBelow}
use Rattle.mig_bounds.specs.declared.best.BestSmall.{BestSmall}
use Rattle.mig_bounds.specs.declared.best.SmallSet.{SmallSet}
use Rattle.mig_bounds.specs.declared.best.SmallSet.TheVariants.{Disk, Triple}

-- the candidate of a disk or of a triple
abbrev pub candidate_of : SmallSet → Candidate
candidate_of (Disk v) = ByDisk v.0
candidate_of (Triple a b c) = ByTriple a.0 b.0 c.0

-- the first best of the candidates below a place, and its value
pub record IsBestBelow (graph : Transfers) (best : Candidate) (rounds : ℕ) (upto : List ℕ) : Type 0 where
  pub candidate : IsJointCandidate graph best
  pub value_is : rounds ≡ value graph best
  pub greatest : (c : Candidate) → IsJointCandidate graph c → IsBelow (place c) upto → value graph c ≤ rounds
  pub first : (c : Candidate) → IsJointCandidate graph c → IsBelow (place c) (place best) → value graph c < rounds

-- the same of disks and triples
abbrev pub IsBestSmall : Transfers → BestSmall → List ℕ → Type 0
IsBestSmall graph best upto = IsBestBelow graph (candidate_of best.set) best.value upto

-- none of the first disks takes part
abbrev pub NoneTakesPart : Transfers → ℕ → Type 0
NoneTakesPart graph count = (v : ℕ) → v < count → ¬ IsTrue (takes_part graph v)

-- the first best of the first disks, or nothing where none of them takes part
abbrev pub IsBestDisk : Transfers → Option BestSmall → ℕ → Type 0
IsBestDisk graph best count = MatchOption best (NoneTakesPart graph count) (λ (b : BestSmall). IsBestSmall graph b (0 ∷ count ∷ []))

-- Transfer graphs whose disks have two sides, so that each transfer goes from one side to the other.
use Rattle.std.specs.Prelude.{◌≢◌, ℕ, Bool, All}
use Rattle.mig_base.specs.Transfers.{Transfers}
use Rattle.mig_base.specs.Bounding.{IsOneWay}

-- each transfer has exactly one end among the disks of the one side
abbrev pub Separates : (ℕ → Bool) → Transfers → Type 0
Separates side graph = All (λ t. side t.leaves ≢ side t.reaches) graph.transfers

-- some set of disks has exactly one end of each transfer in it
abbrev pub IsTwoSided : Transfers → Type 0
IsTwoSided graph = (side : ℕ → Bool) × Separates side graph

-- a one-way graph is two-sided: the disks that give items away are one side
abbrev pub OneWayIsTwoSided : Type 0
OneWayIsTwoSided = (graph : Transfers) → IsOneWay graph → IsTwoSided graph

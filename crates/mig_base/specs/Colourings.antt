-- Colourings of the transfer graph that give rounds.
use Rattle.std.specs.Prelude.{◌≡◌, ℕ, ◌<◌, ◌==◌, List, length, map, filter, All, slice_index_or}
use Rattle.std.specs.List.{range_with_len}
use Rattle.mig_base.specs.declared.ids.Colour.{Colour}
use Rattle.mig_base.specs.Transfers.{Transfers, KeepsLimits}
use Rattle.mig_base.specs.Directions.{transfer_at}

-- the colour of an edge
abbrev pub colour_at : List Colour → ℕ → ℕ
colour_at colours edge = (slice_index_or colours edge (record { 0 = 0 })).0

-- the edges of one colour among the first n, in order
abbrev pub edges_of : List Colour → ℕ → ℕ → List ℕ
edges_of colours colour n = filter (λ edge. colour_at colours edge == colour) (range_with_len 0 n)

-- a colour below this number for each edge, so that the edges of one colour keep the limit of each disk
pub record IsLimited (graph : Transfers) (number : ℕ) (colours : List Colour) : Type 0 where
  pub one_each : length colours ≡ length graph.transfers
  pub below : All (λ colour. colour.0 < number) colours
  pub within : (colour : ℕ) → KeepsLimits graph.disks (map (transfer_at graph.transfers) (edges_of colours colour (length graph.transfers)))

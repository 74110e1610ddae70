-- The colours of the edges of a board as a list, and colours that spread edges.
use Rattle.std.specs.Prelude.{◌≡◌, ℕ, ◌<◌, ◌≤◌, ◌==◌, ◌&&◌, Bool, List, length, All, count_by}
use Rattle.std.specs.List.{range_with_len}
use Rattle.mig_base.specs.declared.ids.Colour.{Colour}
use Rattle.mig_base.specs.Colourings.{colour_at}
use Rattle.mig_base.specs.Directions.{head_of, in_of, is_forward, out_of, tail_of, transfer_at}
use Rattle.mig_base.specs.Transfers.{Transfers, div_ceil}
use Rattle.mig_board.specs.Colouring.{Colouring, HasColour}

-- the list has the colour of each edge
pub record AreColours (g : Colouring) (colours : List Colour) : Type 0 where
  pub one_each : length colours ≡ length g.ends
  pub has : (e : ℕ) → e < length g.ends → HasColour g (record { 0 = e }) (record { 0 = colour_at colours e })

-- how many edges of a colour leave the disk by their directions, and how many enter it
abbrev pub leaving_in : Transfers → List Bool → List Colour → ℕ → ℕ → ℕ
leaving_in graph directions colours c v = count_by (λ e. (colour_at colours e == c) && (v == tail_of (transfer_at graph.transfers e) (is_forward directions e))) (range_with_len 0 (length graph.transfers))

abbrev pub entering_in : Transfers → List Bool → List Colour → ℕ → ℕ → ℕ
entering_in graph directions colours c v = count_by (λ e. (colour_at colours e == c) && (v == head_of (transfer_at graph.transfers e) (is_forward directions e))) (range_with_len 0 (length graph.transfers))

-- one of q colours for each edge; of the edges that leave a disk, and of those that enter it, each colour has at most as many as all of them over q, rounded up
pub record IsSpread (graph : Transfers) (q : ℕ) (directions : List Bool) (colours : List Colour) : Type 0 where
  pub one_each : length colours ≡ length graph.transfers
  pub below : All (λ colour. colour.0 < q) colours
  pub leaving : (c v : ℕ) → v < length graph.disks → leaving_in graph directions colours c v ≤ div_ceil (out_of graph.transfers directions v) q
  pub entering : (c v : ℕ) → v < length graph.disks → entering_in graph directions colours c v ≤ div_ceil (in_of graph.transfers directions v) q

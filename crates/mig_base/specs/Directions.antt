-- Directions of the edges of a transfer graph. They are not the directions of the transfers.
use Rattle.std.specs.Prelude.{ℕ, ◌+◌, ◌≤◌, ◌==◌, Bool, false, List, [], ◌∷◌, slice_index_or, if◌then◌else◌}
use Rattle.std.specs.List.{count_by}
use Rattle.mig_base.specs.Transfers.{Transfer}

-- the edge at a place, and its direction: true leads from the disk that the transfer leaves to the one that it reaches
abbrev pub transfer_at : List Transfer → ℕ → Transfer
transfer_at transfers edge = slice_index_or transfers edge (record { leaves = 0; reaches = 0 })

abbrev pub is_forward : List Bool → ℕ → Bool
is_forward directions edge = slice_index_or directions edge false

-- the disk that an edge leaves by its direction, and the disk that it enters
abbrev pub tail_of : Transfer → Bool → ℕ
tail_of t forward = if forward then t.leaves else t.reaches

abbrev pub head_of : Transfer → Bool → ℕ
head_of t forward = if forward then t.reaches else t.leaves

-- these of all edges
abbrev pub tails : List Transfer → List Bool → List ℕ
tails [] directions = []
tails (t ∷ transfers) [] = []
tails (t ∷ transfers) (forward ∷ directions) = tail_of t forward ∷ tails transfers directions

abbrev pub heads : List Transfer → List Bool → List ℕ
heads [] directions = []
heads (t ∷ transfers) [] = []
heads (t ∷ transfers) (forward ∷ directions) = head_of t forward ∷ heads transfers directions

-- how many edges leave the disk by their directions, and how many enter it
abbrev pub out_of : List Transfer → List Bool → ℕ → ℕ
out_of transfers directions v = count_by (λ disk. disk == v) (tails transfers directions)

abbrev pub in_of : List Transfer → List Bool → ℕ → ℕ
in_of transfers directions v = count_by (λ disk. disk == v) (heads transfers directions)

-- at each disk the numbers of outgoing and of incoming edges differ by at most 1
pub record Balances (transfers : List Transfer) (directions : List Bool) : Type 0 where
  pub out_most : (v : ℕ) → out_of transfers directions v ≤ in_of transfers directions v + 1
  pub in_most : (v : ℕ) → in_of transfers directions v ≤ out_of transfers directions v + 1

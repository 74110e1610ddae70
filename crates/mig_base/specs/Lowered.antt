-- Limits that are lowered to even ones, and the quotient by these.
use Rattle.std.specs.Prelude.{◌≡◌, ℕ, ◌*◌, ◌/◌, ◌<◌, ◌≤◌, false, IsTrue, length, map}
use Rattle.std.specs.List.{range_with_len}
use Rattle.mig_base.specs.InputLists.{is_duplex}
use Rattle.mig_base.specs.Transfers.{Transfers, div_ceil, load, takes_part}
use Rattle.mig_base.specs.Bounding.{greatest, limit}

-- the joint limit of a disk lowered to an even number
abbrev pub lowered_limit : Transfers → ℕ → ℕ
lowered_limit graph v = 2 * (limit graph v / 2)

-- limits are not split, and each disk that takes part has one of 2 at least, so that none is lowered to 0
abbrev pub IsLowerable : Transfers → Type 0
IsLowerable graph = (is_duplex graph.disks ≡ false) × ((v : ℕ) → v < length graph.disks → IsTrue (takes_part graph v) → 2 ≤ limit graph v)

-- the greatest quotient by the lowered limits, and 0 where nothing moves
abbrev pub lowered_quotient : Transfers → ℕ
lowered_quotient graph = greatest (map (λ v. div_ceil (load v graph.transfers) (lowered_limit graph v)) (range_with_len 0 (length graph.disks)))

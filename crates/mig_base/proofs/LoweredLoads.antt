-- A load is within the quotient by lowered limits times the lowered limit.
use Rattle.mig_base.proofs.Common.{ℕ, ◌*◌, ◌<◌, ◌≤◌, length, map, arith, range_with_len, length-map-range_with_len, get_or-map-range_with_len}
use Rattle.mig_base.proofs.Common.{mul-le-mul_right, div_ceil_times, div_ceil, load, Transfers}
use Rattle.mig_base.proofs.Copies.{greatest_has}
use Rattle.mig_base.specs.Lowered.{lowered_limit, lowered_quotient}

pub value_within_lowered : (graph : Transfers) (v : ℕ) → v < length graph.disks → div_ceil (load v graph.transfers) (lowered_limit graph v) ≤ lowered_quotient graph
value_within_lowered graph v there =
    let n = length graph.disks in
    let rounds : ℕ → ℕ = λ u. div_ceil (load u graph.transfers) (lowered_limit graph u) in
    omega (arith, greatest_has 0 (map rounds (range_with_len 0 n)) v (omega (arith, there, length-map-range_with_len rounds 0 n)), get_or-map-range_with_len rounds 0 n v v 0 there (omega arith))

pub load_within_lowered : (graph : Transfers) (v : ℕ) → v < length graph.disks → 0 < lowered_limit graph v → load v graph.transfers ≤ lowered_quotient graph * lowered_limit graph v
load_within_lowered graph v there some =
    let t = (div_ceil_times (load v graph.transfers) (lowered_limit graph v) some).0 in
    omega (arith, t, mul-le-mul_right (lowered_limit graph v) (value_within_lowered graph v there))

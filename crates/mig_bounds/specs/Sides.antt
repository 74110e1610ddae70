-- A search of the sides of disks in their order.
use Rattle.std.specs.Prelude.{◌≡◌, ℕ, ◌+◌, ◌*◌, ◌<◌, ◌≤◌, length, Option, MatchOption}
use Rattle.mig_base.specs.declared.certs.Side.{Side}
use Rattle.mig_base.specs.Transfers.{Transfers, side_load}
use Rattle.mig_base.specs.Bounding.{side_place, side_value}
use Rattle.mig_bounds.specs.declared.best.BestSide.{BestSide}

-- the number of a side: disk by disk, outgoing before incoming
abbrev pub side_number : ℕ → Side → ℕ
side_number v side = 2 * v + side_place side

-- the first of the greatest value among the sides below a number
pub record IsBestSide (graph : Transfers) (best : BestSide) (upto : ℕ) : Type 0 where
  pub there : best.disk.0 < length graph.disks
  pub load_is : best.load ≡ side_load best.side best.disk.0 graph.transfers
  pub loaded : 0 < best.load
  pub value_is : best.value ≡ side_value graph best.side best.disk.0
  pub greatest : (v : ℕ) (side : Side) → side_number v side < upto → side_value graph side v ≤ best.value
  pub first : (v : ℕ) (side : Side) → side_number v side < side_number best.disk.0 best.side → side_value graph side v < best.value

-- that, or nothing where none of these sides has a load
abbrev pub IsFirstSide : Transfers → Option BestSide → ℕ → Type 0
IsFirstSide graph best upto = MatchOption best ((v : ℕ) (side : Side) → side_number v side < upto → side_load side v graph.transfers ≡ 0) (λ (b : BestSide). IsBestSide graph b upto)

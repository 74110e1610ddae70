-- What stands between two trails.
use Rattle.std.specs.Prelude.{◌≡◌, ℕ, Bool, List, Option, length}
use Rattle.mig_base.specs.declared.ids.DiskId.{DiskId}
use Rattle.mig_euler.specs.Balance.{AllPassed, AllInRange}
use Rattle.mig_euler.specs.Trails.{IsBalanced}

-- each disk has a place up to which no edge waits at it, and the directions so far are balanced
pub record IsBalancedSoFar (ends : List (DiskId × DiskId)) (directions : List (Option Bool)) (from : List ℕ) : Type 0 where
  pub len : length directions ≡ length ends
  pub in_range : AllInRange ends (length from)
  pub passed : AllPassed ends directions from
  pub even : IsBalanced ends directions

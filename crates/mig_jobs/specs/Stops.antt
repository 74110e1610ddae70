-- Where the shifts of a plan take each item.
use Rattle.std.specs.Prelude.{◌≡◌, ◌<◌, ◌++◌, ℕ, zero, suc, List, [], ◌∷◌, Option, Some, None, length, map, filter, slice_index_or}
use Rattle.std.specs.Option.{option_or}
use Rattle.std.specs.declared.alloc.Global.{Global}
use Rattle.std.specs.declared.vec.Vec.{Vec}
use Rattle.mig_base.specs.declared.ids.Spot.{Spot}
use Rattle.mig_base.specs.declared.ids.Shift.{Shift}
use Rattle.mig_base.specs.InputLists.{InputLists}
use Rattle.mig_base.specs.Layouts.{round_at}
use Rattle.mig_base.specs.Running.{is_of}
use Rattle.mig_jobs.specs.declared.stops.Waypoint.{Waypoint}

-- where a shift of a round takes its item
abbrev pub waypoint_of : ℕ → Shift → Waypoint
waypoint_of round s = record { round = round; spot = s.to }

-- where a round's shifts take an item
abbrev pub waypoints_by : ℕ → List Shift → ℕ → List Waypoint
waypoints_by round shifts item = map (waypoint_of round) (filter (is_of item) shifts)

-- where those of the first r rounds do
abbrev pub waypoints_in : List (List Shift) → ℕ → ℕ → List Waypoint
waypoints_in plan zero item = []
waypoints_in plan (suc r) item = waypoints_in plan r item ++ waypoints_by (suc r) (round_at plan (suc r)) item

-- the spot of the last of these stops
abbrev pub last_spot : List Waypoint → Option Spot
last_spot [] = None
last_spot (s ∷ stops) = option_or (last_spot stops) (Some s.spot)

-- for each item where the shifts of the first r rounds take it
pub record AreWaypoints (input : InputLists) (plan : List (List Shift)) (r : ℕ) (rows : List (Vec Waypoint Global)) : Type 0 where
  pub each : length rows ≡ length input.items
  pub row : (item : ℕ) (d : Vec Waypoint Global) → item < length rows → (slice_index_or rows item d).items ≡ waypoints_in plan r item

use Rattle.mig_jobs.proofs.Common.{Global, Vec, Waypoint, get_or, length, take, waypoints_by, ℕ, ◌++◌, ◌<◌, ◌≡◌}
use Rattle.mig_jobs.proofs.stops.add_stops.Given as goal

abbrev pub invariant-loop-s : goal.invariant-loop-s
invariant-loop-s l = record {
  len : length l.rows.items ≡ length l.initial.rows.items;
  rows : (item : ℕ) (d : Vec Waypoint Global) → item < length l.rows.items → (get_or l.rows.items item d).items ≡ (get_or l.initial.rows.items item d).items ++ waypoints_by l.round (take l.s-index l.shifts) item;
}

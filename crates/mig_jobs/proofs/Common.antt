-- The names that many proofs of this crate cite, from one place. Declares nothing.
pub use Rattle.mig_base.proofs.Common.{All, All-append, All-map, Any, Any-from_list_any, At, Bool, Contains, Contains-append_left, Contains-append_right, Contains-get_or}
pub use Rattle.mig_base.proofs.Common.{InputLists, IsInput, IsTaken, IsTrue, List, None, Option, Runs, Some, [], and_parts, ap, append-nil, append_assoc, arith, cases_Bool}
pub use Rattle.mig_base.proofs.Common.{cases_eq, cases_lt, common_steps, cond, cond-false, cond-true, eq-eqb, eqb-true, false, false≢true, filter, filter_passes, flight_of, flights_of, get_or}
pub use Rattle.mig_base.proofs.Common.{get_or_default, inl, inr, is_of, last_target, length, length-append, list_any, map}
pub use Rattle.mig_base.proofs.Common.{ne_eqb, no_spot, not, option_or, refl, round_at, shifts_of, slice_get, slice_get-get_or, slot_of, subst, suc, sym, take, take_all, take_more}
pub use Rattle.mig_base.proofs.Common.{true, zero, ℕ, ⊎_elim, ◌&&◌, ◌++◌, ◌+◌, ◌-◌, ◌<◌, ◌==◌, ◌||◌, ◌↔◌, ◌∙◌, ◌∷◌, ◌≡◌, ◌≤◌, ◌⊎◌}
pub use Rattle.mig_base.proofs.LayoutSteps.{At-item}
pub use Rattle.mig_base.proofs.Listed.{at_map}
pub use Rattle.mig_base.proofs.Rounds.{any_contains, at_target, contains_any, from_disk, in_some, leaves, moved_cases, to_disk}
pub use Rattle.mig_base.proofs.SafetyLaws.{layout_at, no_round, source_facts, target_facts}
pub use Rattle.mig_base.specs.Arrivals.{IsNamed, IsPlanSpot}
pub use Rattle.mig_base.specs.Layouts.{IsSource, IsTarget}
pub use Rattle.mig_base.specs.Tasks.{IsTask, Task}
pub use Rattle.mig_base.specs.declared.cells.Cell.{Cell}
pub use Rattle.mig_base.specs.declared.ids.Shift.{Shift}
pub use Rattle.mig_base.specs.declared.ids.Spot.{Spot}
pub use Rattle.mig_base.specs.declared.limits.TheConstants.{MAX_FILE_BYTES}
pub use Rattle.mig_jobs.specs.JobTables.{free_targets, same_spot}
pub use Rattle.mig_jobs.specs.Vacancies.{AreVacancies, IsVacant, begun_by, ended_by, ended_in, left_after, left_in, open_in, open_of, table_round, vacancies_in}
pub use Rattle.mig_jobs.specs.declared.vacancies.Vacancy.{Vacancy}
pub use Rattle.mig_jobs.specs.Stops.{AreWaypoints, last_spot, waypoint_of, waypoints_by, waypoints_in}
pub use Rattle.mig_jobs.specs.declared.stops.Waypoint.{Waypoint}
pub use Rattle.std.proofs.Common.{Global, Vec, leb, of_calls, rules}
pub use Rattle.std.proofs.lemmas.Bool.{le-leb, leb-false, leb-true}
pub use Rattle.std.proofs.lemmas.List.{get_or-append_right, get_or_append_left}
pub use Rattle.std.proofs.lemmas.List.Sorted.{IsPartitionPoint-from_clause}
pub use Rattle.std.specs.List.Sorted.{IsPartitionPoint, IsPartitionedBy}
pub use Rattle.std.proofs.lemmas.Grind.{flat_map-append}
pub use Rattle.std.proofs.lemmas.List.Folds.{list_any-append, list_any_at}
pub use Rattle.std.specs.Map.{lookup}

-- The names that the proofs of this crate cite, passed on from one place. Declares nothing.
pub use Rattle.mig_base.proofs.Candidates.{candidate_joint, joint_candidate}
pub use Rattle.mig_base.proofs.Common.{All, All-head, All-map, All-tail, Bool, BoundFits, ByComponent, ByDisk, BySide, ByTriple, Candidate, IsCandidateOf, IsEven, IsTrue, List, Transfers, [], ap}
pub use Rattle.mig_base.proofs.Common.{arith, cases_eq, class_of, disk_at, disk_value, false, false≢true, get_or, get_or-range_with_len, inl, inr, is_duplex, length, length-map}
pub use Rattle.mig_base.proofs.Common.{length-range_with_len, limit, load, map, min, ne_eqb, not, numbers, quotient, range_with_len, refl, subst, suc, sum_by, sum_by-cons, sym, takes_part}
pub use Rattle.mig_base.proofs.Common.{transfer_graph, true, zero, ℕ, ◌%◌, ◌+◌, ◌/◌, ◌<◌, ◌∙◌, ◌∷◌, ◌≡◌, ◌≢◌, ◌≤◌}
pub use Rattle.mig_base.proofs.Copies.{value_within_quotient}
pub use Rattle.mig_base.proofs.Evenness.{class_is_duplex, class_is_even, class_kind}
pub use Rattle.mig_base.proofs.KeptLimits.{kind_at, rounds_for_none}
pub use Rattle.mig_base.proofs.Needed.{needs_bound}
pub use Rattle.mig_base.specs.Bounding.{Best, BoundHolds, IsBest, NamesCandidate}
pub use Rattle.mig_base.specs.Certificates.{IsOfKind, is_duplex_class}
pub use Rattle.mig_base.specs.declared.certs.Bound.{Bound}
pub use Rattle.mig_base.specs.declared.certs.Bound.TheVariants.{Nothing, OfDisk, OfSet, OfSide}
pub use Rattle.mig_base.specs.declared.certs.Class.{Class}
pub use Rattle.mig_base.specs.declared.certs.Class.TheVariants.{Duplex, Even, General}
pub use Rattle.mig_base.specs.declared.certs.Side.{Side}
pub use Rattle.mig_base.specs.declared.ids.DiskId.{DiskId}
pub use Rattle.mig_best.specs.Certified.{IsDiskBound}
pub use Rattle.mig_duplex.proofs.Quotients.{greatest_most}
pub use Rattle.std.proofs.Common.{rules}
pub use Rattle.std.proofs.lemmas.List.{get_or-map}
pub use Rattle.std.proofs.lemmas.List.Elements.{All-cons, All-nil}
pub use Rattle.mig_base.proofs.Common.{IsInput, cases_lt, ◌-◌}
pub use Rattle.mig_base.proofs.Scheduled.{obeys, scheduled}
pub use Rattle.mig_base.specs.Bounding.{IsBelow, IsSideCandidate, bound_value, place, set_value, side_value, value}
pub use Rattle.mig_base.specs.MadePlans.{Because, IsPlanOf, IsWithinLowered, Reason}
pub use Rattle.mig_base.specs.Running.{round_of}
pub use Rattle.mig_base.specs.Schedules.{Needs}
pub use Rattle.mig_base.specs.Transfers.{Transfer, div_ceil, rounds_for, side_limit, side_load}
pub use Rattle.mig_base.specs.InputLists.{InputLists, is_split}
pub use Rattle.mig_base.specs.declared.certs.Side.TheVariants.{Incoming, Outgoing}
pub use Rattle.mig_base.specs.declared.ids.Shift.{Shift}
pub use Rattle.mig_base.specs.declared.inputs.Limits.{Limits}
pub use Rattle.mig_base.specs.declared.inputs.Limits.TheVariants.{Joint, Split}
pub use Rattle.std.proofs.Common.{max}
pub use Rattle.mig_base.proofs.Common.{Err, IfOk, IfOk-weaker, Ok, Once, PlanFits, Result, Runs}
pub use Rattle.mig_base.specs.Lowered.{IsLowerable, lowered_quotient}
pub use Rattle.mig_base.specs.Planned.{GoesToTargets, HasNoEmptyRound}
pub use Rattle.mig_plan.proofs.Least.{plan_made}

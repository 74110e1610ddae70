-- The names that the proofs of this crate cite, passed on from one place. Declares nothing.
pub use Rattle.mig_base.proofs.Candidates.{candidate_joint, joint_candidate}
pub use Rattle.mig_base.proofs.Common.{All, All-head, All-tail, AllPairs, Bool, ByComponent, ByDisk, BySide, ByTriple, Candidate, Global, IsDiskSet, IsJointCandidate, IsTrue, List, Option, Some}
pub use Rattle.mig_base.proofs.Common.{Transfers, Transfer, Vec, [], ap, append-nil, arith, cases_eq, cases_lt, cond, count_by, count_by-le-length, disk_at, disk_value, div_ceil, div_ceil_times}
pub use Rattle.mig_base.proofs.Common.{eq-eqb, eqb, eqb-true, false, false≢true, filter, filter-append, get_or, get_or-append_seam, get_or-le-sum_by, get_or-set_other, get_or-set_same}
pub use Rattle.mig_base.proofs.Common.{get_or_append_left, get_or_default, get_or_from_slice_get, has, inl, inr, inside, is_inside, is_split, length, length-append, length-map, length-set}
pub use Rattle.mig_base.proofs.Common.{length-take-le, limit, limit_sum, load, map-append, min, mul-le-mul_left, mul-le-mul_right, nat_tests, ne_eqb, no_disk, not, numbers, range_with_len, refl}
pub use Rattle.mig_base.proofs.Common.{set, set_value, slice_get, slice_get-get_or, slice_get_within, subst, suc, sum_by, sum_by_push, sym, take, take_more, takes_part, touches, true, value}
pub use Rattle.mig_base.proofs.Common.{zero, ℕ, ◌%◌, ◌&&◌, ◌*◌, ◌++◌, ◌+◌, ◌/◌, ◌<◌, ◌==◌, ◌||◌, ◌∙◌, ◌∷◌, ◌≡◌, ◌≢◌, ◌≤◌, ◌⊎◌}
pub use Rattle.mig_base.proofs.Components.{AreLabels, IsComponent-class, bool_same, has_at, has_filter, has_true, increasing_filter}
pub use Rattle.mig_base.proofs.Counting.{at_most_one, differ, div_ceil-le, not_none, one, sum_by-add, sum_by-filter, sum_by-le_each, sum_by-same_each}
pub use Rattle.mig_base.proofs.Elements.{range_more}
pub use Rattle.mig_base.proofs.KeptLimits.{ends_positive, joint_disks, load_within_rounds, rounds_for_joint}
pub use Rattle.mig_base.proofs.Needed.{halved_value}
pub use Rattle.mig_base.specs.Bounding.{IsBelow, IsBest, IsClosed, IsComponent, IsSubset, place}
pub use Rattle.mig_base.specs.declared.ids.DiskId.{DiskId}
pub use Rattle.mig_base.specs.declared.limits.TheConstants.{MAX_ITEMS, MAX_LIMIT}
pub use Rattle.mig_bounds.specs.Components.{AreInsides, AreLimitSums, IsBestOf, candidate_by}
pub use Rattle.mig_bounds.specs.Labels.{IsLabelling, Relabels, labelled}
pub use Rattle.mig_bounds.specs.Pairs.{AreTops, CountsPairs, IsTooLittle, between, joins}
pub use Rattle.mig_bounds.specs.Search.{IsBestBelow, IsBestDisk, IsBestSmall, NoneTakesPart, candidate_of}
pub use Rattle.mig_bounds.specs.declared.best.BestSmall.{BestSmall}
pub use Rattle.mig_bounds.specs.declared.best.SmallSet.{SmallSet}
pub use Rattle.mig_bounds.specs.declared.best.Witness.{Witness}
pub use Rattle.mig_graph.specs.Graphs.{IsGraph}
pub use Rattle.std.proofs.Common.{rules}
pub use Rattle.std.proofs.lemmas.List.{get_or-map}
pub use Rattle.std.proofs.lemmas.Nat.{div-mul-add}
pub use Rattle.std.specs.Prelude.{if◌then◌else◌, slice_index}
pub use Rattle.mig_base.specs.Bounding.{IsCandidateOf, IsSideCandidate, side_place, side_value}
pub use Rattle.mig_base.specs.InputLists.{is_duplex}
pub use Rattle.mig_base.specs.Transfers.{passes, side_limit, side_load}
pub use Rattle.mig_base.specs.declared.certs.Side.{Side}
pub use Rattle.mig_base.specs.declared.certs.Side.TheVariants.{Incoming, Outgoing}
pub use Rattle.mig_bounds.specs.Sides.{IsBestSide, IsFirstSide, side_number}
pub use Rattle.mig_bounds.specs.declared.best.BestSide.{BestSide}

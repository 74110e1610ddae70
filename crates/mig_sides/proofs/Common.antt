-- The names that the proofs of this crate cite, passed on from one place. Declares nothing.
pub use Rattle.mig_base.proofs.Common.{All, Bool, Contains, Contains-append_left, Global, IsSome, List, None, Option, Some, Transfers, Transfer, Vec}
pub use Rattle.mig_base.proofs.Common.{[], ap, arith, cases_eq, cases_lt, cond, count_by-le-length, false, false≢true, get_or, get_or-set_other}
pub use Rattle.mig_base.proofs.Common.{get_or-set_same, get_or_append_left, get_or_default, get_or_from_slice_get, get_or_past, get_or_push, inl, inr}
pub use Rattle.mig_base.proofs.Common.{is_some, length, length-append, length-set, none-some, refl, same_Some, set, slice_get, slice_get_within}
pub use Rattle.mig_base.proofs.Common.{subst, suc, sym, take, take_more, true, zero, ℕ, ◌%◌, ◌++◌, ◌+◌, ◌-◌, ◌/◌, ◌<◌, ◌∙◌, ◌∷◌, ◌≡◌, ◌≢◌, ◌≤◌, ◌⊎◌}
pub use Rattle.mig_base.specs.Sides.{IsTwoSided, Separates}
pub use Rattle.mig_base.specs.declared.ids.DiskId.{DiskId}
pub use Rattle.mig_sides.specs.Climbs.{GoesUpOrDown, IsClimb, IsClimbing, IsWalkBetween}
pub use Rattle.mig_sides.specs.Neighbours.{AreNear, list_at}
pub use Rattle.mig_sides.specs.Reaching.{AreAllApart, IsApartFrom, IsMet, Reaches, child_of}
pub use Rattle.mig_sides.specs.Searches.{AreExplored, AreOnOneSide, AreTrees, HasGrown, IsExplored, IsGrowing, StayReached}
pub use Rattle.mig_sides.specs.Trees.{AreApart, IsParent, IsRooted, IsRootedAt, node_at, unreached}
pub use Rattle.mig_sides.specs.Walks.{IsJoined, IsOddWalk, disk_on}
pub use Rattle.mig_sides.specs.declared.trees.Node.{Node}
pub use Rattle.std.proofs.lemmas.List.Elements.{Contains-append_cases, Contains-push}
pub use Rattle.std.proofs.lemmas.List.Sums.{sum_by-set}
pub use Rattle.std.specs.Option.{is_none}
pub use Rattle.mig_base.proofs.Common.{eqb, map, nat_tests, not}
pub use Rattle.mig_sides.specs.Trees.{is_odd_node}
pub use Rattle.mig_sides.specs.Searches.{AreAllReached}
pub use Rattle.mig_sides.specs.Walks.{side_of}
pub use Rattle.std.proofs.Math.ListN.{get_or-map}
pub use Rattle.std.specs.Option.{MatchOption}
pub use Rattle.std.proofs.lemmas.Option.{MatchOption-at_some}
pub use Rattle.std.proofs.lemmas.List.{take_at}

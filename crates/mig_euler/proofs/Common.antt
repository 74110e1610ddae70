-- The names that the proofs of this crate cite, passed on from one place. Declares nothing.
pub use Rattle.mig_base.proofs.Common.{All, Balances, Bool, Global, IfOk-weaker, List, MatchBool, None, Option, Some, Transfer, Vec, [], add-one, ap, arith, cases_eq, cases_lt, cond, eq-eqb, eqb}
pub use Rattle.mig_base.proofs.Common.{false, get_or, get_or-set_other, get_or-set_same, get_or_default, get_or_past, inl, inr, length, length-map, length-replicate, length-set, map, ne_eqb}
pub use Rattle.mig_base.proofs.Common.{none-some, not, refl, replicate, same_Some, set, slice_get, slice_get-get_or, slice_get_within, subst, suc, sum_by-cons, sym, take, transfer_at, true, zero, ℕ}
pub use Rattle.mig_base.proofs.Common.{◌%◌, ◌+◌, ◌-◌, ◌<◌, ◌∙◌, ◌∷◌, ◌≡◌, ◌≢◌, ◌≤◌, ◌⊎◌}
pub use Rattle.mig_base.proofs.Elements.{slice_get-set_other}
pub use Rattle.mig_base.proofs.SameIds.{same_disk, same_edge}
pub use Rattle.mig_base.specs.declared.ids.DiskId.{DiskId}
pub use Rattle.mig_base.specs.declared.ids.EdgeId.{EdgeId}
pub use Rattle.mig_euler.specs.Balance.{AllInRange, AllPassed, IsWaiting, PassedBelow, pair_head, pair_tail}
pub use Rattle.mig_euler.specs.Links.{AreFirst, AreLinksFrom, IsNextAt, link_at}
pub use Rattle.mig_euler.specs.Pairs.{ArePairs, pair_at, pair_transfer}
pub use Rattle.mig_euler.specs.Ready.{IsBalancedSoFar}
pub use Rattle.mig_euler.specs.Trails.{EndsTrail, IsBalanced, IsTrail, bit, enters, is, leaves, points_forward, total, waits}
pub use Rattle.std.proofs.Common.{rules}
pub use Rattle.std.proofs.lemmas.List.{same_lists, take_at}
pub use Rattle.std.proofs.lemmas.Option.{some_pair_parts}

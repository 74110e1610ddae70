-- The names that the proofs of this crate cite, passed on from one place. Declares nothing.
pub use Rattle.mig_base.proofs.Common.{All, All-map, Bool, Global, InputLists, IsEven, IsInput, List, MatchBool, Transfers, Transfer, Vec, [], ap, append-nil, arith, cases_eq, common_steps, cond}
pub use Rattle.mig_base.proofs.Common.{count_by-le-length, disk_value, div_ceil, eq-eqb, eqb, false, false≢true, filter, filter-append, filter_passes, get_or, get_or-set_other, get_or-set_same}
pub use Rattle.mig_base.proofs.Common.{get_or_default, inl, inr, is_duplex, is_relocated, is_split, length, length-map, length-range_with_len, length-set, length-take-le, load, map, map-append}
pub use Rattle.mig_base.proofs.Common.{most_ends, moves, nat_tests, ne_eqb, no_disk, no_spot, not, quotient, range_with_len, refl, set, source, subst, suc, sum_by_push, sym, take, take_more}
pub use Rattle.mig_base.proofs.Common.{target, touches, transfer_graph, transfer, transfers, true, zero, ℕ, ◌%◌, ◌++◌, ◌+◌, ◌<◌, ◌||◌, ◌↔◌, ◌∙◌, ◌∷◌, ◌≡◌, ◌≢◌, ◌≤◌}
pub use Rattle.mig_base.proofs.Counting.{differ, not_none, one}
pub use Rattle.mig_base.proofs.Elements.{map_same, range_more}
pub use Rattle.mig_base.proofs.KeptLimits.{joint_disks}
pub use Rattle.mig_base.proofs.Rounds.{spot_disk}
pub use Rattle.mig_base.proofs.Scheduled.{moves_there, range_below}
pub use Rattle.mig_base.specs.Bounding.{greatest}
pub use Rattle.mig_base.specs.declared.ids.DiskId.{DiskId}
pub use Rattle.mig_base.specs.declared.ids.Spot.{Spot}
pub use Rattle.mig_base.specs.declared.inputs.Disk.{Disk}
pub use Rattle.mig_graph.specs.Edges.{edge_item, edge_transfer}
pub use Rattle.mig_graph.specs.Graphs.{IsGraph}
pub use Rattle.mig_graph.specs.Kept.{IsCounted, transfers_of}
pub use Rattle.mig_graph.specs.Loads.{AreFewLoads, AreLoads, EvenBy, IsEvenBy, end_on, quotient_by, rounds_by}
pub use Rattle.mig_graph.specs.declared.edges.Edge.{Edge}
pub use Rattle.mig_graph.specs.declared.graphs.Graph.TheInside.{Inside}
pub use Rattle.std.proofs.Common.{max, rules}
pub use Rattle.std.proofs.lemmas.List.FromFn.{map-range_with_len_more}
pub use Rattle.std.proofs.lemmas.List.Sums.{fold_push, length-filter}
pub use Rattle.mig_base.specs.declared.limits.TheConstants.{MAX_ITEMS}
pub use Rattle.mig_base.specs.declared.certs.Side.{Side}
pub use Rattle.mig_base.specs.declared.certs.Side.TheVariants.{Incoming, Outgoing}
pub use Rattle.mig_base.specs.declared.inputs.Limits.{Limits}
pub use Rattle.mig_base.specs.InputLists.{IsDiskInRange}
pub use Rattle.mig_base.specs.declared.inputs.Limits.TheVariants.{Joint, Split}
pub use Rattle.mig_base.proofs.Common.{side_load, passes, rounds_for, sum_by-cons, All-tail}

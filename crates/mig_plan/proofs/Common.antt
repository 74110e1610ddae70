-- The names that the proofs of this crate cite, passed on from one place. Declares nothing.
pub use Rattle.mig_base.proofs.Common.{All, All-append, All-filter, All-map, AreTargets, Balances, Bool, Contains, Contains-append_left, Contains-append_right, Err, Global, IfOk, IfOk-weaker}
pub use Rattle.mig_base.proofs.Common.{InputLists, IsEven, IsInput, IsLimited, KeepsLimits, List, Ok, Once, PlanFits, Result, Runs, Transfers, Transfer, Vec, []}
pub use Rattle.mig_base.proofs.Common.{ap, append-nil, arith, cases_Bool, cases_eq, cases_lt, colour_at, cond, count_by, count_by-le-length}
pub use Rattle.mig_base.proofs.Common.{disk_value, div_ceil, div_ceil_times, drop, eq-eqb, eqb, false, false≢true, fill_by_all, filter, filter-append}
pub use Rattle.mig_base.proofs.Common.{filter_passes, get_or, get_or-le-sum_by, get_or-range_with_len}
pub use Rattle.mig_base.proofs.Common.{get_or-set_other, get_or-set_same, get_or_append_left, get_or_default, get_or_past, get_or_push, incoming, inl, inr, is_duplex, is_forward}
pub use Rattle.mig_base.proofs.Common.{is_of, is_relocated, length, length-append, length-map, length-map-range_with_len, length-range_with_len}
pub use Rattle.mig_base.proofs.Common.{length-set, limit}
pub use Rattle.mig_base.proofs.Common.{load, map, map-append, min, move_at, moves, mul-le-mul_left, mul-le-mul_right, mul_comm, nat_tests, ne_eqb, no_disk, no_spot, not}
pub use Rattle.mig_base.proofs.Common.{present, quotient, range_with_len, refl, replicate, rules, same_Some, set, shift_count, slice_get-get_or, slice_get_within, source, subst, suc}
pub use Rattle.mig_base.proofs.Common.{sum_by, sum_by-append, sum_by-cons, sym, take, take-append-le, take_all, take_more, target, touches, transfer_graph, transfer, transfer_at, transfer_of, transfers, true, zero}
pub use Rattle.mig_base.proofs.Common.{ℕ, ◌&&◌, ◌*◌, ◌++◌, ◌+◌, ◌<◌, ◌||◌, ◌∙◌, ◌∷◌, ◌≡◌, ◌≢◌, ◌≤◌, ◌⊎◌}
pub use Rattle.mig_base.proofs.Copies.{Copied, StandsForEnds, colour_at_disk, copies_of_sides, load_within_quotient}
pub use Rattle.mig_base.proofs.Counting.{ceil_of_none, ceil_within, count_by-filter, count_by-filter-le, one, sum_by-add, sum_by-filter, sum_by-le_each, sum_by-map, sum_by-same_each, sum_by-swap}
pub use Rattle.mig_base.proofs.Elements.{in_range, map_same, range_more}
pub use Rattle.mig_base.proofs.KeptLimits.{keeps_joint}
pub use Rattle.mig_base.proofs.Needed.{needs_disk}
pub use Rattle.mig_base.proofs.Planned.{move_there, partition_is_plan}
pub use Rattle.mig_base.proofs.Room.{lowest_at, some_free}
pub use Rattle.mig_base.proofs.Rounds.{spot_disk}
pub use Rattle.mig_base.proofs.SameIds.{spot_by}
pub use Rattle.mig_base.proofs.Scheduled.{obeys, once_in_range, range_below, scheduled}
pub use Rattle.mig_base.specs.Colourings.{edges_of}
pub use Rattle.mig_base.specs.Directions.{head_of, heads, in_of, out_of, tail_of, tails}
pub use Rattle.mig_base.specs.MadePlans.{Because, IsPlanOf, Reason}
pub use Rattle.mig_base.specs.Planned.{GoesToTargets, HasNoEmptyRound, IsMoveShift, IsPartition, IsPlan, move_shift, target_at}
pub use Rattle.mig_base.specs.Running.{round_of}
pub use Rattle.mig_base.specs.Schedules.{Needs}
pub use Rattle.mig_base.specs.Targets.{IsLowestFree}
pub use Rattle.mig_base.specs.declared.ids.Colour.{Colour}
pub use Rattle.mig_base.specs.declared.ids.CopyId.{CopyId}
pub use Rattle.mig_base.specs.declared.ids.DiskId.{DiskId}
pub use Rattle.mig_base.specs.declared.ids.Shift.{Shift}
pub use Rattle.mig_base.specs.declared.ids.Spot.{Spot}
pub use Rattle.mig_base.specs.declared.inputs.Disk.{Disk}
pub use Rattle.mig_base.specs.declared.limits.TheConstants.{MAX_DISKS, MAX_ITEMS}
pub use Rattle.mig_board.specs.Colouring.{Colouring, IsProper, degree_of}
pub use Rattle.mig_board.specs.Growth.{SameGraph}
pub use Rattle.mig_graph.specs.Graphs.{IsGraph}
pub use Rattle.mig_plan.specs.ColourRows.{AreColourRows, colour_row, is_filled, items_of}
pub use Rattle.mig_duplex.specs.Coloured.{AreColours, IsSpread, entering_in, leaving_in}
pub use Rattle.mig_plan.specs.Coloured.{IsDealtBoard, SidesFit}
pub use Rattle.mig_plan.specs.Cursors.{AreFirstTargets, IsFreeFrom, first_moves, spot}
pub use Rattle.mig_plan.specs.TakenSlots.{AreTaken, AreTakenSlots, AreWidths, IsFirstFree, is_taken, row_at}
pub use Rattle.mig_split.proofs.Halves.{out_in}
pub use Rattle.mig_split.specs.Copies.{AreShares, first_copy, second_of}
pub use Rattle.mig_split.specs.Dealing.{listed_disk, occurrences}
pub use Rattle.mig_split.specs.Decks.{AreCounts}
pub use Rattle.std.proofs.Common.{vec_len}
pub use Rattle.std.proofs.lemmas.List.{map-id, places, take-append-drop, with_items_is}
pub use Rattle.std.proofs.lemmas.List.Elements.{Contains-append_cases, Contains-push, Contains-push_cases}
pub use Rattle.std.proofs.lemmas.List.FromFn.{take-map-range_with_len}
pub use Rattle.std.proofs.lemmas.List.Sums.{length-filter}
pub use Rattle.std.specs.Vec.{with_items}
pub use Rattle.mig_base.proofs.Common.{All-head, All-tail, IsTrue, takes_part, ◌%◌}
pub use Rattle.mig_base.proofs.Counting.{div_ceil-le}
pub use Rattle.mig_base.proofs.LoweredLoads.{load_within_lowered, value_within_lowered}
pub use Rattle.mig_base.specs.Lowered.{IsLowerable, lowered_limit, lowered_quotient}
pub use Rattle.mig_plan.specs.Coloured.{LeadsAcross}
pub use Rattle.mig_base.specs.Sides.{Separates}
pub use Rattle.mig_sides.specs.Walks.{side_of}
pub use Rattle.mig_base.specs.Bounding.{greatest}
pub use Rattle.std.proofs.Common.{max}
pub use Rattle.std.proofs.lemmas.List.Sums.{fold_push}
pub use Rattle.std.proofs.lemmas.List.FromFn.{map-range_with_len_more}

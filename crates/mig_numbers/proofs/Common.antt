-- The names that most proofs of this crate cite, passed on from one place. Declares nothing.
pub use Rattle.mig_base.proofs.Common.{CertHolds, Contains-append_cases, IsLowestFree, IsMoveShift, IsSchedule, Obeys, get_or-map-range_with_len}
pub use Rattle.mig_base.proofs.Common.{inside, length-map-range_with_len, list_all, move_at, target_at, transfers_in}
pub use Rattle.mig_base.proofs.Planned.{move_relocated, move_there}
pub use Rattle.mig_base.proofs.Room.{lowest_at}
pub use Rattle.mig_base.proofs.Scheduled.{IsShiftedAt, is_at, shifted_first, shifted_round}
pub use Rattle.mig_base.specs.Bounding.{counted_value}
pub use Rattle.mig_base.specs.Judging.{Differ, EndsElsewhere, LeavesElsewhere}
pub use Rattle.mig_best.proofs.Common.{All-map, All-nil, Bound, IsPlanOf, Needs, OfDisk, OfSet, OfSide, bound_value, div_ceil, get_or-map, obeys}
pub use Rattle.mig_best.proofs.Common.{round_of, scheduled, side_limit, side_load, ◌-◌, ◌/◌}
pub use Rattle.mig_best.specs.Certified.{IsCertified}
pub use Rattle.mig_check.proofs.Common.{All, All-head, All-tail, AllPairs, At, Blame, Bool, Cert, Class, ClassDiffers, Contains, Disk, DiskId, Duplex}
pub use Rattle.mig_check.proofs.Common.{Even, FirstBlame, General, IfOk, InputLists, IsArrivedAt, IsDiskSet, IsFirstShift, IsInput, IsLeast, IsLegal}
pub use Rattle.mig_check.proofs.Common.{IsMovedTooOften, IsOver, IsOverLimit, IsSo, IsSpotOf, IsTrue, KeepsLimit, KeepsLimits, LacksSlot, Layout}
pub use Rattle.mig_check.proofs.Common.{Limits, List, LoadDiffers, MovedTooOften, None, NotHere, Nothing, Once, Option, OverLimit, PlanFits}
pub use Rattle.mig_check.proofs.Common.{QuotientDiffers, Runs, Shift, ShiftFits, SlotNotFree, Some, Spot, Transfer, ValueDiffers, WrongEnd, []}
pub use Rattle.mig_check.proofs.Common.{add-one, after_shifts, ap, arith, cases_eq, cases_lt, class_of, cond, count_by, count_by-le-length}
pub use Rattle.mig_check.proofs.Common.{counted_load, disk_at, eq-eqb, false, get_or, get_or-set_other, get_or-set_same, get_or-take, get_or_default}
pub use Rattle.mig_check.proofs.Common.{greatest, inl, inr, is_duplex, is_of, is_relocated, is_split, length, length-map, length-range_with_len}
pub use Rattle.mig_check.proofs.Common.{length-set, length-take, list_any, load, map, map_same, most_ends, moves, nat_tests, no_disk, no_shift}
pub use Rattle.mig_check.proofs.Common.{no_spot, not, numbers, option_map, quotient, range_with_len, refl, round_at, rounds_for, rules, set, shift_at}
pub use Rattle.mig_check.proofs.Common.{shift_count, slice_get, slice_get-get_or, slice_get_within, source, stated_load, subst, suc, sum_by}
pub use Rattle.mig_check.proofs.Common.{sum_by-append, sum_by-cons, sum_by-map, sym, take, take_all, take_more, target, transfer, transfer_graph}
pub use Rattle.mig_check.proofs.Common.{transfer_of, transfers, true, zero, ℕ, ⊎_elim, ◌%◌, ◌*◌, ◌+◌, ◌<◌, ◌||◌, ◌∙◌, ◌∷◌, ◌≡◌, ◌≢◌, ◌≤◌, ◌⊎◌}
pub use Rattle.mig_csv.proofs.Common.{All-append, IsDiskInRange, IsName, IsRoomy, IsSomeAnd, RefusesRoom, Why, append-nil, append_assoc, filter}
pub use Rattle.mig_csv.proofs.Common.{is_err, length-append, map-append, on-ok, one_all, slice_get-map, slots_for, ◌++◌, ◌==◌}
pub use Rattle.mig_drain.proofs.Common.{All-filter, filter-append, filter_passes, flat_map, flat_map-append, length-filter, length-take-le}
pub use Rattle.mig_drain.proofs.Common.{moves_there, range_more, sum_by_more}
pub use Rattle.mig_gen.proofs.MadeLists.{all_of, pairs_of}
pub use Rattle.mig_gen.proofs.MadeNames.{numbered_is_name, same_number}
pub use Rattle.mig_gen.specs.MadeCases.{made_item}
pub use Rattle.mig_numbers.specs.Drains.{IsDrain}
pub use Rattle.mig_numbers.specs.Handed.{AreRows, IsHanded, IsPlanned, IsRow, class_number, covered, found_by, found_of, is_before, is_in_round}
pub use Rattle.mig_numbers.specs.Handed.{is_row_of, plan_rows, row_of, row_spot, row_transfer, rows_for, rows_upto, set_in}
pub use Rattle.mig_numbers.specs.Judged.{AreRightNumbers, AreRowsSound, AreSpelled, HasNoFault, IsBlamed, IsFoundSound, IsRowSound, StandFor}
pub use Rattle.mig_numbers.specs.Judged.{blame_by, cert_by, disk_id, plan_by, right, shape, shape_by, shift_by}
pub use Rattle.mig_numbers.specs.Numbers.{disk_in, input_of, limits_of, next_of, no_item, no_numbers, spot_of}
pub use Rattle.mig_numbers.specs.Refusals.{AreDisksSound, AreFew, AreItemsSound, AreSound, AreThere, IsDiskFault, IsFirstItemFault, IsItemSound}
pub use Rattle.mig_numbers.specs.Refusals.{IsNumbersRefusal, IsRoomFault, IsSizeFault, refused_of}
pub use Rattle.mig_numbers.specs.Rounds.{IsOfPairs, IsScheduled, disk_for, disks_for, item_for, items_for, no_pair, round_for, round_in}
pub use Rattle.mig_numbers.specs.Spelled.{AreSorted, round_shifts}
pub use Rattle.mig_numbers.specs.Tight.{HandsTight}
pub use Rattle.mig_numbers.specs.declared.numbers.DiskNumbers.{DiskNumbers}
pub use Rattle.mig_numbers.specs.declared.numbers.Found.{Found}
pub use Rattle.mig_numbers.specs.declared.numbers.ItemNumbers.{ItemNumbers}
pub use Rattle.mig_numbers.specs.declared.numbers.Judged.{Judged}
pub use Rattle.mig_numbers.specs.declared.numbers.LimitNumbers.{LimitNumbers}
pub use Rattle.mig_numbers.specs.declared.numbers.NumbersRefusal.{NumbersRefusal}
pub use Rattle.mig_numbers.specs.declared.numbers.PairNumbers.{PairNumbers}
pub use Rattle.mig_numbers.specs.declared.numbers.ShiftNumbers.{ShiftNumbers}
pub use Rattle.mig_text.proofs.Common.{MAX_ROUNDS, MAX_SHIFTS, MAX_SLOTS, position_or_len}
pub use Rattle.mig_text.proofs.ShiftCounts.{few_shifts}
pub use Rattle.mig_tight.proofs.Common.{All-contains, Contains-append_left, Contains-append_right, Contains-get_or, IsTightPlan, fill_by_all, parked}
pub use Rattle.std.proofs.Math.Path.{fun_ext}
pub use Rattle.std.proofs.lemmas.Bool.{lt-ltb, ltb-true}
pub use Rattle.std.specs.declared.alloc.Global.{Global}
pub use Rattle.std.specs.declared.vec.Vec.{Vec}

-- The names that many proofs cite, of std and of the definitions of this crate, from one place. Declares nothing.
pub use Rattle.mig_base.specs.Arrivals.{AreFreeZeros, IsHaltSafe, IsNamed, IsReached}
pub use Rattle.mig_base.specs.Bounding.{BoundFits, BoundHolds, ByComponent, ByDisk, BySide, ByTriple, Candidate, IsCandidate, IsCandidateOf, IsClosed, IsComponent, IsEven, IsJointCandidate}
pub use Rattle.mig_base.specs.Bounding.{bound_value, class_of, disk_value, has, is_even, limit, limit_sum, quotient, set_value, side_value, stated_load, value}
pub use Rattle.mig_base.specs.Cells.{cell_len, is_cell, is_slot}
pub use Rattle.mig_base.specs.CertLines.{FitsLine}
pub use Rattle.mig_base.specs.Certificates.{CertHolds, is_duplex_class}
pub use Rattle.mig_base.specs.Checks.{Check, Filled, Free, IsClear, Leaves, Passes, RoundBlame, Single, Within, number}
pub use Rattle.mig_base.specs.Colourings.{IsLimited, colour_at}
pub use Rattle.mig_base.specs.Digits.{number_of}
pub use Rattle.mig_base.specs.Directions.{Balances, is_forward, transfer_at}
pub use Rattle.mig_base.specs.DiskNumbers.{IsDiskSet, numbers}
pub use Rattle.mig_base.specs.Flights.{AreFlights, IsSourceOf, IsTargetOf, after_event, after_events, began, ended, in_flight, is_flight}
pub use Rattle.mig_base.specs.Images.{Image, IsCopy, NoCell, SameBut}
pub use Rattle.mig_base.specs.InputLists.{AreDifferent, InputLists, IsDiskInRange, IsInRange, IsInput, IsLimit, IsSpotOf, disk_at, is_duplex, is_split, most_ends, no_disk, no_spot}
pub use Rattle.mig_base.specs.JobCells.{IsFreeSlot, IsJobCell, IsMark, IsWorkCell, SettlesTo, Tells}
pub use Rattle.mig_base.specs.Journals.{count_of, is_armed, is_marked, is_one}
pub use Rattle.mig_base.specs.Judging.{FirstBlame, IsFirstShift, IsSo, no_shift, order, shift_at}
pub use Rattle.mig_base.specs.Layouts.{At, IsLayout, IsListOf, IsSource, IsTaken, IsTarget, Layout, after_shifts, last_target, round_at}
pub use Rattle.mig_base.specs.Misfits.{FitsAlong, IsLine, IsMisfit, Stops, pieces}
pub use Rattle.mig_base.specs.NameFields.{IsNameCell, padded}
pub use Rattle.mig_base.specs.Naming.{IsName, is_name_byte}
pub use Rattle.mig_base.specs.Planned.{IsMoveShift, IsPartition, IsPlan, PartitionIsPlan, move_at, move_shift, target_at}
pub use Rattle.mig_base.specs.Readiness.{IsShifted, shifts_of}
pub use Rattle.mig_base.specs.Refusals.{Accepted, AcceptedTight, AreListed, Fault, FaultButRoom, FileFault, IsFirstFault, IsNextNamed, IsNotListed, IsSpotNamed, LacksRoom, Precedes, RefusedAs, RefusedTightAs, RowFault, stage_of}
pub use Rattle.mig_base.specs.RoundEvents.{Adds, AreRoundEvents, AreRounds, BeginsRun, flight_of, flights_of}
pub use Rattle.mig_base.specs.RoundStates.{HasDone, IsCopied, IsInUse, IsSourceSlot}
pub use Rattle.mig_base.specs.Rows.{Row, ThreeFiles, disk_of, disks_of, file_bytes, first, fourth, has_sides, header_row, rows_of, second, spot_in_row, third}
pub use Rattle.mig_base.specs.Running.{IsArrivedAt, IsFree, IsLegal, Once, PlanFits, Runs, ShiftFits, is_of, round_of, shift_count, transfer_of}
pub use Rattle.mig_base.specs.Safety.{Contents, HasContents, IsCleanAt, IsSafe, IsSafeAfter, IsSafeAt, IsSound, IsSoundAfter, IsVacated}
pub use Rattle.mig_base.specs.Schedules.{IsSchedule, Needs, Obeys, transfers_in}
pub use Rattle.mig_base.specs.Slots.{IsThere, IsUnused, IsUsed, item_cell, slot_of, zeros}
pub use Rattle.mig_base.specs.Stores.{Changes, ChangesOnly, Ends, IsLeftBut, IsSettled, IsState, LeavesOnly, SettledBut, State, flights}
pub use Rattle.mig_base.specs.Targets.{AreTargets, IsLowestFree, IsRoomy, incoming, present}
pub use Rattle.mig_base.specs.Texts.{CertText, IsCert, PlanText, bound_lines, bound_set, cert_lines, cert_title, class_word, disk_name, item_name, layout_lines, plan_lines, round_lines}
pub use Rattle.mig_base.specs.Texts.{shift_line, side_word, text_of_lines, words}
pub use Rattle.mig_base.specs.Transfers.{IsOverLimit, KeepsLimit, KeepsLimits, Transfers, Transfer, div_ceil, inside, is_inside, is_relocated, load, moves, passes, rounds_for, side_limit, side_load}
pub use Rattle.mig_base.specs.Transfers.{source, takes_part, target, touches, transfer_graph, transfer, transfers}
pub use Rattle.mig_base.specs.declared.blames.Blame.{Blame}
pub use Rattle.mig_base.specs.declared.blames.Blame.TheVariants.{ClassDiffers, EmptyRound, LoadDiffers, Memory, MovedTooOften, NotHere, OverLimit, QuotientDiffers, RoundsDiffer, SlotNotFree}
pub use Rattle.mig_base.specs.declared.blames.Blame.TheVariants.{TwiceInRound, ValueDiffers, WrongEnd}
pub use Rattle.mig_base.specs.declared.cells.Cell.{Cell}
pub use Rattle.mig_base.specs.declared.cells.Cell.TheVariants.{Gate, Head, Mark, Slot}
pub use Rattle.mig_base.specs.declared.cells.Event.{Event}
pub use Rattle.mig_base.specs.declared.cells.Flight.{Flight}
pub use Rattle.mig_base.specs.declared.certs.Bound.{Bound}
pub use Rattle.mig_base.specs.declared.certs.Bound.TheVariants.{Nothing, OfDisk, OfSet, OfSide}
pub use Rattle.mig_base.specs.declared.certs.Cert.{Cert}
pub use Rattle.mig_base.specs.declared.certs.Class.{Class}
pub use Rattle.mig_base.specs.declared.certs.Class.TheVariants.{Duplex, Even, General}
pub use Rattle.mig_base.specs.declared.certs.Side.{Side}
pub use Rattle.mig_base.specs.declared.certs.Side.TheVariants.{Incoming, Outgoing}
pub use Rattle.mig_base.specs.declared.faults.FileKind.{FileKind}
pub use Rattle.mig_base.specs.declared.faults.Why.{Why}
pub use Rattle.mig_base.specs.declared.ids.Colour.{Colour}
pub use Rattle.mig_base.specs.declared.ids.CopyId.{CopyId}
pub use Rattle.mig_base.specs.declared.ids.DiskId.{DiskId}
pub use Rattle.mig_base.specs.declared.ids.EdgeId.{EdgeId}
pub use Rattle.mig_base.specs.declared.ids.ItemId.{ItemId}
pub use Rattle.mig_base.specs.declared.ids.Shift.{Shift}
pub use Rattle.mig_base.specs.declared.ids.Spot.{Spot}
pub use Rattle.mig_base.specs.declared.inputs.Disk.{Disk}
pub use Rattle.mig_base.specs.declared.inputs.Limits.{Limits}
pub use Rattle.mig_base.specs.declared.inputs.Limits.TheVariants.{Joint, Split}
pub use Rattle.mig_base.specs.declared.limits.TheConstants.{MAX_DISKS, MAX_FILE_BYTES, MAX_ITEMS, MAX_LIMIT, MAX_ROUNDS, MAX_SHIFTS, MAX_SLOTS}
pub use Rattle.std.proofs.Common.{All, AllPairs, Bool, Contains, Err, Global, IfErr, IfOk, IfSome, IsSome, IsTrue, List, MatchBool, MatchOption, None, Ok, Option, Result, Some, Vec, [], add-one}
pub use Rattle.std.proofs.Common.{ap, append-nil, append_assoc, arith, codes, cond, count_by, drop, eq-eqb, eqb, eqb-true, false, filter, fold, get_or, if◌then◌else◌, inl, inr, is_ok, is_some}
pub use Rattle.std.proofs.Common.{leb, length, length-append, length-drop, length-set, ltb, map, max, min, nat_eq, not, refl, replicate, rules, set, slice_get, subst, suc, sum, sum_by, sym, take}
pub use Rattle.std.proofs.Common.{true, vec_len, zero, ℕ, ⊎_elim, ◌%◌, ◌&&◌, ◌*◌, ◌++◌, ◌+◌, ◌-◌, ◌/◌, ◌<◌, ◌==◌, ◌^◌, ◌||◌, ◌↔◌, ◌∙◌, ◌∷◌, ◌≡◌, ◌≢◌, ◌≤◌, ◌⊎◌}
pub use Rattle.std.proofs.Math.Nat.{mul-le-mul_left, mul-le-mul_right, mul_comm}
pub use Rattle.std.proofs.Math.Seq.{get_or-append_seam, take-append_seam}
pub use Rattle.std.proofs.lemmas.Bool.{and_from, and_parts, cases_Bool, cases_eq, cases_lt, cases_order, cond-false, cond-true, false_from_ne_true, false≢true, ne_eqb, or_left, or_right}
pub use Rattle.std.proofs.lemmas.Bool.Decides.{nat_tests}
pub use Rattle.std.proofs.lemmas.Fmt.{decimal_by_steps, decimal_injective, length-decimal-le}
pub use Rattle.std.proofs.lemmas.Grind.{common_steps, div_ceil_times}
pub use Rattle.std.proofs.lemmas.List.{drop-replicate, get_or-drop, get_or-map, get_or-replicate, get_or-set_other, get_or-set_same, get_or-take, get_or_append_left, get_or_default, get_or_past}
pub use Rattle.std.proofs.lemmas.List.{get_or_push, length-map, length-replicate, length-take, length-take-le, map-append, same_lists, take-append-le, take-map, take_all, take_more}
pub use Rattle.std.proofs.lemmas.List.Elements.{All-append, All-contains, All-contains_itself, All-filter, All-head, All-map, All-push, All-tail, Contains-append_cases, Contains-append_left}
pub use Rattle.std.proofs.lemmas.List.Elements.{Contains-append_right, Contains-get_or, filter-append, filter_passes, recursion_from_All}
pub use Rattle.std.proofs.lemmas.List.Folds.{Any-from_list_any}
pub use Rattle.std.proofs.lemmas.List.FromFn.{fill_by_all, get_or-map-range_with_len, get_or-range_with_len, length-map-range_with_len, length-range_with_len}
pub use Rattle.std.proofs.lemmas.List.Kept.{AllPairs-filter}
pub use Rattle.std.proofs.lemmas.List.Sorted.{Contains-permutation, IsPermutation-append_right, IsPermutation-refl, IsPermutation-remove, IsPermutation-sym, IsPermutation-trans}
pub use Rattle.std.proofs.lemmas.List.Sorted.{length_permutation}
pub use Rattle.std.proofs.lemmas.List.Sums.{AllPass-from_list_all, count_by-le-length, fold-append, get_or-le-sum_by, passes_at_first, prefix_len-le-length, prefix_len_is, prefix_len_passes}
pub use Rattle.std.proofs.lemmas.List.Sums.{prefix_len_stops, sum_by-append, sum_by-cons, sum_by-take-drop, sum_by-take-le, sum_by_push}
pub use Rattle.std.proofs.lemmas.Map.Views.{Contains-from_any, list_any-from_Contains}
pub use Rattle.std.proofs.lemmas.Option.{get_or_from_slice_get, none-some, same_Some, slice_get-get_or, slice_get-map, slice_get_past, slice_get_read, slice_get_within}
pub use Rattle.std.proofs.lemmas.Result.{IfOk-weaker, MatchResult-weaker, err_from_is_err_and, on_ok_weaker}
pub use Rattle.std.specs.Cmp.Lexicographic.{nat_list_eq_equiv, other_text, pointwise, same_text}
pub use Rattle.std.specs.Fmt.{decimal, digits}
pub use Rattle.std.specs.Int.{bit_at}
pub use Rattle.std.specs.List.{AllByRecursion, AllWithin, AllZip, Any, flat_map, list_all, list_any, position_or_len, prefix_len, range_with_len, remove}
pub use Rattle.std.specs.List.Sorted.{IsPermutation}
pub use Rattle.std.specs.Option.{IsSomeAnd, option_map, option_or}
pub use Rattle.std.specs.Prelude.{slice_set}
pub use Rattle.std.specs.Str.{bytes_eq}

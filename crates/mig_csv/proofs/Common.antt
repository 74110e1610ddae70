-- The names that many proofs of this crate cite, from one place. Declares nothing.
pub use Rattle.csv.proofs.ReadFacts.{on-ok, rows-end, rows-more}
pub use Rattle.csv.specs.Machine.{Read, after_end, ends_at_end, field_after, fields_after, in_field, is_end, next_record, start_field, start_record, step}
pub use Rattle.csv.specs.Reading.{Reached, ReadRecord, ReadsOn, Ready, default_config, has_failed, is_flexible, reader_trim, records, records_from, records_next, stops_reader, strip_bom}
pub use Rattle.csv.specs.Reading.{took_first}
pub use Rattle.csv.specs.Records.{field_at, fields_of}
pub use Rattle.csv.specs.declared.error.ErrorKind.{ErrorKind}
pub use Rattle.csv.specs.declared.parser.Action.{Action}
pub use Rattle.csv.specs.declared.parser.State.{State}
pub use Rattle.csv.specs.declared.reader.Reader.{Reader}
pub use Rattle.mig_base.proofs.Common.{All, All-append, AllZip, Any, AreDifferent, Bool, Contains, IsDiskInRange, IsFirstFault, IsInput, IsLimit, IsName, IsRoomy, IsSomeAnd, IsSpotNamed, ThreeFiles}
pub use Rattle.mig_base.proofs.Common.{InputLists, IsSpotOf, List, MatchOption, None, Option, Some, [], ap, append-nil, append_assoc, arith, cases_eq, common_steps, cond, count_by, count_by-le-length}
pub use Rattle.mig_base.proofs.Common.{disks_of, drop, filter, first, fourth, get_or, get_or-set_other, get_or-set_same, get_or-take, get_or_from_slice_get, header_row, inl, inr, is_relocated}
pub use Rattle.mig_base.proofs.Common.{is_some, length, length-append, length-range_with_len, length-set, map, map-append, nat_tests, no_disk, no_spot, number_of, option_map, range_with_len}
pub use Rattle.mig_base.proofs.Common.{refl, replicate, rows_of, second, set, slice_get, slice_get_within, source, subst, suc, sum_by-cons, sym, take, take-append-le, take-append_seam, target}
pub use Rattle.mig_base.proofs.Common.{third, true, zero, ℕ, ◌&&◌, ◌++◌, ◌+◌, ◌-◌, ◌<◌, ◌==◌, ◌↔◌, ◌∙◌, ◌∷◌, ◌≡◌, ◌≢◌, ◌≤◌, ◌⊎◌}
pub use Rattle.mig_base.proofs.Counting.{count_by-filter}
pub use Rattle.mig_base.proofs.Elements.{one_all, slice_get-set_other, slice_get-set_same}
pub use Rattle.mig_base.proofs.FaultOrder.{Accepted-clean, IsClean, own_stage, refused_in_file, stage_free}
pub use Rattle.mig_base.proofs.Listed.{Accepted-IsInput, AcceptedTight-IsInput, AreListed-unique, at_map, clean_of, is_fault, listed-IsInput, map-name, name_at, name_in_row, one_place, some_and, some_map, zip_length}
pub use Rattle.mig_base.specs.Digits.{IsNumber}
pub use Rattle.mig_base.specs.Refusals.{Accepted, AcceptedTight, AreListed, DisksRowFault, Fault, FaultButRoom, FileFault, HasNumbers, IsFirstCause, IsNextNamed, IsNotListed, IsRowFault, LacksRoom, NextRowFault, NowRowFault}
pub use Rattle.mig_base.specs.Refusals.{Precedes, PrecedesInFile, RefusedAs, RefusedTightAs, disk_width, rank_of, stage_of}
pub use Rattle.mig_base.specs.Rows.{Row, disk_of, has_sides, records_of, spot_in_row}
pub use Rattle.mig_base.specs.Targets.{HasRoom, incoming, present}
pub use Rattle.mig_base.specs.declared.faults.FileKind.{FileKind}
pub use Rattle.mig_base.specs.declared.faults.Why.{Why}
pub use Rattle.mig_base.specs.declared.ids.DiskId.{DiskId}
pub use Rattle.mig_base.specs.declared.ids.Spot.{Spot}
pub use Rattle.mig_base.specs.declared.inputs.Disk.{Disk}
pub use Rattle.mig_base.specs.declared.inputs.Limits.{Limits}
pub use Rattle.mig_base.specs.declared.inputs.Limits.TheVariants.{Joint, Split}
pub use Rattle.mig_base.specs.declared.limits.TheConstants.{MAX_DISKS, MAX_FILE_BYTES, MAX_ITEMS}
pub use Rattle.mig_csv.specs.Listings.{IsListingRefusal, ListingFault, ListingRefusedAs}
pub use Rattle.mig_csv.specs.Lists.{AreNextOf, AreSeen, IsNextOf, RefusesMissing, RefusesRoom, slots_for}
pub use Rattle.mig_csv.specs.Numbers.{AreInRange, AreNumbersOf, limits_by}
pub use Rattle.mig_csv.specs.Opened.{IsOpened}
pub use Rattle.mig_csv.specs.Places.{place_in}
pub use Rattle.mig_csv.specs.Refusals.{DisksFault, IsInputError, IsRefusalOf, IsTightRefusal, NextFault, NowFault, RefusesHeader}
pub use Rattle.mig_csv.specs.Unread.{ReadsRecords, ReadsWithDefaults, all_from, unread_bytes, unread_records}
pub use Rattle.mig_csv.specs.declared.disks.Numbers.{Numbers}
pub use Rattle.mig_csv.specs.declared.errors.InputError.{InputError}
pub use Rattle.std.proofs.Common.{Bor, IsTrue, MatchBool, false, nat_eq, not, rules, slice_index_or, ◌||◌}
pub use Rattle.std.proofs.Math.ListN.{drop_of_length-le}
pub use Rattle.std.proofs.lemmas.Bool.{cases_lt, false≢true, not-false, not-true}
pub use Rattle.std.proofs.lemmas.List.{ext_get_or, get_or-map, length-map, length-take}
pub use Rattle.std.proofs.lemmas.List.Sums.{sum_by-drop_more}
pub use Rattle.std.proofs.lemmas.Option.{slice_get-get_or, slice_get-map}
pub use Rattle.std.proofs.lemmas.Result.{err_from_is_err_and}
pub use Rattle.std.proofs.lemmas.Slice.Zip.{all_zipped_more}
pub use Rattle.std.specs.Cmp.Lexicographic.{nat_list_eq_equiv, pointwise, same_text}
pub use Rattle.std.specs.Prelude.{unwrap_or}
pub use Rattle.std.specs.Result.{is_err}
pub use Rattle.mig_base.proofs.FaultOrder.{OwnFault}
pub use Rattle.mig_base.proofs.Common.{All-map, Contains-from_any, file_bytes, list_any, list_any-from_Contains}
pub use Rattle.std.specs.Prelude.{⊤}

-- The names that the proofs of this crate cite, passed on from one place. Declares nothing.
pub use Rattle.mig_base.proofs.Common.{All, All-push, AllByRecursion, AreDifferent, Contains, Err, FitsAlong, IfOk, InputLists, IsInput, IsLine, IsMisfit, IsName, IsTrue, List, MatchOption, None, Ok}
pub use Rattle.mig_base.proofs.Common.{Once, Option, PlanFits, PlanText, Result, Runs, ShiftFits, Some, Stops, [], ap, append-nil, append_assoc, arith, cases_lt, codes, common_steps, count_by}
pub use Rattle.mig_base.proofs.Common.{count_by-le-length, decimal, decimal_injective, disk_name, eq-eqb, eqb, eqb-true, false, false≢true, get_or, get_or-append_seam, get_or-range_with_len}
pub use Rattle.mig_base.proofs.Common.{get_or_default, get_or_from_slice_get, inl, inr, is_of, is_ok, is_relocated, item_name, length, length-append, length-decimal-le, length-map}
pub use Rattle.mig_base.proofs.Common.{length-range_with_len, map, map-append, no_disk, not, number_of, pieces, plan_lines, range_with_len, recursion_from_All, refl, round_lines, shift_count}
pub use Rattle.mig_base.proofs.Common.{shift_line, shifts_of, slice_get, slice_get_within, subst, suc, sum_by, sum_by-cons, sym, true, words, zero, ℕ, ◌%◌, ◌*◌, ◌++◌, ◌+◌, ◌-◌, ◌/◌, ◌<◌, ◌==◌}
pub use Rattle.mig_base.proofs.Common.{◌^◌, ◌∙◌, ◌∷◌, ◌≡◌, ◌≢◌, ◌≤◌}
pub use Rattle.mig_base.proofs.Counting.{one, sum_by-le_each, sum_by-swap}
pub use Rattle.mig_base.proofs.Separators.{Lacks, Lacks-decimal, after_line, same_words}
pub use Rattle.mig_base.proofs.Spelling.{are_fitting, lacks_test, plan_lacks, round_lacks, rounds_word_lacks, words_lack}
pub use Rattle.mig_base.specs.PlanLines.{End, Head, Last, Move, Over, PlanLine, PlanNext, PlanPlace, Title, Total, before_rounds, before_shifts}
pub use Rattle.mig_base.specs.NextTexts.{next_line}
pub use Rattle.mig_base.specs.Texts.{spot_line, text_of_lines}
pub use Rattle.mig_base.specs.declared.ids.Shift.{Shift}
pub use Rattle.mig_base.specs.declared.inputs.Disk.{Disk}
pub use Rattle.mig_base.specs.declared.limits.TheConstants.{MAX_FILE_BYTES, MAX_ROUNDS, MAX_SHIFTS, MAX_SLOTS}
pub use Rattle.mig_base.specs.declared.names.Name.{Name}
pub use Rattle.mig_text.specs.Digits.{IsNumeralWord}
pub use Rattle.mig_text.specs.Finding.{listed_names}
pub use Rattle.mig_text.specs.PlanParts.{AreRoundsRead, IsHeadLine, IsPlanOpened, IsRoundPart, IsRoundRead, IsShiftLine, head_line, shift_words}
pub use Rattle.mig_text.specs.Reads.{EndsWrong, HasNoBlank, IfLine, IsCountUpTo, IsMiss, IsStop, Left, Misses, Took, TookAll}
pub use Rattle.mig_text.specs.declared.errors.TextError.{TextError}
pub use Rattle.std.proofs.Common.{Bool, Bor, add-zero, cond, drop, fold, is_some, position, rules, take}
pub use Rattle.std.proofs.Math.ListN.{get_or-append, get_or-map}
pub use Rattle.std.proofs.Math.Seq.{drop-cons}
pub use Rattle.std.proofs.lemmas.Bool.Decides.{nat_tests}
pub use Rattle.std.proofs.lemmas.Fmt.{decimal-digits_value, decimal_digit, decimal_nonempty, decimal_step, digits_decimal, digits_value-decimal, first_decimal}
pub use Rattle.std.proofs.lemmas.List.{length-drop, take_all}
pub use Rattle.std.proofs.lemmas.List.Elements.{All-from_recursion}
pub use Rattle.std.proofs.lemmas.List.Splits.{join_with_byte-slice_split, length-slice_split, slice_split_at, slice_split_first, slice_split_none}
pub use Rattle.std.proofs.lemmas.List.Sums.{fails_before_first}
pub use Rattle.std.proofs.lemmas.Option.{cond_some}
pub use Rattle.std.proofs.lemmas.Result.{MatchResult-weaker, err_from_is_err_and}
pub use Rattle.std.proofs.lemmas.Str.Parse.{FoldsDigits, IsDigitsTest, IsNumeralModel, numerals_by_fold}
pub use Rattle.std.specs.Char.{is_ascii_digit}
pub use Rattle.std.specs.Int.{IsInRange}
pub use Rattle.std.specs.List.{join_with_byte, position_or_len, slice_split, zip}
pub use Rattle.std.specs.Option.{option_map_or}

-- The names that the proofs of this crate cite, passed on from one place. Declares nothing.
pub use Rattle.mig_base.proofs.Common.{All, All-push, AllPairs, Bool, InputLists, IsDiskInRange, IsInput, IsName, IsRoomy, IsSomeAnd, IsSpotOf, IsTrue, List, Option, Some, [], ap, append-nil, arith}
pub use Rattle.mig_base.proofs.Common.{cases_lt, common_steps, cond, count_by, decimal, decimal_injective, eq-eqb, false, fill_by_all, flat_map, get_or, get_or-map-range_with_len, incoming, inl}
pub use Rattle.mig_base.proofs.Common.{inr, is_duplex, is_name_byte, is_relocated, is_split, length, length-decimal-le, length-map-range_with_len, length-range_with_len, map, mul-le-mul_left}
pub use Rattle.mig_base.proofs.Common.{nat_tests, no_disk, range_with_len, refl, replicate, slice_get-get_or, subst, suc, sum_by, sum_by-append, sum_by-cons, sym, target, zero, ℕ, ◌%◌, ◌*◌, ◌++◌}
pub use Rattle.mig_base.proofs.Common.{◌+◌, ◌-◌, ◌/◌, ◌<◌, ◌==◌, ◌^◌, ◌∙◌, ◌∷◌, ◌≡◌, ◌≢◌, ◌≤◌}
pub use Rattle.mig_base.proofs.Counting.{count_by-filter-le, one, sum_by-add, sum_by-map, sum_by-same_each}
pub use Rattle.mig_base.proofs.Elements.{map_more, range_append, range_next}
pub use Rattle.mig_base.proofs.KeptLimits.{joint_disks}
pub use Rattle.mig_base.proofs.Scheduled.{once_in_range, range_below}
pub use Rattle.mig_base.specs.declared.ids.DiskId.{DiskId}
pub use Rattle.mig_base.specs.declared.ids.Spot.{Spot}
pub use Rattle.mig_base.specs.declared.inputs.Disk.{Disk}
pub use Rattle.mig_base.specs.declared.limits.TheConstants.{MAX_ITEMS, MAX_SLOTS}
pub use Rattle.mig_base.specs.declared.names.Name.{Name}
pub use Rattle.mig_gen.specs.ByNumber.{next_at, numbered_spot, other}
pub use Rattle.mig_gen.specs.MadeCases.{IsCaseSize, case_of, disks_besides, items_on, made_disk, made_item, next_from, spots_on}
pub use Rattle.std.proofs.Common.{rules}
pub use Rattle.std.proofs.Math.Nat.{div-add-mod, div-lt_iff_lt-mul, mod-lt}
pub use Rattle.std.proofs.lemmas.Bool.{le-ltb, lt-ltb}
pub use Rattle.std.proofs.lemmas.Fmt.{decimal_by_steps}
pub use Rattle.std.proofs.lemmas.List.Concat.{flat_map-append}
pub use Rattle.std.proofs.lemmas.List.Elements.{All-cons, All-nil}
pub use Rattle.std.proofs.lemmas.List.Folds.{flat_map-map, sum_by-replicate}
pub use Rattle.std.proofs.lemmas.List.Sums.{sum_by-le}
pub use Rattle.std.proofs.lemmas.Nat.{div-mul-add, mod-mul-add}
pub use Rattle.std.specs.Char.{is_ascii_alphanumeric}

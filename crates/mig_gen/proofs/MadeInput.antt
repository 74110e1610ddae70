-- A made case keeps what every input keeps.
use Rattle.mig_gen.proofs.Common.{Disk, DiskId, InputLists, IsCaseSize, IsDiskInRange, IsInput, IsName, IsSomeAnd, IsSpotOf, List, MAX_ITEMS, MAX_SLOTS, Name, Option, Some, Spot, ap, arith, case_of}
use Rattle.mig_gen.proofs.Common.{div-add-mod, div-lt_iff_lt-mul, false, get_or-map-range_with_len, is_duplex, is_split, items_on, joint_disks, length, length-map-range_with_len, made_disk}
use Rattle.mig_gen.proofs.Common.{made_item, map, mod-lt, mul-le-mul_left, next_at, no_disk, numbered_spot, other, range_with_len, refl, slice_get-get_or, subst, sym, ℕ, ◌%◌, ◌*◌, ◌-◌, ◌/◌, ◌<◌, ◌∙◌}
use Rattle.mig_gen.proofs.Common.{◌≡◌, ◌≢◌, ◌≤◌}
use Rattle.mig_gen.proofs.MadeLists.{all_of, other_low_high, pairs_of, next_are, spots_are}
use Rattle.mig_gen.proofs.MadeNames.{numbered_is_name, same_number}

module _ (disks per_pair limit : ℕ) (size : IsCaseSize disks per_pair limit) where
  abbrev on_each : ℕ
  on_each = items_on disks per_pair

  abbrev count : ℕ
  count = disks * on_each

  some_on_each : 1 ≤ on_each
  some_on_each = let some = size.some_disks in let many = size.some_items in grind arith

  few_items : count ≤ MAX_ITEMS
  few_items = let few = size.few_items in omega arith

  room : 2 * on_each ≤ MAX_SLOTS
  room = omega (arith, mul-le-mul_left on_each size.some_disks, few_items)

  abbrev by_number : InputLists
  by_number = record {
    disks = map (made_disk limit (2 * on_each)) (range_with_len 0 disks);
    items = map made_item (range_with_len 0 count);
    spots = map (numbered_spot on_each) (range_with_len 0 count);
    next = map (next_at on_each per_pair) (range_with_len 0 count);
  }

  -- the four lists by number are the case
  pub made_is : (a : List Disk) (b : List Name) (s : List Spot) (x : List DiskId) → a ≡ by_number.disks → b ≡ by_number.items → s ≡ by_number.spots → x ≡ by_number.next
      → record { disks = a; items = b; spots = s; next = x } ≡ case_of disks per_pair limit
  made_is a b s x are_disks are_items are_spots are_next =
      let spots = are_spots ∙ sym (spots_are disks per_pair) in
      let next = are_next ∙ sym (next_are disks per_pair) in
      λ i. record { disks = are_disks i; items = are_items i; spots = spots i; next = next i }

  apart : (i j : ℕ) → i < j → numbered_spot on_each i ≢ numbered_spot on_each j
  apart i j lt e =
      let same_disk : i / on_each ≡ j / on_each = ap (λ (s : Spot). s.disk.0) e in
      let same_slot : i % on_each ≡ j % on_each = ap (λ (s : Spot). s.slot) e in
      let a = div-add-mod i on_each in
      let b = div-add-mod j on_each in
      omega (arith, a, b, ap (λ q. on_each * q) same_disk)

  on_disk : (i : ℕ) → i < count → IsSpotOf by_number.disks (numbered_spot on_each i)
  on_disk i lt =
      let at : i / on_each < disks = (div-lt_iff_lt-mul some_on_each).1 lt in
      let within : i / on_each < length by_number.disks = omega (arith, at, length-map-range_with_len (made_disk limit (2 * on_each)) 0 disks) in
      let is = slice_get-get_or by_number.disks (i / on_each) no_disk within ∙ ap Some (get_or-map-range_with_len (made_disk limit (2 * on_each)) 0 disks (i / on_each) (i / on_each) no_disk at (omega arith)) in
      subst (λ (o : Option Disk). IsSomeAnd o (λ disk. i % on_each < disk.slots)) (sym is) (omega (arith, mod-lt i some_on_each, some_on_each))

  goes_to_disk : (i : ℕ) → i < count → other (i / on_each) (i % on_each / per_pair) < length by_number.disks
  goes_to_disk i lt =
      let at : i % on_each / per_pair < disks - 1 = (div-lt_iff_lt-mul size.some_items).1 (mod-lt i some_on_each) in
      omega (arith, at, other_low_high (i / on_each) (i % on_each / per_pair), length-map-range_with_len (made_disk limit (2 * on_each)) 0 disks)

  keeps : IsInput by_number
  keeps = record {
    few_disks = omega (arith, length-map-range_with_len (made_disk limit (2 * on_each)) 0 disks, size.few_disks);
    named_disks = all_of (made_disk limit (2 * on_each)) disks (λ disk. IsName disk.name) (λ i lt. numbered_is_name 100 i refl (omega (arith, lt, size.few_disks)));
    disk_names = pairs_of (made_disk limit (2 * on_each)) disks (λ a b. a.name ≢ b.name) (λ i j lt below e. let same = same_number 100 i j (omega (arith, lt, below, size.few_disks)) (omega (arith, below, size.few_disks)) e in omega (arith, lt, same));
    disk_ranges = all_of (made_disk limit (2 * on_each)) disks IsDiskInRange (λ i lt. ((size.some_limit, size.low_limit), omega (arith, some_on_each), omega (arith, room)));
    one_kind = all_of (made_disk limit (2 * on_each)) disks (λ disk. is_split disk.limits ≡ is_duplex by_number.disks) (λ i lt. sym (joint_disks by_number.disks (all_of (made_disk limit (2 * on_each)) disks (λ disk. is_split disk.limits ≡ false) (λ j l. refl))));
    few_items = omega (arith, length-map-range_with_len made_item 0 count, few_items);
    named_items = all_of made_item count IsName (λ i lt. numbered_is_name 105 i refl (omega (arith, lt, few_items)));
    item_names = pairs_of made_item count (λ a b. a ≢ b) (λ i j lt below e. let same = same_number 105 i j (omega (arith, lt, below, few_items)) (omega (arith, below, few_items)) e in omega (arith, lt, same));
    spots_len = length-map-range_with_len (numbered_spot on_each) 0 count ∙ sym (length-map-range_with_len made_item 0 count);
    next_len = length-map-range_with_len (next_at on_each per_pair) 0 count ∙ sym (length-map-range_with_len made_item 0 count);
    on_disks = all_of (numbered_spot on_each) count (IsSpotOf by_number.disks) on_disk;
    next_disks = all_of (next_at on_each per_pair) count (λ disk. disk.0 < length by_number.disks) goes_to_disk;
    spots_apart = pairs_of (numbered_spot on_each) count (λ a b. a ≢ b) (λ i j lt below. apart i j lt);
  }

  pub is_input : IsInput (case_of disks per_pair limit)
  is_input = subst IsInput (made_is by_number.disks by_number.items by_number.spots by_number.next refl refl refl refl) keeps

  -- the disks have joint limits
  pub is_joint : is_duplex (case_of disks per_pair limit).disks ≡ false
  is_joint = joint_disks (case_of disks per_pair limit).disks (all_of (made_disk limit (2 * items_on disks per_pair)) disks (λ disk. is_split disk.limits ≡ false) (λ j l. refl))

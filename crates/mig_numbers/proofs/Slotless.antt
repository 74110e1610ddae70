-- A schedule is refused for neither slots nor room: each pair has a slot of its own, and there is one for each.
use Rattle.mig_numbers.proofs.Common.{AreFew, Bool, Disk, DiskId, DiskNumbers, InputLists, IsDiskFault, IsFirstItemFault, IsNumbersRefusal, IsOfPairs}
use Rattle.mig_numbers.proofs.Common.{IsRoomFault, IsSizeFault, ItemNumbers, LimitNumbers, List, MAX_SLOTS, NumbersRefusal, PairNumbers, Spot, ap}
use Rattle.mig_numbers.proofs.Common.{arith, disk_at, disk_for, disk_in, disks_for, get_or, get_or-map, get_or-map-range_with_len, get_or-take, inl}
use Rattle.mig_numbers.proofs.Common.{input_of, inr, item_for, items_for, length, length-map, length-map-range_with_len, length-take, made_item, map}
use Rattle.mig_numbers.proofs.Common.{nat_tests, no_disk, no_item, no_numbers, range_with_len, refl, refused_of, slots_for, source, spot_of, subst}
use Rattle.mig_numbers.proofs.Common.{suc, sym, take, target, zero, ℕ, ⊎_elim, ◌+◌, ◌<◌, ◌∙◌, ◌≡◌, ◌≤◌}
use Rattle.mig_csv.proofs.Needs.{left_over, left_over-end, left_over-next, left_over-start}
use Rattle.mig_numbers.specs.declared.numbers.NumbersRefusal.TheVariants.{Memory, NoRoom, SlotTaken, SlotTooHigh, UnknownNext}

slots_le : (on to : DiskId) (v : ℕ) → slots_for on to v ≤ 1
slots_le on to v = grind (arith, nat_tests)

-- an item needs one slot at most, whatever the disk
left_le : (input : InputLists) (v m k : ℕ) → length input.spots ≡ length input.items → k + m ≡ length input.items → left_over input v k ≤ m
left_le input v zero k len e = omega (arith, left_over-end input v k (omega (arith, e)) len)
left_le input v (suc m) k len e = omega (arith, left_over-next input v k (omega (arith, e)) len, slots_le (record { 0 = source input k }) (record { 0 = target input k }) v, left_le input v m (k + 1) len (omega (arith, e)))

abbrev IsOther : NumbersRefusal → Type 0
IsOther Memory = ⊥
IsOther _ = ◌≡◌ {A = ℕ} 0 0

no_limits : LimitNumbers
no_limits = record { out_limit = 0; in_limit = 0 }

module _ (split : Bool) (limits : List LimitNumbers) (pairs : List PairNumbers) where
  abbrev disks : List DiskNumbers
  disks = disks_for limits

  abbrev items : List ItemNumbers
  items = items_for pairs

  items_len : length items ≡ length pairs
  items_len = length-map-range_with_len (item_for pairs) 0 (length pairs)

  slot_at : (k : ℕ) → k < length items → (get_or items k no_item).slot ≡ k
  slot_at k lt = ap (λ (x : ItemNumbers). x.slot) (get_or-map-range_with_len (item_for pairs) 0 (length pairs) k k no_item (omega (arith, lt, items_len)) (omega arith))

  slots_at : (v : ℕ) → v < length disks → (get_or disks v no_numbers).slots ≡ MAX_SLOTS
  slots_at v lt = ap (λ (x : DiskNumbers). x.slots) (get_or-map disk_for limits v no_limits no_numbers (omega (arith, lt, length-map limits disk_for)))

  not_high : (i : ℕ) → AreFew disks items → IsFirstItemFault disks items (SlotTooHigh i) → ⊥
  not_high i few f =
      let h = f.holds no_item in
      omega (arith, f.within, slot_at f.item f.within, slots_at (get_or items f.item no_item).disk h.1, h.2, few.few_items)

  not_taken : (i : ℕ) → IsFirstItemFault disks items (SlotTaken i) → ⊥
  not_taken i f =
      let before = take f.item items in
      let c = (f.holds no_item).3 in
      let j = c.0 in
      let short : j < length before = omega (arith, c.1, length-map before spot_of) in
      let low : j < f.item = omega (arith, short, length-take f.item items, f.within) in
      let same : (get_or before j no_item).slot ≡ (get_or items f.item no_item).slot = ap (λ (s : Spot). s.slot) (sym (get_or-map spot_of before j no_item (spot_of (get_or items f.item no_item)) short) ∙ c.2) in
      omega (arith, low, same, ap (λ (x : ItemNumbers). x.slot) (get_or-take f.item items j no_item low), slot_at j (omega (arith, low, f.within)), slot_at f.item f.within)

  not_full : (k needs slots : ℕ) → AreFew disks items → IsRoomFault (input_of split disks items) (NoRoom k needs slots) → ⊥
  not_full k needs slots few r =
      let input = input_of split disks items in
      let names = length-map-range_with_len made_item 0 (length items) in
      let spots : length (map spot_of items) ≡ length (map made_item (range_with_len 0 (length items))) = length-map items spot_of ∙ sym names in
      let there : k < length disks = omega (arith, r.0, length-map-range_with_len (disk_in split disks) 0 (length disks)) in
      let has : (disk_at input.disks k).slots ≡ MAX_SLOTS = ap (λ (x : Disk). x.slots) (get_or-map-range_with_len (disk_in split disks) 0 (length disks) k k no_disk there (omega arith)) ∙ slots_at k there in
      omega (arith, r.1, r.2, r.3, has, left_over-start input k, left_le input k (length items) 0 spots (omega (arith, names)), few.few_items)

  -- a cause other than want of memory has one of four grounds
  first_of_items : (why : NumbersRefusal) → IsOther why → (IsSizeFault disks items why → ⊥) → (IsDiskFault split disks why → ⊥) → (AreFew disks items → IsFirstItemFault disks items why → ⊥)
      → (AreFew disks items → IsRoomFault (input_of split disks items) why → ⊥) → IsNumbersRefusal split disks items why → ⊥
  first_of_items why o size disk item room h =
      ⊎_elim (λ u. ⊎_elim (λ m. subst IsOther m o) (λ a. ⊎_elim size (λ b. ⊎_elim (λ d. disk d.1) (λ f. item f.0 f.2) b) a) u) (λ r. room r.0.0 r.1) h

  pub slotless : (why : NumbersRefusal) → IsNumbersRefusal split disks items why → IsOfPairs (refused_of why).cause
  slotless (SlotTooHigh i) h = absurd (first_of_items (SlotTooHigh i) refl (λ no. no) (λ no. no) (λ few f. not_high i few f) (λ few no. no) h)
  slotless (SlotTaken i) h = absurd (first_of_items (SlotTaken i) refl (λ no. no) (λ no. no) (λ few f. not_taken i f) (λ few no. no) h)
  slotless (UnknownNext i) h = inr refl
  slotless (NoRoom k needs slots) h = absurd (first_of_items (NoRoom k needs slots) refl (λ no. no) (λ no. no) (λ few f. f.holds no_item) (λ few r. not_full k needs slots few r) h)
  slotless _ h = inl (omega arith)

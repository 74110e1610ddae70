-- Numbers that are sound stand for an input.
use Rattle.mig_numbers.proofs.Common.{AreDisksSound, AreFew, AreItemsSound, Bool, Disk, DiskNumbers, IsDiskInRange, IsInput, IsItemSound, IsName}
use Rattle.mig_numbers.proofs.Common.{IsSomeAnd, IsSpotOf, ItemNumbers, List, Option, Some, Spot, [], all_of, ap, arith, cases_lt, disk_in, false}
use Rattle.mig_numbers.proofs.Common.{get_or, get_or-map, get_or-map-range_with_len, get_or-take, get_or_default, inl, input_of, inr, is_duplex}
use Rattle.mig_numbers.proofs.Common.{is_split, length, length-map, length-map-range_with_len, length-take, limits_of, made_item, map, map-append}
use Rattle.mig_numbers.proofs.Common.{next_of, no_disk, no_item, no_numbers, numbered_is_name, pairs_of, range_with_len, refl, same_number, slice_get}
use Rattle.mig_numbers.proofs.Common.{slice_get-get_or, spot_of, subst, sym, take, true, ℕ, ◌++◌, ◌+◌, ◌<◌, ◌∙◌, ◌∷◌, ◌≡◌, ◌≢◌}
use Rattle.mig_numbers.proofs.Lists.{all_in, next_taken, pairs_in}

pub spots_next : (items : List ItemNumbers) (k : ℕ) (taken : List Spot) (item : ItemNumbers) → taken ≡ map spot_of (take k items) → k < length items → item ≡ get_or items k item
    → taken ++ spot_of item ∷ [] ≡ map spot_of (take (k + 1) items)
spots_next items k taken item e lt here = ap (λ xs. xs ++ spot_of item ∷ []) e ∙ sym (ap (map spot_of) (next_taken items k item lt here) ∙ map-append spot_of (take k items) (item ∷ []))

pub sound_next : (disks : List DiskNumbers) (items : List ItemNumbers) (k : ℕ) (taken : List Spot) (item : ItemNumbers) → taken ≡ map spot_of (take k items) → k < length items → item ≡ get_or items k item
    → AreItemsSound disks items k → IsItemSound disks taken item → AreItemsSound disks items (k + 1)
sound_next disks items k taken item e lt here sound one j d below = elim (cases_lt j k) [
  | inl less ↦ sound j d less
  | inr more ↦
      let same : k ≡ j = omega (arith, below, more) in
      let P : ℕ → Type 0 = λ n. IsItemSound disks (map spot_of (take n items)) (get_or items n d) in
      subst P same (subst (IsItemSound disks (map spot_of (take k items))) (here ∙ get_or_default items k item d lt) (subst (λ spots. IsItemSound disks spots item) e one))
]

kind_of : (split : Bool) (d : DiskNumbers) → is_split (limits_of split d) ≡ split
kind_of false d = refl
kind_of true d = refl

module _ (split : Bool) (disks : List DiskNumbers) (items : List ItemNumbers) (few : AreFew disks items) (disks_sound : AreDisksSound split disks (length disks)) (items_sound : AreItemsSound disks items (length items)) where
  abbrev made : List Disk
  made = map (disk_in split disks) (range_with_len 0 (length disks))

  made_len : length made ≡ length disks
  made_len = length-map-range_with_len (disk_in split disks) 0 (length disks)

  pub made_at : (v : ℕ) → v < length disks → get_or made v no_disk ≡ disk_in split disks v
  made_at v lt = get_or-map-range_with_len (disk_in split disks) 0 (length disks) v v no_disk lt (omega arith)

  made_get : (v : ℕ) → v < length disks → slice_get made v ≡ Some (disk_in split disks v)
  made_get v lt = slice_get-get_or made v no_disk (omega (arith, lt, made_len)) ∙ ap Some (made_at v lt)

  one_kind : (v : ℕ) → v < length disks → is_split (disk_in split disks v).limits ≡ is_duplex made
  one_kind v lt = kind_of split (get_or disks v no_numbers) ∙ sym (ap (λ (d : Disk). is_split d.limits) (made_at 0 (omega (arith, lt))) ∙ kind_of split (get_or disks 0 no_numbers))

  on_disk : (i : ℕ) → i < length items → IsSpotOf made (spot_of (get_or items i no_item))
  on_disk i lt =
      let s = items_sound i no_item lt in
      subst (λ (o : Option Disk). IsSomeAnd o (λ disk. (get_or items i no_item).slot < disk.slots)) (sym (made_get (get_or items i no_item).disk s.on_disk)) s.in_slots

  apart : (i j : ℕ) → i < j → j < length items → spot_of (get_or items i no_item) ≢ spot_of (get_or items j no_item)
  apart i j lt below e =
      let within : i < length (take j items) = omega (arith, lt, below, length-take j items) in
      let before = map spot_of (take j items) in
      let here : get_or before i (spot_of (get_or items j no_item)) ≡ spot_of (get_or items j no_item) =
      get_or-map spot_of (take j items) i no_item (spot_of (get_or items j no_item)) within ∙ ap spot_of (get_or-take j items i no_item lt) ∙ e in
      (items_sound j no_item below).free (i, omega (arith, within, length-map (take j items) spot_of), here)

  pub keeps : IsInput (input_of split disks items)
  keeps = record {
    few_disks = omega (arith, made_len, few.few_disks);
    named_disks = all_of (disk_in split disks) (length disks) (λ disk. IsName disk.name) (λ i lt. numbered_is_name 100 i refl (omega (arith, lt, few.few_disks)));
    disk_names = pairs_of (disk_in split disks) (length disks) (λ a b. a.name ≢ b.name) (λ i j lt below e. let same = same_number 100 i j (omega (arith, lt, below, few.few_disks)) (omega (arith, below, few.few_disks)) e in omega (arith, lt, same));
    disk_ranges = all_of (disk_in split disks) (length disks) IsDiskInRange (λ i lt. disks_sound i no_numbers lt);
    one_kind = all_of (disk_in split disks) (length disks) (λ disk. is_split disk.limits ≡ is_duplex made) one_kind;
    few_items = omega (arith, length-map-range_with_len made_item 0 (length items), few.few_items);
    named_items = all_of made_item (length items) IsName (λ i lt. numbered_is_name 105 i refl (omega (arith, lt, few.few_items)));
    item_names = pairs_of made_item (length items) (λ a b. a ≢ b) (λ i j lt below e. let same = same_number 105 i j (omega (arith, lt, below, few.few_items)) (omega (arith, below, few.few_items)) e in omega (arith, lt, same));
    spots_len = length-map items spot_of ∙ sym (length-map-range_with_len made_item 0 (length items));
    next_len = length-map items next_of ∙ sym (length-map-range_with_len made_item 0 (length items));
    on_disks = all_in spot_of items no_item (IsSpotOf made) on_disk;
    next_disks = all_in next_of items no_item (λ disk. disk.0 < length made) (λ i lt. omega (arith, (items_sound i no_item lt).goes, made_len));
    spots_apart = pairs_in spot_of items no_item (λ a b. a ≢ b) apart;
  }

-- Disks by name.
use Rattle.mig_text.proofs.Common.{All, AreDifferent, Contains, Disk, InputLists, IsInput, IsName, List, Name, Some, [], ap, arith, disk_name, drop, drop-cons, get_or, get_or-map}
use Rattle.mig_text.proofs.Common.{get_or_from_slice_get, length, length-map, map, no_disk, slice_get, slice_get_within, suc, sym, ℕ, ◌++◌, ◌<◌, ◌∙◌, ◌∷◌, ◌≡◌, ◌≢◌}
use Rattle.std.proofs.lemmas.List as lists
use Rattle.mig_text.proofs.Different.{not_before_in}

abbrev pub name_of_disk : Disk → Name
name_of_disk d = d.name

module _ (input : InputLists) (valid : IsInput input) where
  pub at_disk : (k : ℕ) → get_or (map name_of_disk input.disks) k [] ≡ disk_name input k
  at_disk k = get_or-map name_of_disk input.disks k no_disk

  pub are_names : All IsName (map name_of_disk input.disks)
  are_names k d h =
      let lt : k < length input.disks = omega (arith, length-map input.disks name_of_disk) in
      rw (lists.get_or-map name_of_disk input.disks k no_disk d lt) (valid.named_disks k no_disk lt)

  pub different_disks : AreDifferent (map name_of_disk input.disks)
  different_disks i j d less within e =
      let lt : j < length input.disks = omega (arith, length-map input.disks name_of_disk) in
      valid.disk_names i j no_disk less lt
      (sym (lists.get_or-map name_of_disk input.disks i no_disk d (omega arith)) ∙ e ∙ lists.get_or-map name_of_disk input.disks j no_disk d lt)

  pub not_found : (word : List ℕ) → (Contains (map name_of_disk input.disks) word → ⊥) → (d : ℕ) → d < length input.disks → word ≢ disk_name input d
  not_found word none d h e = none (d, omega (arith, length-map input.disks name_of_disk), lists.get_or-map name_of_disk input.disks d no_disk word h ∙ sym e)

  pub found : (word : List ℕ) (k : ℕ) → slice_get (map name_of_disk input.disks) k ≡ Some word → (k < length input.disks) × (word ≡ disk_name input k)
  found word k e = (omega (arith, slice_get_within _ k word e, length-map input.disks name_of_disk), sym (get_or_from_slice_get _ k word [] e) ∙ at_disk k)

-- the name of the next disk isn't among those before it
pub next_disk : (disks : List Disk) (table : List (List ℕ)) (i : ℕ) (d : Disk) → AreDifferent (map name_of_disk disks) → table ++ map name_of_disk (drop i disks) ≡ map name_of_disk disks
    → i < length disks → d ≡ get_or disks i d → Contains table d.name → ⊥
next_disk disks table i d apart so_far lt is =
    let rest : map name_of_disk (drop i disks) ≡ d.name ∷ map name_of_disk (drop (suc i) disks) = ap (map name_of_disk) (drop-cons disks i d lt ∙ ap (λ x. x ∷ drop (suc i) disks) (sym is)) in
    not_before_in (map name_of_disk disks) table d.name (map name_of_disk (drop (suc i) disks)) apart (sym (ap (λ t. table ++ t) rest) ∙ so_far)

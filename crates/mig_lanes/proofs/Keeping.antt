-- The copies of a round keep the limits that its shifts keep.
use Rattle.mig_lanes.proofs.Common.{All, AllPairs, AreWithinLimits, InputLists, KeepsLimits, List, Shift, Slot, Spot, Transfer, [], and_parts, arith, bytes_eq, disk_of_cell, false_from_ne_true}
use Rattle.mig_lanes.proofs.Common.{flights_of, get_or, is_cell-same, length, map, no_disk, refl, same_text, slot_of, subst, suc, sym, transfer_of, transfer_of_flight, true, ℕ, ◌<◌, ◌∷◌, ◌≡◌, ◌≢◌}
use Rattle.std.proofs.lemmas.List.Sums.{position_or_len_is}  -- the first place that passes

-- each end of each shift is on a disk of the input
abbrev pub AreOnDisks : InputLists → List Shift → Type 0
AreOnDisks input shifts = All (λ s. (s.from.disk.0 < length input.disks) × (s.to.disk.0 < length input.disks)) shifts

same_name : (d : List ℕ) → bytes_eq d d ≡ true
same_name d = (and_parts _ _ (is_cell-same (Slot d 0) (Slot d 0) refl)).0

module _ (input : InputLists) (names : AllPairs (λ a b. a.name ≢ b.name) input.disks) where
  -- a slot's disk is found by its name
  pub disk_found : (spot : Spot) → spot.disk.0 < length input.disks → disk_of_cell input.disks (slot_of input spot) ≡ spot.disk.0
  disk_found spot lt = position_or_len_is (λ disk. bytes_eq (get_or input.disks spot.disk.0 no_disk).name disk.name) input.disks spot.disk.0 no_disk (omega arith)
      (λ k less. false_from_ne_true _ (λ is. names k spot.disk.0 no_disk less lt (sym (same_text (get_or input.disks spot.disk.0 no_disk).name (get_or input.disks k no_disk).name (sym is)))))
      (λ within. same_name (get_or input.disks spot.disk.0 no_disk).name)

  same_transfers : (shifts : List Shift) → AreOnDisks input shifts → map (transfer_of_flight input.disks) (flights_of input shifts) ≡ map transfer_of shifts
  same_transfers [] on = refl
  same_transfers (s ∷ ss) on =
      let here = on 0 s (omega arith) in
      let from = disk_found s.from here.0 in
      let to = disk_found s.to here.1 in
      let rest = same_transfers ss (λ k d lt. on (suc k) d (omega arith)) in
      λ i. record { leaves = from i; reaches = to i } ∷ rest i

  -- what the round keeps is kept by its copies
  pub copies_within : (shifts : List Shift) → AreOnDisks input shifts → KeepsLimits input.disks (map transfer_of shifts) → AreWithinLimits input.disks (flights_of input shifts)
  copies_within shifts on keeps = subst (λ (transfers : List Transfer). KeepsLimits input.disks transfers) (sym (same_transfers shifts on)) keeps

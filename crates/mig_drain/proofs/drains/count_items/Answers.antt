use Rattle.mig_drain.proofs.Common.{All, AreDiskCounts, InputLists, IsInput, IsSpotOf, List, Spot, ap, arith, get_or, get_or_default, length, no_spot, set, spot_disk, subst, sym, take, ℕ, ◌+◌, ◌<◌}
use Rattle.mig_drain.proofs.Common.{◌∙◌, ◌≡◌}
use Rattle.mig_drain.proofs.ReceiverLaws.{counted_few, counted_more}
use Rattle.mig_drain.proofs.drains.count_items.Goals as goal

-- an item's disk is there
disk_there : (input : InputLists) (now : List Spot) (i : ℕ) → IsInput input → now ≡ input.spots → i < length now → (get_or now i no_spot).disk.0 < length input.disks
disk_there input now i is same l = spot_disk input.disks (get_or now i no_spot) (subst (λ (xs : List Spot). All (IsSpotOf input.disks) xs) (sym same) is.on_disks i no_spot l)

counted_so_far : (input : InputLists) (now : List Spot) (i : ℕ) (counts : List ℕ) → now ≡ input.spots → AreDiskCounts (length input.disks) (take i input.spots) counts → AreDiskCounts (length input.disks) (take i now) counts
counted_so_far input now i counts same a = subst (λ (xs : List Spot). AreDiskCounts (length input.disks) (take i xs) counts) (sym same) a

pub overflow_add-index_mut : goal.overflow_add-index_mut
overflow_add-index_mut c =
    let input = c.args.input.now in
    let now = c.now-spot-items.result.now in
    let i = c.loop-spot.spot-index in
    let w = (get_or now i no_spot).disk.0 in
    let counts = c.loop-spot.counts.items in
    let valid = c.now-spot-items.ensures.valid in
    let there : w < length input.disks = disk_there input now i valid c.now-spot-items.ensures.value c.loop-spot-test.true in
    let a : AreDiskCounts (length input.disks) (take i now) counts = counted_so_far input now i counts c.now-spot-items.ensures.value c.loop-spot.invariant in
    let lt : i < length now = c.loop-spot-test.true in
    omega (
      arith,
      c.index_mut.ensures.value,
      get_or_default counts w c.index_mut.result.now 0 (omega (arith, there, a.len)),
      counted_few (length input.disks) now counts i w (omega (arith, lt)) there a,
      lt,
      ap (λ (xs : List Spot). length xs) c.now-spot-items.ensures.value,
      valid.spots_len,
      valid.few_items,
    )

pub loop-spot-preserved : goal.loop-spot-preserved
loop-spot-preserved c =
    let input = c.args.input.now in
    let now = c.now-spot-items.result.now in
    let i = c.loop-spot.spot-index in
    let w = (get_or now i no_spot).disk.0 in
    let counts = c.loop-spot.counts.items in
    let there : w < length input.disks = disk_there input now i c.now-spot-items.ensures.valid c.now-spot-items.ensures.value c.loop-spot-test.true in
    let a : AreDiskCounts (length input.disks) (take i now) counts = counted_so_far input now i counts c.now-spot-items.ensures.value c.loop-spot.invariant in
    subst (λ (xs : List Spot). AreDiskCounts (length input.disks) (take (i + 1) xs) (set counts w (c.index_mut.result.now + 1))) c.now-spot-items.ensures.value
    (counted_more (length input.disks) now counts i (c.index_mut.result.now + 1) c.loop-spot-test.true there
    (ap (λ (m : ℕ). m + 1) (c.index_mut.ensures.value ∙ get_or_default counts w c.index_mut.result.now 0 (omega (arith, there, a.len)))) a)

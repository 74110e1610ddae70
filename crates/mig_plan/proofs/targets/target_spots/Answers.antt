use Rattle.mig_plan.proofs.Common.{AreFirstTargets, AreTakenSlots, Bool, DiskId, Global, InputLists, IsFirstFree, IsFreeFrom, IsInput, List, Spot, Vec, ap, arith, get_or, get_or_default}
use Rattle.mig_plan.proofs.Common.{is_taken, length, row_at, set, subst, sym, target, ℕ, ◌+◌, ◌<◌, ◌∙◌, ◌≡◌}
use Rattle.mig_plan.proofs.SlotLaws.{free_from}
use Rattle.mig_plan.proofs.TargetSteps.{stays, goes, not_full, finish}
use Rattle.mig_plan.proofs.targets.target_spots.Goals as goal
use Rattle.mig_plan.proofs.targets.target_spots.Goals.{then-relocated+in-Some+in_ok-push, else-relocated}

-- the next disk of the item that the loop is at
abbrev next_disk : List DiskId → ℕ → ℕ
next_disk next i = (get_or next i (record { 0 = 0 })).0

record IsHere (input : InputLists) (next : List DiskId) (rows : ℕ) (i : ℕ) : Type 0 where
  item : i < length input.items
  disk : next_disk next i ≡ target input i
  there : next_disk next i < length input.disks
  row : next_disk next i < rows

here : (input : InputLists) (next : List DiskId) (rows i : ℕ) → IsInput input → next ≡ input.next → rows ≡ length input.disks → i < length next → IsHere input next rows i
here input next rows i is same len h =
    let item : i < length input.items = omega (arith, h, ap (λ (x : List DiskId). length x) same, is.next_len) in
    let disk : next_disk next i ≡ target input i = ap (λ (x : List DiskId). next_disk x i) same in
    let there : next_disk next i < length input.disks = omega (arith, disk, is.next_disks i (record { 0 = 0 }) (omega (arith, item, is.next_len))) in
    record { item = item; disk = disk; there = there; row = omega (arith, there, len) }

pub returns : goal.returns
returns c =
    let n = ap (λ (x : List DiskId). length x) c.next-next.ensures.value in
    finish c.args.input.now c.loop-item.item c.loop-item.targets.items c.loop-item.cursors.items (omega (arith, c.loop-item-test.false, c.loop-item.auto.item-end, n, c.next-next.ensures.valid.next_len)) c.loop-item.invariant

pub unreachable-requires : goal.unreachable-requires
unreachable-requires c =
    let input = c.args.input.now in
    let i = c.loop-item.item in
    let next = c.next-next.result.now in
    let rows = c.in_ok-taken.taken.items in
    let taken : AreTakenSlots input rows = c.in_ok-taken.ensures in
    let at = here input next (length rows) i c.next-next.ensures.valid c.next-next.ensures.value taken.len (omega (arith, c.loop-item-test.true)) in
    let v = next_disk next i in
    let row : c.deref.result.now ≡ row_at rows v c.index.result.now = c.deref.ensures.value ∙ ap (λ (r : Vec Bool Global). r.items) c.index.ensures in
    let cursor : c.index-then-relocated.result.now ≡ get_or c.loop-item.cursors.items v 0 = c.index-then-relocated.ensures ∙ get_or_default c.loop-item.cursors.items v _ 0 (omega (arith, at.there, c.loop-item.invariant.cursors_len)) in
    not_full input i c.loop-item.targets.items c.loop-item.cursors.items v (length (row_at rows v c.index.result.now)) at.item (sym c.relocated.ensures ∙ c.if-relocated.true) at.there at.disk (taken.enough v c.index.result.now at.row) c.loop-item.invariant
    (λ s l m. taken.known v s c.index.result.now at.row m (ap (λ (r : List Bool). is_taken r s) (sym row) ∙ c.in_default.ensures s (omega (arith, cursor, l)) (omega (arith, m, ap (λ (r : List Bool). length r) row))))

pub loop-item-preserved : goal.loop-item-preserved
loop-item-preserved c =
    let input = c.args.input.now in
    let i = c.loop-item.item in
    let next = c.next-next.result.now in
    let rows = c.in_ok-taken.taken.items in
    let taken : AreTakenSlots input rows = c.in_ok-taken.ensures in
    let at = here input next (length rows) i c.next-next.ensures.valid c.next-next.ensures.value taken.len (omega (arith, c.loop-item-test.true)) in
    let v = next_disk next i in
    let targets = c.loop-item.targets.items in
    let cursors = c.loop-item.cursors.items in
    elim c.if-relocated.branch [
      | then-relocated+in-Some+in_ok-push w ↦
          let r = w.in-Some.slot in
          let row : w.deref.result.now ≡ row_at rows v w.index.result.now = w.deref.ensures.value ∙ ap (λ (x : Vec Bool Global). x.items) w.index.ensures in
          let cursor : w.index-then-relocated.result.now ≡ get_or cursors v 0 = w.index-then-relocated.ensures ∙ get_or_default cursors v _ 0 (omega (arith, at.there, c.loop-item.invariant.cursors_len)) in
          let first : IsFirstFree (row_at rows v w.index.result.now) (get_or cursors v 0) r = subst (λ (x : List Bool). IsFirstFree x (get_or cursors v 0) r) row (subst (λ (n : ℕ). IsFirstFree w.deref.result.now n r) cursor w.in-Some.ensures) in
          let found : IsFreeFrom input.spots v (get_or cursors v 0) r = free_from input rows v (get_or cursors v 0) r w.index.result.now taken at.row first in
          let all = goes input i targets cursors v r at.item (sym c.relocated.ensures ∙ w.if-relocated.true) at.there at.disk c.loop-item.invariant found in
          subst (λ (xs : Vec Spot Global). AreFirstTargets input (i + 1) xs.items c.if-relocated.cursors.items) (sym w.targets-is)
          (subst (λ (xs : Vec ℕ Global). AreFirstTargets input (i + 1) w.push.new.self.items xs.items) (sym w.cursors-is)
          (subst (λ (ts : List Spot). AreFirstTargets input (i + 1) ts (set cursors v (r + 1))) (sym w.in_ok-push.ensures.items) all))
      | else-relocated w ↦
          let all = stays input i targets cursors (sym c.relocated.ensures ∙ w.if-relocated.false) c.loop-item.invariant in
          subst (λ (xs : Vec Spot Global). AreFirstTargets input (i + 1) xs.items c.if-relocated.cursors.items) (sym w.targets-is)
          (subst (λ (xs : Vec ℕ Global). AreFirstTargets input (i + 1) targets xs.items) (sym w.cursors-is) all)
    ]

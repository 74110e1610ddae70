use Rattle.mig_drain.proofs.Common.{AreSmall, Disk, Incoming, List, Receiver, [], ap, arith, disk_at, filter, free_slots, get_or, get_or_default, incoming_limit, is_other, length, map}
use Rattle.mig_drain.proofs.Common.{no_disk, range_with_len, receiver, refl, side_limit, subst, sym, ◌++◌, ◌-◌, ◌<◌, ◌∙◌, ◌∷◌, ◌≡◌}
use Rattle.mig_drain.proofs.ReceiverLaws.{receivers_more, receivers_same, receivers_small}
use Rattle.mig_base.proofs.SlotCounts.{present_fits}
use Rattle.mig_drain.proofs.receivers.other_disks.Goals as goal
use Rattle.mig_drain.proofs.receivers.other_disks.Goals.{then-v-disk+in_ok-push, else-v-disk}

pub overflow_sub-disks : goal.overflow_sub-disks
overflow_sub-disks c =
    let input = c.args.input.now in
    let v = c.loop-v.v in
    let disks = c.disks-disks.result.now in
    let lt : v < length disks = c.loop-v-test.true in
    let there : v < length input.disks = omega (arith, lt, ap (λ (l : List Disk). length l) c.disks-disks.ensures.value) in
    let at : get_or disks v no_disk ≡ disk_at input.disks v = ap (λ (l : List Disk). get_or l v no_disk) c.disks-disks.ensures.value in
    omega (arith, ap (λ (d : Disk). d.slots) (get_or_default disks v c.index-disks-v.result no_disk lt ∙ at), c.requires.count v there, present_fits input v c.disks-disks.ensures.valid)

pub loop-v-preserved : goal.loop-v-preserved
loop-v-preserved c =
    let input = c.args.input.now in
    let v = c.loop-v.v in
    let disks = c.disks-disks.result.now in
    let lt : v < length disks = c.loop-v-test.true in
    let there : v < length input.disks = omega (arith, lt, ap (λ (l : List Disk). length l) c.disks-disks.ensures.value) in
    let at : get_or disks v no_disk ≡ disk_at input.disks v = ap (λ (l : List Disk). get_or l v no_disk) c.disks-disks.ensures.value in
    elim c.if-v-disk.branch [
      | then-v-disk+in_ok-push w ↦
          let x : Receiver = record { disk = record { 0 = v }; free = (get_or disks v w.index-disks-v.result).slots - get_or c.args.counts.now v 0; limit = w.side_limit.result } in
          let free : (get_or disks v w.index-disks-v.result).slots - get_or c.args.counts.now v 0 ≡ free_slots input v =
          omega (arith, ap (λ (d : Disk). d.slots) (get_or_default disks v w.index-disks-v.result no_disk lt ∙ at), c.requires.count v there) in
          let limit : w.side_limit.result ≡ incoming_limit input v =
          w.side_limit.ensures.limit ∙ ap (λ (d : Disk). side_limit Incoming d.limits) (get_or_default disks v w.index-disks-v-then-v-disk.result no_disk lt ∙ at) in
          ap (λ b. b.items) w.receivers-is ∙ w.in_ok-push.ensures.items ∙ ap (λ (l : List Receiver). l ++ x ∷ []) c.loop-v.invariant ∙ receivers_more input c.args.disk.0 v x w.if-v-disk.true refl free limit
      | else-v-disk w ↦ ap (λ b. b.items) w.receivers-is ∙ c.loop-v.invariant ∙ receivers_same input c.args.disk.0 v w.if-v-disk.false
    ]

pub returns-clause-small : goal.returns-clause-small
returns-clause-small c =
    let input = c.args.input.now in
    let P : List Receiver → Type 0 = λ l. AreSmall l in
    let all : c.loop-v.v ≡ length input.disks = omega (arith, c.loop-v.auto.v-end, c.loop-v-test.false, ap (λ (l : List Disk). length l) c.disks-disks.ensures.value) in
    subst P (sym (c.loop-v.invariant ∙ ap (λ n. map (receiver input) (filter (is_other c.args.disk.0) (range_with_len 0 n))) all)) (receivers_small input c.args.disk.0 c.disks-disks.ensures.valid)

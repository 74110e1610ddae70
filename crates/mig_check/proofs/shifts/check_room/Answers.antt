use Rattle.mig_check.proofs.Common.{Disk, Free, HaveRoom, IsFirstShift, ItemId, LacksSlot, LacksSlotIn, List, Passes, has_spot, layout_of, length, rules, subst}
use Rattle.mig_check.proofs.TakenSpots.{none_mapped, some_mapped, room_free, room_blame}
use Rattle.mig_check.proofs.shifts.check_room.Goals as goal

pub returns : goal.returns
returns c =
    let input = c.args.input.now in
    let layout = layout_of c.args.spots.now in
    let round = c.args.round.now in
    let taken = has_spot c.args.taken.now in
    let filled = has_spot c.find_no_room.new.taken in
    record {
      room = search rules;
      none = none_mapped c.find_no_room.result (HaveRoom c.disks.result.now taken round (length round) filled) (Passes input layout round Free)
          (λ r. room_free input layout taken round c.requires.are filled (subst (λ (d : List Disk). HaveRoom d taken round (length round) filled) c.disks.ensures.value r)) c.find_no_room.ensures.none;
      some = some_mapped c.find_no_room.result (λ (i : ItemId). IsFirstShift round (LacksSlotIn c.disks.result.now taken round) i.0) (λ i. IsFirstShift round (LacksSlot input layout round) i.0)
          (λ i f. room_blame input layout taken round c.requires.are i.0 (subst (λ (d : List Disk). IsFirstShift round (LacksSlotIn d taken round) i.0) c.disks.ensures.value f)) c.find_no_room.ensures.some;
    }

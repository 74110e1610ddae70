use Rattle.mig_numbers.proofs.Common.{Disk, IsRoomFault, RefusesRoom, Why, ap, arith, disk_at, inr, is_at, no_disk, slice_get_within, subst, sym, ◌-◌}
use Rattle.mig_numbers.proofs.Common.{◌∙◌, ◌≡◌}
use Rattle.mig_base.specs.declared.faults.Why.TheVariants.{NoRoom as no_room}
use Rattle.mig_csv.specs.declared.errors.InputError.TheVariants.{Refused}
use Rattle.mig_numbers.specs.declared.numbers.NumbersRefusal.TheVariants.{NoRoom}
use Rattle.mig_numbers.proofs.reading.room_fault.Goals as goal

pub returns-in-Err-Refused-default-default-NoRoom : goal.returns-in-Err-Refused-default-default-NoRoom
returns-in-Err-Refused-default-default-NoRoom c =
    let input = c.args.input.now in
    let at = c.in-Err-Refused-default-default-NoRoom in
    let r : RefusesRoom input (Refused at.field-0-0 at.row (no_room at.field-0-2-0 at.needs at.slots)) =
    subst (RefusesRoom input) (at.field-0-is ∙ ap (λ (w : Why). Refused at.field-0-0 at.row w) at.field-0-2-is) at.ensures.lacking in
    let k = r.1 in
    let within = slice_get_within input.disks k r.2 r.4 in
    let disk : disk_at input.disks k ≡ r.2 = is_at input.disks k no_disk r.2 within r.4 in
    let row : k ≡ at.row - 1 = omega (arith, r.3) in
    inr (subst (λ n. IsRoomFault input (NoRoom n at.needs at.slots)) row (within, r.6, r.7 ∙ sym (ap (λ (d : Disk). d.slots) disk), r.8, r.9))

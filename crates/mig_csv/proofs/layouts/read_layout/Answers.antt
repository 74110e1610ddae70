use Rattle.mig_csv.proofs.Common.{InputLists, arith, err_from_is_err_and, refl}
use Rattle.mig_csv.proofs.Listings.{listing_is_input, listing_of_disks, listing_of_now, sound}
use Rattle.mig_csv.proofs.layouts.read_layout.Goals as goal

pub returns-in_err-listed-clause-refused : goal.returns-in_err-listed-clause-refused
returns-in_err-listed-clause-refused c = grind (arith, err_from_is_err_and, listing_of_disks)

pub returns-in_err-layout-clause-refused : goal.returns-in_err-layout-clause-refused
returns-in_err-layout-clause-refused c = grind (arith, err_from_is_err_and, listing_of_now, sound)

pub input_of-requires : goal.input_of-requires
input_of-requires c =
    let i : InputLists = record { disks = c.in_ok-listed.listed.disks.items; items = c.in_ok-layout.layout.items.items; spots = c.in_ok-layout.layout.spots.items; next = c.in_ok-next.next.items } in
    let d = c.in_ok-listed.ensures in
    let n = c.in_ok-layout.ensures in
    listing_is_input c.args.disks.now c.args.now.now i.disks d.value d.sound i refl n.sound n.items n.spots n.on_disks (rw (← c.deref.ensures.value) c.in_ok-next.ensures.value)

pub returns-clause-listed : goal.returns-clause-listed
returns-clause-listed c =
    let d = c.in_ok-listed.ensures in
    let n = c.in_ok-layout.ensures in
    rw c.input_of.ensures (record {
      sound = sound c.args.disks.now c.args.now.now c.in_ok-listed.listed.disks.items d.value d.sound n.sound;
      disks = d.value;
      items = n.items;
      spots = n.spots;
      next = rw (← c.deref.ensures.value) c.in_ok-next.ensures.value;
    })

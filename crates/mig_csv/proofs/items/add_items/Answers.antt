use Rattle.mig_csv.proofs.Common.{arith, fields_of, is_err, on-ok, refl}
use Rattle.mig_base.specs.declared.faults.Why.TheVariants as why
use Rattle.mig_csv.proofs.ItemFiles.{ItemsSoFar-few, ItemsSoFar-few_names, ItemsSoFar-end, ItemsSoFar-fault, ItemsSoFar-items, ItemsSoFar-on_disks, ItemsSoFar-push, ItemsSoFar-spots, ItemsSoFar-start, not_taken}
use Rattle.mig_csv.proofs.items.add_items.Goals as goal

pub rows-init : goal.rows-init
rows-init c bytes opened = grind (arith, ItemsSoFar-start)

pub returns-clause-listed : goal.returns-clause-listed
returns-clause-listed c bytes opened = grind (arith, ItemsSoFar-items, ItemsSoFar-few, ItemsSoFar-spots, ItemsSoFar-on_disks, ItemsSoFar-end)

pub push-requires : goal.push-requires
push-requires c =
    let e = c.in-Ok.ensures in
    record {
      new_name = rw e.item (e.sound why.DuplicateItem);
      free = not_taken c.args.disks.now.disks.items c.rows.layout.taken (fields_of c.read.new.row) c.in-Ok.found.spot e.spot (e.sound why.SlotTaken);
    }

pub rows-preserved : goal.rows-preserved
rows-preserved c bytes opened = grind (arith, ItemsSoFar-push, fields_of, is_err, on-ok)

pub returns-in-Err-clause-fault : goal.returns-in-Err-clause-fault
returns-in-Err-clause-fault c bytes opened =
    let one = rw c.if-branch.true at c.in_ok-read.ensures.found in
    let f = ItemsSoFar-fault (c.rows.invariant bytes opened) (fields_of c.read.new.row) c.read.new.self c.in-Err.why one c.in-Err.ensures.cause in
    rw (c.refused.ensures, c.len.ensures) (refl, f)

pub read_item-requires-clause-on_disks : goal.read_item-requires-clause-on_disks
read_item-requires-clause-on_disks c = grind arith

pub overflow_cast-len : goal.overflow_cast-len
overflow_cast-len c = grind (arith, ItemsSoFar-few_names)

pub overflow_add-len : goal.overflow_add-len
overflow_add-len c = grind (arith, ItemsSoFar-few_names)

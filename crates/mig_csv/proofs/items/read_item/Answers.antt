use Rattle.mig_csv.proofs.Common.{Contains, Disk, Spot, ap, arith, fields_of, first, get_or_from_slice_get, map, number_of, place_in, refl, second}
use Rattle.mig_csv.proofs.Common.{slice_get_within, subst, sym, third, ◌<◌, ◌∙◌, ◌≡◌}
use Rattle.mig_csv.proofs.DiskRows.{not_found}
use Rattle.mig_csv.proofs.ItemRows.{found_disk, no_disk, none_before, not_too_high, place_taken, rank_small, spot_taken, too_high}
use Rattle.mig_csv.proofs.items.read_item.Goals as goal

pub index-requires : goal.index-requires
index-requires c = grind (arith, found_disk, slice_get_within)

pub overflow_cast-spot : goal.overflow_cast-spot
overflow_cast-spot c = grind (arith, found_disk, slice_get_within)

pub returns-in_default-find-clause-cause : goal.returns-in_default-find-clause-cause
returns-in_default-find-clause-cause c =
    let disks = c.args.disks.now.disks.items in
    let r = fields_of c.args.row.now in
    let name = c.in-Some.ensures in
    let named = c.in-Some-read.ensures in
    let slot = c.in-Some-read_digits.ensures in
    let new : ¬ (Contains c.args.items.now (first r)) = rw (← c.field.ensures, ← name.value) (not_found c.args.items.now c.in-Some.name c.find.result c.find.ensures.found (sym c.is_some.ensures ∙ c.if-is_some.false)) in
    record {
      holds = rw (← c.field-2.ensures, ← named.value) (no_disk disks c.args.disks.now.names c.in-Some-read.disk c.requires.named c.in_default-find.ensures.found);
      first = none_before disks c.args.items.now (map (place_in disks) c.args.taken.now) r 9
          (λ _. omega arith)
          (λ _. sym c.len-2.ensures ∙ c.if-len-ne3.false)
          (λ _. (rw c.field.ensures at (name.valid.0 refl), rw c.field-2.ensures at (named.valid.0 refl)))
          (λ _. rw c.field-3.ensures at (slot.valid.0 refl))
          (λ _. new)
          (λ lt. absurd (omega (arith, lt)))
          (λ lt. absurd (omega (arith, lt)))
          (λ lt. absurd (omega (arith, lt)));
    }

pub returns-then-slot-from-clause-cause : goal.returns-then-slot-from-clause-cause
returns-then-slot-from-clause-cause c =
    grind (arith, fields_of, not_found, found_disk, get_or_from_slice_get, too_high, none_before, slice_get_within)

pub returns-then-contains-clause-cause : goal.returns-then-contains-clause-cause
returns-then-contains-clause-cause c =
    let disks = c.args.disks.now.disks.items in
    let r = fields_of c.args.row.now in
    let name = c.in-Some.ensures in
    let named = c.in-Some-read.ensures in
    let slot = c.in-Some-read_digits.ensures in
    let new : ¬ (Contains c.args.items.now (first r)) = rw (← c.field.ensures, ← name.value) (not_found c.args.items.now c.in-Some.name c.find.result c.find.ensures.found (sym c.is_some.ensures ∙ c.if-is_some.false)) in
    let f = found_disk disks c.args.disks.now.names c.in-Some-find.place c.in-Some-read.disk c.requires.named c.in-Some-find.ensures.found in
    let second_is : second r ≡ f.0.name = sym c.field-2.ensures ∙ sym named.value ∙ f.2 in
    let slot_is : number_of (third r) ≡ c.in-Some-read_digits.slot = sym (slot.value ∙ ap number_of c.field-3.ensures) in
    let ne = rw c.requires.named at c.in-Some-find.ensures.different in
    let index_is : c.index.result.now ≡ f.0 = c.index.ensures ∙ get_or_from_slice_get disks c.in-Some-find.place f.0 c.index.result.now f.1 in
    let below : c.in-Some-read_digits.slot < f.0.slots = subst (λ (d : Disk). c.in-Some-read_digits.slot < d.slots) index_is (rw c.from.ensures at c.if-slot-from.false) in
    let spot : Spot = record { disk = record { 0 = c.in-Some-find.place }; slot = c.in-Some-read_digits.slot } in
    record {
      holds = rw (second_is, slot_is) (place_taken disks c.args.taken.now spot f.0 f.1 (c.contains.ensures.0 c.if-contains.true));
      first = none_before disks c.args.items.now (map (place_in disks) c.args.taken.now) r 11
          (λ _. omega arith)
          (λ _. sym c.len-2.ensures ∙ c.if-len-ne3.false)
          (λ _. (rw c.field.ensures at (name.valid.0 refl), rw c.field-2.ensures at (named.valid.0 refl)))
          (λ _. rw c.field-3.ensures at (slot.valid.0 refl))
          (λ _. new)
          (λ _. rw second_is (c.in-Some-find.place, f.0, slice_get_within disks c.in-Some-find.place f.0 f.1, get_or_from_slice_get disks c.in-Some-find.place f.0 f.0 f.1, refl))
          (λ _. rw (second_is, slot_is) (not_too_high disks c.in-Some-find.place c.in-Some-read_digits.slot f.0 ne f.1 below))
          (λ lt. absurd (omega (arith, lt)));
    }

pub returns : goal.returns
returns c =
    let disks = c.args.disks.now.disks.items in
    let r = fields_of c.args.row.now in
    let name = c.in-Some.ensures in
    let named = c.in-Some-read.ensures in
    let slot = c.in-Some-read_digits.ensures in
    let new : ¬ (Contains c.args.items.now (first r)) = rw (← c.field.ensures, ← name.value) (not_found c.args.items.now c.in-Some.name c.find.result c.find.ensures.found (sym c.is_some.ensures ∙ c.if-is_some.false)) in
    let f = found_disk disks c.args.disks.now.names c.in-Some-find.place c.in-Some-read.disk c.requires.named c.in-Some-find.ensures.found in
    let second_is : second r ≡ f.0.name = sym c.field-2.ensures ∙ sym named.value ∙ f.2 in
    let slot_is : number_of (third r) ≡ c.in-Some-read_digits.slot = sym (slot.value ∙ ap number_of c.field-3.ensures) in
    let ne = rw c.requires.named at c.in-Some-find.ensures.different in
    let index_is : c.index.result.now ≡ f.0 = c.index.ensures ∙ get_or_from_slice_get disks c.in-Some-find.place f.0 c.index.result.now f.1 in
    let below : c.in-Some-read_digits.slot < f.0.slots = subst (λ (d : Disk). c.in-Some-read_digits.slot < d.slots) index_is (rw c.from.ensures at c.if-slot-from.false) in
    let spot : Spot = record { disk = record { 0 = c.in-Some-find.place }; slot = c.in-Some-read_digits.slot } in
    let none = none_before disks c.args.items.now (map (place_in disks) c.args.taken.now) r 15
    (λ _. omega arith)
    (λ _. sym c.len-2.ensures ∙ c.if-len-ne3.false)
    (λ _. (rw c.field.ensures at (name.valid.0 refl), rw c.field-2.ensures at (named.valid.0 refl)))
    (λ _. rw c.field-3.ensures at (slot.valid.0 refl))
    (λ _. new)
    (λ _. rw second_is (c.in-Some-find.place, f.0, slice_get_within disks c.in-Some-find.place f.0 f.1, get_or_from_slice_get disks c.in-Some-find.place f.0 f.0 f.1, refl))
    (λ _. rw (second_is, slot_is) (not_too_high disks c.in-Some-find.place c.in-Some-read_digits.slot f.0 ne f.1 below))
    (λ _ taken. let t = spot_taken disks c.args.taken.now spot f.0 ne c.requires.on_disks f.1 (rw (second_is, slot_is) at taken) in cc (c.contains.ensures.1 t, c.if-contains.false)) in
    record {
      item = name.value ∙ c.field.ensures;
      spot = (rw f.1 (sym second_is), sym slot_is);
      on_disk = rw f.1 below;
      sound = λ w. none w (rank_small w);
      cause = tt;
    }

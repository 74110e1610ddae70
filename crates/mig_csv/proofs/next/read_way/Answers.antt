use Rattle.mig_csv.proofs.Common.{Contains, arith, fields_of, first, get_or_from_slice_get, refl, slice_get_within, sym, ◌∙◌}
use Rattle.mig_csv.proofs.WayRows.{none_before, not_seen}
use Rattle.mig_csv.proofs.ItemRows.{Contains-at, found_disk, no_disk, rank_small}
use Rattle.mig_csv.proofs.next.read_way.Goals as goal

pub overflow_cast-result : goal.overflow_cast-result
overflow_cast-result c = grind (arith, found_disk, slice_get_within)

pub returns-clause-disk : goal.returns-clause-disk
returns-clause-disk c = grind (arith, fields_of, found_disk)

pub returns-clause-sound : goal.returns-clause-sound
returns-clause-sound c = grind (arith, fields_of, not_seen, found_disk, Contains-at, none_before, slice_get_within, get_or_from_slice_get, rank_small)

pub returns-in_default-find-clause-cause : goal.returns-in_default-find-clause-cause
returns-in_default-find-clause-cause c = λ names seen.
    let disks = c.args.disks.now.disks.items in
    let r = fields_of c.args.row.now in
    let name = c.in-Some.ensures in
    let named = c.in-Some-read.ensures in
    let new : ¬ (Contains names (first r)) = rw (← c.field.ensures, ← name.value) (not_seen c.args.present.now c.args.next.now c.args.seen names c.in-Some.name c.find_with_hint-found.result seen c.find_with_hint-found.ensures.found (rw c.if-has_next.false at c.has_next.ensures)) in
    record {
      holds = rw (← c.field-2.ensures, ← named.value) (no_disk disks c.args.disks.now.names c.in-Some-read.disk c.requires.named c.in_default-find.ensures.found);
      first = none_before disks c.args.present.now names r 9
          (λ _. let rows = seen.count in omega (arith, rows))
          (λ _. sym c.len.ensures ∙ c.if-len-ne2.false)
          (λ _. (rw c.field.ensures at (name.valid.0 refl), rw c.field-2.ensures at (named.valid.0 refl)))
          (λ _. new)
          (λ lt. absurd (omega (arith, lt)))
          (λ lt. absurd (omega (arith, lt)));
    }

pub returns-in_default-found-clause-cause : goal.returns-in_default-found-clause-cause
returns-in_default-found-clause-cause c = grind (arith, fields_of, not_seen, found_disk, none_before, slice_get_within, get_or_from_slice_get)

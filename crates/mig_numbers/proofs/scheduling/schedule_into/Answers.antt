use Rattle.mig_numbers.proofs.Common.{AreSound, DiskNumbers, InputLists, IsCertified, IsRoomy, ItemNumbers, List, arith, disk_for, disks_for, inl}
use Rattle.mig_numbers.proofs.Common.{input_of, inr, item_for, items_for, length, length-map, length-map-range_with_len, made_item, set_in, subst}
use Rattle.mig_numbers.proofs.Common.{sym, ◌∙◌, ◌≡◌}
use Rattle.mig_numbers.proofs.Scheduled.{scheduled_pairs}
use Rattle.mig_numbers.proofs.scheduling.schedule_into.Goals as goal

pub returns-then-pairs-gt-MAX_ITEMS-clause-refused : goal.returns-then-pairs-gt-MAX_ITEMS-clause-refused
returns-then-pairs-gt-MAX_ITEMS-clause-refused c =
    let pairs = c.args.pairs.now in
    inl (inr (inl (
      omega (arith, c.if-limits-gt-MAX_DISKS.false, length-map c.args.limits.now disk_for),
      omega (arith, c.if-pairs-gt-MAX_ITEMS.true, length-map-range_with_len (item_for pairs) 0 (length pairs)),
    )))

pub plan_input-requires : goal.plan_input-requires
plan_input-requires c =
    let read = c.in_ok-input.ensures in
    subst IsRoomy (sym read.input) read.sound.roomy

pub mark_plan-requires-clause-within : goal.mark_plan-requires-clause-within
mark_plan-requires-clause-within c k d lt j e below =
    let read = c.in_ok-input.ensures in
    let pairs = c.args.pairs.now in
    let items : c.deref-2.result.now ≡ items_for pairs = c.deref-2.ensures.value ∙ c.in-Ok-make_movers.ensures in
    let made = subst (λ (i : InputLists). IsCertified i c.in-Ok-plan_input.made.plan c.in-Ok-plan_input.made.cert) read.input c.in-Ok-plan_input.ensures in
    let made2 = subst (λ (is : List ItemNumbers). IsCertified (input_of c.args.split c.deref.result.now is) c.in-Ok-plan_input.made.plan c.in-Ok-plan_input.made.cert) items made in
    omega (arith, (made2.planned.fits.shifts k d lt j e below).item, length-map-range_with_len made_item 0 (length (items_for pairs)), length-map-range_with_len (item_for pairs) 0 (length pairs), c.requires, c.clear.auto.rounds)

pub returns-clause-scheduled : goal.returns-clause-scheduled
returns-clause-scheduled c =
    let read = c.in_ok-input.ensures in
    let split = c.args.split in
    let plan = c.in-Ok-plan_input.made.plan in
    let cert = c.in-Ok-plan_input.made.cert in
    let disks : c.deref.result.now ≡ disks_for c.args.limits.now = c.deref.ensures.value ∙ c.in-Ok.ensures in
    let items : c.deref-2.result.now ≡ items_for c.args.pairs.now = c.deref-2.ensures.value ∙ c.in-Ok-make_movers.ensures in
    let made = subst (λ (i : InputLists). IsCertified i plan cert) read.input c.in-Ok-plan_input.ensures in
    let made2 = subst (λ (is : List ItemNumbers). IsCertified (input_of split c.deref.result.now is) plan cert) items made in
    let sound = subst (λ (is : List ItemNumbers). AreSound split c.deref.result.now is) items read.sound in
    let made3 = subst (λ (ds : List DiskNumbers). IsCertified (input_of split ds (items_for c.args.pairs.now)) plan cert) disks made2 in
    let sound2 = subst (λ (ds : List DiskNumbers). AreSound split ds (items_for c.args.pairs.now)) disks sound in
    record {
      within = set_in cert.bound;
      scheduled = scheduled_pairs split c.args.limits.now c.args.pairs.now plan cert c.found_in.result c.mark_plan.new.rounds sound2 made3 c.found_in.ensures (λ i lt. c.mark_plan.ensures i (omega (arith, lt, c.requires, c.clear.auto.rounds)));
      in_set = c.write_set.ensures;
    }

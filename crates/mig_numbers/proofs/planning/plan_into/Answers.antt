use Rattle.mig_numbers.proofs.Common.{InputLists, IsCertified, arith, plan_rows, set_in, subst}
use Rattle.mig_numbers.proofs.Counts.{few_rows}
use Rattle.mig_numbers.proofs.Kept.{planned}
use Rattle.mig_numbers.proofs.planning.plan_into.Goals as goal

pub returns-clause-planned : goal.returns-clause-planned
returns-clause-planned c =
    let plan = c.in-Ok.made.plan in
    let cert = c.in-Ok.made.cert in
    let split = c.args.split in
    let disks = c.args.disks.now in
    let items = c.args.items.now in
    let made = subst (λ (i : InputLists). IsCertified i plan cert) c.in_ok-input.ensures.input c.in-Ok.ensures in
    record {
      rows = plan_rows plan;
      within = set_in cert.bound;
      planned = planned split disks items plan cert c.found_in.result c.in_ok-input.ensures.sound made c.found_in.ensures;
      in_shifts = c.write_plan.ensures;
      in_set = c.write_set.ensures;
      few = omega (arith, c.write_plan.ensures.count_is, few_rows split disks items plan made.planned);
    }

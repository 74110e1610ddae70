use Rattle.mig_files.proofs.Common.{List, Option, Some, ap, arith, nat_eq, pointwise, ℕ, ◌∙◌}
use Rattle.std.proofs.Common.{not}
use Rattle.std.specs.Option.{option_eq}
use Rattle.mig_files.proofs.SeenItems.{nowhere, at_one, at_two, seen_by}
use Rattle.mig_files.proofs.seen.SeenItems.is_elsewhere.Goals as goal

pub returns-in-0 : goal.returns-in-0
returns-in-0 c =
    let few = c.up_to_two.ensures.few (omega arith) in
    rw (← c.self.view_is) (nowhere c.self.invariant c.args.item.now c.args.slot.now (omega arith))

pub returns-in-1 : goal.returns-in-1
returns-in-1 c =
    let few = c.up_to_two.ensures.few (omega arith) in
    rw (← c.self.view_is) (at_one c.self.invariant c.args.item.now c.args.slot.now (omega arith) c.ne.result
    (c.ne.ensures ∙ ap (λ (o : Option (List ℕ)). not (option_eq (pointwise nat_eq) o (Some c.args.item.now))) (seen_by _ c.args.slot.now c.copied.result (c.copied.ensures ∙ c.get.ensures.value))))

pub returns-in_default : goal.returns-in_default
returns-in_default c = rw (← c.self.view_is) (at_two c.self.invariant c.args.item.now c.args.slot.now (c.up_to_two.ensures.many (omega arith)))

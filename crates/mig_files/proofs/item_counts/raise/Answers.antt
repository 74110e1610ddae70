use Rattle.mig_files.proofs.Common.{arith, rules, ◌+◌}
use Rattle.mig_files.proofs.ItemCounts.{counted_up, raised}
use Rattle.std.proofs.lemmas.Grind.{common_steps}
use Rattle.mig_files.proofs.item_counts.raise.Goals as goal

pub returns-in-Ok-clause-raised : goal.returns-in-Ok-clause-raised
returns-in-Ok-clause-raised c = λ other.
    let h = counted_up c.args.counts.now.entries c.args.item.now in
    raised c.args.counts.now.entries _ c.args.item.now (c.or_insert.result.now + 1) (search rules) (grind (arith, common_steps)) other

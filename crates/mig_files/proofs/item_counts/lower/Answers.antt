use Rattle.mig_files.proofs.Common.{arith, sym, ◌-◌, ap}
use Rattle.std.specs.Prelude.{is_some}
use Rattle.std.specs.Option.{unwrap_or}
use Rattle.mig_files.proofs.ItemCounts.{counted_up, lowered}
use Rattle.mig_files.proofs.item_counts.lower.Goals as goal

pub returns-in-Some : goal.returns-in-Some
returns-in-Some c = λ other.
    let n = c.in-Some.count.now - 1 in
    let is = ap (λ o. unwrap_or o 0) c.in-Some.ensures.value in
    let was = counted_up c.args.counts.now.entries c.args.item.now in
    let updates = (c.get_mut.follows.holds n).3 (ap is_some (sym c.in-Some.ensures.value)) in
    lowered c.args.counts.now.entries (c.get_mut.follows.lender n).entries c.args.item.now n updates.0 (omega (arith, c.requires)) other

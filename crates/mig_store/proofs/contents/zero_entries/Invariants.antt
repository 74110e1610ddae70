use Rattle.mig_store.proofs.Common.{map, take, zero_entry, ◌≡◌}
use Rattle.mig_store.proofs.contents.zero_entries.Given as goal

abbrev pub invariant-loop-cell : goal.invariant-loop-cell
invariant-loop-cell l = l.held.items ≡ map zero_entry (take l.cell-index l.cells)

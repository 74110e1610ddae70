use Rattle.mig_bounds.proofs.Common.{MAX_ITEMS, between, get_or, length, ℕ, ◌<◌, ◌≡◌, ◌≤◌}
use Rattle.mig_bounds.proofs.pairs.tops_of.Given as goal

abbrev pub invariant-loop-a : goal.invariant-loop-a
invariant-loop-a l = record {
  len : length l.tops.items ≡ l.a;
  above : (a b : ℕ) → a < l.a → b < length l.graph.disks → between a b l.graph.transfers ≤ get_or l.tops.items a 0;
  most : (a : ℕ) → a < l.a → get_or l.tops.items a 0 ≤ MAX_ITEMS;
}

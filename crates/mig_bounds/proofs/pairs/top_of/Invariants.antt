use Rattle.mig_bounds.proofs.Common.{MAX_ITEMS, between, ℕ, ◌<◌, ◌≤◌}
use Rattle.mig_bounds.proofs.pairs.top_of.Given as goal

abbrev pub invariant-loop-b : goal.invariant-loop-b
invariant-loop-b l = record { above : (b : ℕ) → b < l.b → between l.a b l.graph.transfers ≤ l.top; most : l.top ≤ MAX_ITEMS }

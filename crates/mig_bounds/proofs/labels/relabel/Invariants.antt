use Rattle.mig_bounds.proofs.Common.{if◌then◌else◌, slice_index, ℕ, ◌<◌, ◌==◌, ◌≡◌, ◌≤◌}
use Rattle.mig_bounds.proofs.labels.relabel.Given as goal

abbrev pub invariant-loop-label : goal.invariant-loop-label
invariant-loop-label l = record {
  done : (v : ℕ) → v < l.label-index → slice_index l.label-items v ≡ (if slice_index l.fn.labels v == l.from then l.to else slice_index l.fn.labels v);
  rest : (v : ℕ) → l.label-index ≤ v → slice_index l.label-items v ≡ slice_index l.fn.labels v;
}

use Rattle.mig_csv.proofs.Common.{incoming, length, present, slice_index_or, ℕ, ◌+◌, ◌≡◌}
use Rattle.mig_csv.proofs.Needs.{left_over}
use Rattle.mig_csv.proofs.room.count_needs.Given as goal

abbrev pub invariant-loop-item : goal.invariant-loop-item
invariant-loop-item l = record {
  len : length l.needs.items ≡ length l.input.disks;
  each : (v : ℕ) → slice_index_or l.needs.items v 0 + left_over l.input v l.item
      ≡ present l.input v + incoming l.input v;
}

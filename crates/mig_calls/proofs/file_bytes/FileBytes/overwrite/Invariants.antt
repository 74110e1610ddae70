use Rattle.mig_calls.proofs.Common.{byte_at, length, take, with_written, ℕ, ◌≡◌}
use Rattle.mig_calls.proofs.file_bytes.FileBytes.overwrite.Given as goal

abbrev pub invariant-loop-k : goal.invariant-loop-k
invariant-loop-k l = record {
  written : (i : ℕ) → byte_at l.self-inside.bytes.items i ≡ with_written l.at (take l.k l.values) (byte_at l.fn.self) i;
  long : length l.self-inside.bytes.items ≡ length l.fn.self;
}

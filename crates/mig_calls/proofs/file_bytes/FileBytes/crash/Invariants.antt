use Rattle.mig_calls.proofs.Common.{byte_at, cond, length, nat_lt, picked_byte, settled_as, ℕ, ◌≡◌}
use Rattle.mig_calls.proofs.file_bytes.FileBytes.crash.Given as goal

abbrev pub invariant-loop-i : goal.invariant-loop-i
invariant-loop-i l = record {
  crashed : (k : ℕ) → byte_at l.self-inside.bytes.items k ≡ cond (nat_lt k l.i) (settled_as (picked_byte l.pick k (byte_at l.fn.self k))) (byte_at l.fn.self k);
  long : length l.self-inside.bytes.items ≡ length l.fn.self;
}

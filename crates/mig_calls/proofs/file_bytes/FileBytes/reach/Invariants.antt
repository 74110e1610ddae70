use Rattle.mig_calls.proofs.Common.{byte_at, length, ℕ, ◌≡◌}
use Rattle.mig_calls.proofs.file_bytes.FileBytes.reach.Given as goal

abbrev pub invariant-loop : goal.invariant-loop
invariant-loop l = record { same : (i : ℕ) → byte_at l.self-inside.bytes.items i ≡ byte_at l.fn.self i; long : length l.self-inside.bytes.items ≡ l.counter }

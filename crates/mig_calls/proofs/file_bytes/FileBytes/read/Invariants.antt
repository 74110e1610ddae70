use Rattle.mig_calls.proofs.Common.{byte_at, get_or, ℕ, ◌+◌, ◌<◌, ◌≡◌}
use Rattle.mig_calls.proofs.file_bytes.FileBytes.read.Given as goal

abbrev pub invariant-loop-i : goal.invariant-loop-i
invariant-loop-i l = (k : ℕ) → k < l.i → get_or l.into k 0 ≡ (byte_at l.fn.self (l.at + k)).shown

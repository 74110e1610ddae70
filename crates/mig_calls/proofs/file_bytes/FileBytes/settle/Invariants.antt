use Rattle.mig_calls.proofs.Common.{drop, map, settled, take, ◌++◌, ◌≡◌}
use Rattle.mig_calls.proofs.file_bytes.FileBytes.settle.Given as goal

abbrev pub invariant-loop-byte : goal.invariant-loop-byte
invariant-loop-byte l = l.byte-items ≡ map settled (take l.byte-index l.initial.byte-items) ++ drop l.byte-index l.initial.byte-items

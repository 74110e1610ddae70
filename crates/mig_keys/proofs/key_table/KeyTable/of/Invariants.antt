use Rattle.mig_keys.proofs.Common.{take, ◌≡◌}
use Rattle.mig_keys.proofs.key_table.KeyTable.of.Given as goal

abbrev pub invariant-loop-key : goal.invariant-loop-key
invariant-loop-key g l = l.table ≡ take l.key-index l.keys

use Rattle.mig_io.proofs.Common.{Consumes, vec_len, ◌-◌, ◌≤◌}
use Rattle.mig_io.proofs.reading.read_first.Given as goal

abbrev pub invariant-loop-piece : goal.invariant-loop-piece
invariant-loop-piece g l = record { most : vec_len l.bytes ≤ l.most; taken : Consumes (g.F.Read.remaining l.initial.file) (g.F.Read.remaining l.file) l.bytes.items }

abbrev pub decreases-loop-piece : goal.decreases-loop-piece
decreases-loop-piece g l = l.most - vec_len l.bytes

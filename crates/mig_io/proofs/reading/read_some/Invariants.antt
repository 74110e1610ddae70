use Rattle.mig_io.proofs.Common.{Keeps, length, ◌≡◌}
use Rattle.mig_io.proofs.reading.read_some.Given as goal

-- a read that was interrupted took nothing
abbrev pub invariant-loop : goal.invariant-loop
invariant-loop g l = Keeps (g.F.Read.remaining l.initial.file) (g.F.Read.remaining l.file) × (length l.piece ≡ length l.initial.piece)

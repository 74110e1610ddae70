use Rattle.mig_jobs.proofs.Common.{AreWaypoints}
use Rattle.mig_jobs.proofs.stops.stops_of.Given as goal

abbrev pub invariant-loop-k : goal.invariant-loop-k
invariant-loop-k l = AreWaypoints l.input l.plan l.k l.rows.items

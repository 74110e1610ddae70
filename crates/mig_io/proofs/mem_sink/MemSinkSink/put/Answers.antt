use Rattle.mig_io.proofs.Common.{rules}
use Rattle.mig_io.proofs.mem_sink.MemSinkSink.put.Goals as goal

pub returns-then-part-bytes-clause-failed : goal.returns-then-part-bytes-clause-failed
returns-then-part-bytes-clause-failed c = search rules

pub returns-clause-succeeds : goal.returns-clause-succeeds
returns-clause-succeeds c = search rules

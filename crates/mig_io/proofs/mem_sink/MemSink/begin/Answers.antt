use Rattle.mig_io.proofs.Common.{rules}
use Rattle.mig_io.proofs.mem_sink.MemSink.begin.Goals as goal

pub returns-clause-counted : goal.returns-clause-counted
returns-clause-counted c = search rules

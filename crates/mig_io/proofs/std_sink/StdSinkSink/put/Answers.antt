use Rattle.mig_io.proofs.Common.{rules}
use Rattle.mig_io.proofs.std_sink.StdSinkSink.put.Goals as goal

pub returns-clause-failed : goal.returns-clause-failed
returns-clause-failed g c = search rules

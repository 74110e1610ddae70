use Rattle.mig_top.proofs.Common.{[], inl}
use Rattle.mig_top.proofs.Steps.{fails_first, then_reads}
use Rattle.mig_top.proofs.tasks.load_job.Goals as goal

pub returns-in_err-bytes-clause-takes : goal.returns-in_err-bytes-clause-takes
returns-in_err-bytes-clause-takes g c = fails_first (c.in_err-bytes.ensures.takes []) c.from_residual.ensures.1 (λ files o s. inl s)

pub returns-clause-takes : goal.returns-clause-takes
returns-clause-takes g c = then_reads _ (c.in_ok-bytes.ensures.takes []) (rw (c.files.ensures, c.deref.ensures.value) at c.job_of.ensures.takes)

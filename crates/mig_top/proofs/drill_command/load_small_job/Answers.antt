use Rattle.mig_top.proofs.Common.{[], inl}
use Rattle.mig_top.proofs.Steps.{fails_first, then_rest}
use Rattle.mig_top.proofs.drill_command.load_small_job.Goals as goal

pub returns-in_err-bytes-clause-takes : goal.returns-in_err-bytes-clause-takes
returns-in_err-bytes-clause-takes g c = fails_first (c.in_err-bytes.ensures.takes []) c.from_residual.ensures.1 (λ files o s. inl (inl s))

pub returns-clause-takes : goal.returns-clause-takes
returns-clause-takes g c = then_rest _ (c.in_ok-bytes.ensures.takes []) (rw (c.files.ensures, c.deref.ensures.value) at c.small_job.ensures.takes)

use Rattle.mig_files.proofs.Common.{seen_in}
use Rattle.mig_files.proofs.Headers.{header_after, free_before}
use Rattle.mig_files.proofs.Grounds.{fault_after}
use Rattle.mig_files.proofs.Errs.{err_any}
use Rattle.mig_store.specs.Grounds.{IsLast}
use Rattle.mig_files.proofs.items.expects_free.Goals as goal

pub check_free-requires-clause-header : goal.check_free-requires-clause-header
check_free-requires-clause-header g c = header_after c.read_part.ensures.step.change c.args.slot.now 34 _ c.in_ok-found.ensures.bytes

pub returns-clause-free : goal.returns-clause-free
returns-clause-free g c = free_before c.read_part.ensures.step.change c.args.seen.now c.args.slot.now c.in_ok-check_free.ensures.free

pub returns-in_err-check_free-clause-cause : goal.returns-in_err-check_free-clause-cause
returns-in_err-check_free-clause-cause g c =
    err_any _ (fault_after (λ image. IsLast image (seen_in c.args.seen.now) c.args.slot.now) c.read_part.ensures.step c.in_err-check_free.ensures.cause)

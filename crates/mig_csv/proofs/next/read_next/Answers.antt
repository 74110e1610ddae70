use Rattle.mig_csv.proofs.Common.{arith, err_from_is_err_and}
use Rattle.mig_csv.proofs.Headers.{refusal_of_header}
use Rattle.mig_csv.proofs.WayRows.{next_has}
use Rattle.mig_csv.proofs.next.read_next.Goals as goal

pub returns-in_err-read_header-clause-fault : goal.returns-in_err-read_header-clause-fault
returns-in_err-read_header-clause-fault c = grind (arith, err_from_is_err_and, refusal_of_header, next_has)

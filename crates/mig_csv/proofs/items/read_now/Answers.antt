use Rattle.mig_csv.proofs.Common.{arith, err_from_is_err_and}
use Rattle.mig_csv.proofs.Headers.{refusal_of_header}
use Rattle.mig_csv.proofs.ItemFiles.{now_has}
use Rattle.mig_csv.proofs.items.read_now.Goals as goal

pub returns-in_err-read_header-clause-fault : goal.returns-in_err-read_header-clause-fault
returns-in_err-read_header-clause-fault c = grind (arith, err_from_is_err_and, refusal_of_header, now_has)

use Rattle.mig_csv.proofs.Common.{rules}
use Rattle.mig_csv.proofs.files.is_header.Goals as goal

pub returns-in-Next : goal.returns-in-Next
returns-in-Next c = search rules

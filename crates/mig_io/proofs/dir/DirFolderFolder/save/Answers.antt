use Rattle.mig_io.proofs.Common.{rules}
use Rattle.mig_io.proofs.dir.DirFolderFolder.save.Goals as goal

pub returns-in-Err-clause-later : goal.returns-in-Err-clause-later
returns-in-Err-clause-later g c = search rules

pub returns-in-Err-clause-failed : goal.returns-in-Err-clause-failed
returns-in-Err-clause-failed g c = search rules

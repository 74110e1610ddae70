use Rattle.mig_journal.proofs.Common.{rules}
use Rattle.mig_journal.proofs.digests.digest_of.Goals as goal

pub returns : goal.returns
returns c = search rules

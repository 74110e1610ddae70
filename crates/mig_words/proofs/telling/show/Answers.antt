use Rattle.mig_words.proofs.Common.{rules}
use Rattle.mig_words.proofs.telling.show.Goals as goal

pub returns-in-Err : goal.returns-in-Err
returns-in-Err g c = search rules

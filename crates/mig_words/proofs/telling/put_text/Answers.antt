use Rattle.mig_words.proofs.Common.{rules}
use Rattle.mig_words.proofs.telling.put_text.Goals as goal

pub returns-in-FolderFault : goal.returns-in-FolderFault
returns-in-FolderFault g c = search rules

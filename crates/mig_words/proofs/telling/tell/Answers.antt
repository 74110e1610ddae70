use Rattle.mig_words.proofs.PutTexts.{puts_begin}
use Rattle.mig_words.proofs.telling.tell.Goals as goal

pub returns-clause-begun : goal.returns-clause-begun
returns-clause-begun g c = puts_begin _ _ _ c.put_text.result c.put_text.ensures

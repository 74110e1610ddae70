use Rattle.mig_c.proofs.HandedBack.{handed_done}
use Rattle.mig_c.proofs.migrate_after.Goals as goal

pub returns-clause-laid_out : goal.returns-clause-laid_out
returns-clause-laid_out c = λ none. let h = handed_done c.call_after.ensures none in (h.0, h.2.0, h.1, h.2.1.0, h.2.2.1, h.2.2.2)

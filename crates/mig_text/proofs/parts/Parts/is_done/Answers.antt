use Rattle.mig_text.proofs.Cuts.{is_done}
use Rattle.mig_text.proofs.parts.Parts.is_done.Goals as goal

pub returns : goal.returns
returns c = rw (← c.self.view_is) (is_done c.self.inside.at c.self.inside.rest c.is_none.result c.is_none.ensures)

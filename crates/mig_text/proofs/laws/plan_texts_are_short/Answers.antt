use Rattle.mig_text.proofs.ShiftCounts.{short_text}
use Rattle.mig_text.proofs.laws.plan_texts_are_short.Goals as goal

pub returns : goal.returns
returns c = short_text

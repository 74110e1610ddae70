use Rattle.mig_files.proofs.Holding.{held_less, held_looked, held_noted}
use Rattle.mig_files.proofs.items.note_seen.Goals as goal

pub returns-in-Ok-clause-held : goal.returns-in-Ok-clause-held
returns-in-Ok-clause-held g c = held_noted c.args.slot.now c.args.item.now c.requires.slot c.requires.holds c.note.ensures.others c.in-Ok.ensures.noted c.requires.held

pub returns-in-Err-clause-held : goal.returns-in-Err-clause-held
returns-in-Err-clause-held g c = held_looked c.no_memory.ensures.step.change (held_less c.args.slot.now c.note.ensures.others c.in-Err.ensures.failed c.requires.held)

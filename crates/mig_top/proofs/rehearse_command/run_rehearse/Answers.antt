use Rattle.mig_top.proofs.EndsOf.{shown}
use Rattle.mig_top.proofs.rehearse_command.run_rehearse.Goals as goal

pub returns : goal.returns
returns g c = shown c.in_ok-text.text.items c.in_ok-text.ensures (rw c.deref.ensures.value at c.show.ensures)

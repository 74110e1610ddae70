use Rattle.mig_check.proofs.Common.{transfer_graph}
use Rattle.mig_check.proofs.MoveCounts.{even_class, general_class}
use Rattle.mig_check.proofs.Rooms.{not_both}
use Rattle.mig_check.proofs.loads.find_class.Goals as goal

pub returns-then-all_even : goal.returns-then-all_even
returns-then-all_even c = even_class (transfer_graph c.args.input.now) (c.all_even.ensures.0 c.if-all_even.true)

pub returns-else-all_even : goal.returns-else-all_even
returns-else-all_even c = general_class (transfer_graph c.args.input.now) c.requires.joint (λ even. not_both c.all_even.result (c.all_even.ensures.1 even) c.if-all_even.false)

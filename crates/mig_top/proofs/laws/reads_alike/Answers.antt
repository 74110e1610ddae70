use Rattle.mig_top.proofs.Alike.{read_alike}
use Rattle.mig_top.proofs.laws.reads_alike.Goals as goal

pub returns : goal.returns
returns c = read_alike

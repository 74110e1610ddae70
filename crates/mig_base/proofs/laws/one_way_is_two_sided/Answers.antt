use Rattle.mig_base.proofs.OneWay.{one_way_sides}
use Rattle.mig_base.proofs.laws.one_way_is_two_sided.Goals as goal

pub returns : goal.returns
returns c = one_way_sides

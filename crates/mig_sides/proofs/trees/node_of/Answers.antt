use Rattle.mig_sides.proofs.TreeLaws.{reached_there}
use Rattle.mig_sides.proofs.trees.node_of.Goals as goal

pub bounds-nodes-disk : goal.bounds-nodes-disk
bounds-nodes-disk c = reached_there c.args.nodes.now c.args.disk.0 c.requires

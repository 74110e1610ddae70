use Rattle.mig_shannon.proofs.Open.{first_in, open_after, second_in, tried_after}
use Rattle.mig_shannon.proofs.walks.try_spare.Goals as goal

pub find_spare-requires-clause-first : goal.find_spare-requires-clause-first
find_spare-requires-clause-first c = first_in c.args.board.now c.args.edge c.args.ends.0 c.args.ends.1 c.requires.open

pub find_spare-requires-clause-second : goal.find_spare-requires-clause-second
find_spare-requires-clause-second c = second_in c.args.board.now c.args.edge c.args.ends.0 c.args.ends.1 c.requires.open

pub let_lack-requires-clause-node : goal.let_lack-requires-clause-node
let_lack-requires-clause-node c = first_in c.args.board.now c.args.edge c.args.ends.0 c.args.ends.1 c.requires.open

pub is_missing-requires-clause-node : goal.is_missing-requires-clause-node
is_missing-requires-clause-node c =
    first_in c.let_lack.new.board c.args.edge c.args.ends.0 c.args.ends.1
    (open_after c.args.board.now c.let_lack.new.board c.args.edge c.args.ends.0 c.args.ends.1 c.requires.open c.let_lack.ensures.recolours c.let_lack.ensures.proper)

pub is_missing-requires-else-not-is_missing-clause-node : goal.is_missing-requires-else-not-is_missing-clause-node
is_missing-requires-else-not-is_missing-clause-node c =
    second_in c.let_lack.new.board c.args.edge c.args.ends.0 c.args.ends.1
    (open_after c.args.board.now c.let_lack.new.board c.args.edge c.args.ends.0 c.args.ends.1 c.requires.open c.let_lack.ensures.recolours c.let_lack.ensures.proper)

pub returns-clause-tried : goal.returns-clause-tried
returns-clause-tried c =
    tried_after c.args.board.now c.let_lack.new.board c.try_walk.new.board c.args.edge c.try_walk.result c.let_lack.ensures.recolours c.try_walk.ensures.tried

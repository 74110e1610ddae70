use Rattle.mig_board.proofs.Common.{None, replicate, rules, ◌≡◌}
use Rattle.mig_board.proofs.BoardFacts.{new_board}
use Rattle.mig_board.proofs.boards.Board.new.Goals as goal

pub invariant_of-result : goal.invariant_of-result
invariant_of-result c =
    let a : c.in_ok-painted.painted.items ≡ replicate c.len.result None = search rules in
    new_board c.args.nodes c.args.colours c.args.ends c.in_ok-painted.painted c.in_ok-table.table _ a c.in_ok-table.ensures.made c.len.ensures c.requires.in_range c.requires.no_loop c.requires.few_edges c.requires.few_entries

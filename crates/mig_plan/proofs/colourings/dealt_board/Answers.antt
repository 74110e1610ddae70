use Rattle.mig_plan.proofs.Common.{ap, arith, length, ◌*◌, ◌≡◌}
use Rattle.mig_duplex.proofs.Quotients.{has_ranges, quotient_most, quotient_some}
use Rattle.mig_plan.proofs.Limits.{few_general, share_some, shares_differ, shares_in_range}
use Rattle.mig_plan.proofs.colourings.dealt_board.Goals as goal

pub split_limits-requires-clause-some : goal.split_limits-requires-clause-some
split_limits-requires-clause-some c =
    let valid = c.edges.ensures.valid in
    let g = c.args.graph.now in
    omega (arith, c.div_ceil-share.ensures, share_some c.quotient.result (omega (arith, c.quotient.ensures, quotient_some g (has_ranges g valid) valid.leaves_there c.requires.some)))

pub new-requires-clause-in_range : goal.new-requires-clause-in_range
new-requires-clause-in_range c =
    let s = c.in_ok-copies.copies in
    shares_in_range c.args.graph.now c.deref.result.now c.div_ceil-share.result s.ends.items s.homes.items s.nodes (omega (arith, c.in_ok-copies.ensures.nodes)) c.in_ok-copies.ensures.copies

pub new-requires-clause-no_loop : goal.new-requires-clause-no_loop
new-requires-clause-no_loop c =
    let s = c.in_ok-copies.copies in
    shares_differ c.args.graph.now c.deref.result.now c.div_ceil-share.result s.ends.items s.homes.items c.edges.ensures.valid.apart c.in_ok-copies.ensures.copies

pub new-requires-clause-few_entries : goal.new-requires-clause-few_entries
new-requires-clause-few_entries c =
    let valid = c.edges.ensures.valid in
    let g = c.args.graph.now in
    let s = c.in_ok-copies.copies in
    let is_n : s.nodes ≡ length s.homes.items = omega (arith, c.in_ok-copies.ensures.nodes) in
    few_general s.nodes c.quotient.result c.div_ceil-share.result c.args.colours (length g.transfers) (length g.disks)
    (omega (arith, c.requires.room, c.quotient.ensures)) c.div_ceil-share.ensures
    (omega (arith, c.in_ok-copies.ensures.copies.room, ap (λ m. m * c.div_ceil-share.result) is_n)) valid.edges_most valid.disks_most
    (omega (arith, quotient_most g (has_ranges g valid), valid.edges_most, c.quotient.ensures))

use Rattle.mig_plan.proofs.Common.{List, Spot, Transfers, ap, arith, get_or, length, length-map, move_at, move_there, moves, transfer, ◌<◌, ◌∙◌, ◌≡◌}
use Rattle.mig_plan.proofs.rows.shift_of.Goals as goal

pub bounds-now-item : goal.bounds-now-item
bounds-now-item c =
    let input = c.args.input.now in
    let items : c.item-item.result.0 ≡ move_at input c.args.edge = c.item-item.ensures ∙ ap (λ (g : Transfers). Rattle.std.proofs.Common.get_or g.items c.args.edge 0) c.requires.graph in
    let transfers : length c.args.graph.now.transfers ≡ length (moves input) = ap (λ (g : Transfers). length g.transfers) c.requires.graph ∙ Rattle.std.proofs.lemmas.List.length-map (moves input) (Rattle.mig_base.specs.Transfers.transfer input) in
    let there : move_at input c.args.edge < length input.items = move_there input c.args.edge (omega (arith, c.requires.edge, transfers)) in
    omega (arith, items, there, ap (λ (s : List Spot). length s) c.now.ensures.value, c.now.ensures.valid.spots_len)

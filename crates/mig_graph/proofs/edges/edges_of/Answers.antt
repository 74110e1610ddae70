use Rattle.mig_graph.proofs.Common.{DiskId, Edge, Global, List, Spot, Transfer, Vec, [], ap, edge_item, edge_transfer, get_or, map, no_spot, refl, source, sym, target, transfer, ℕ, ◌++◌}
use Rattle.mig_graph.proofs.Common.{◌∙◌, ◌∷◌, ◌≡◌}
use Rattle.mig_graph.proofs.Made.{items_yes, transfers_yes, moves_no, differs, same}
use Rattle.mig_graph.proofs.edges.edges_of.Goals as goal
use Rattle.mig_graph.proofs.edges.edges_of.Goals.{then-from-to+in_ok-push, else-from-to}

pub loop-item-preserved : goal.loop-item-preserved
loop-item-preserved c =
    let input = c.args.input.now in
    let i = c.loop-item.item in
    let from : (get_or c.now-spots.result.now i no_spot).disk.0 ≡ source input i = ap (λ (x : List Spot). (get_or x i no_spot).disk.0) c.now-spots.ensures.value in
    let to : (get_or c.next-next.result.now i (record { 0 = 0 })).0 ≡ target input i = ap (λ (x : List DiskId). (get_or x i (record { 0 = 0 })).0) c.next-next.ensures.value in
    elim c.if-from-to.branch [
      | then-from-to+in_ok-push w ↦
          (let moved = differs (source input i) (target input i) (λ e. w.if-from-to.true (from ∙ e ∙ sym to)) in
          let e : Edge = record { item = record { 0 = i }; from = (get_or c.now-spots.result.now i no_spot).disk; to = get_or c.next-next.result.now i (record { 0 = 0 }) } in
          let t : edge_transfer e ≡ transfer input i = ap (λ (n : ℕ). let x : Transfer = record { leaves = n; reaches = e.to.0 } in x) from ∙ ap (λ (n : ℕ). let x : Transfer = record { leaves = source input i; reaches = n } in x) to in
          let is : c.if-from-to.edges.items ≡ c.loop-item.edges.items ++ e ∷ [] = ap (λ (v : Vec Edge Global). v.items) w.edges-is ∙ w.in_ok-push.ensures.items in
          record {
            items = ap (map edge_item) is ∙ items_yes input c.loop-item.edges.items e i moved (Rattle.std.proofs.Common.refl) c.loop-item.invariant.items;
            transfers = ap (map edge_transfer) is ∙ transfers_yes input c.loop-item.edges.items e i moved t c.loop-item.invariant.transfers;
          })
      | else-from-to w ↦
          (let stays = same (source input i) (target input i) (sym from ∙ w.if-from-to.false ∙ to) in
          let is : c.if-from-to.edges.items ≡ c.loop-item.edges.items = ap (λ (v : Vec Edge Global). v.items) w.edges-is in
          record {
            items = ap (map edge_item) is ∙ c.loop-item.invariant.items ∙ sym (moves_no input i stays);
            transfers = ap (map edge_transfer) is ∙ c.loop-item.invariant.transfers ∙ ap (map (transfer input)) (sym (moves_no input i stays));
          })
    ]

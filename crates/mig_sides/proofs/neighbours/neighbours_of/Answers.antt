use Rattle.mig_sides.proofs.Common.{arith, length, length-set, set, ◌∙◌}
use Rattle.mig_sides.proofs.NearLaws.{ends_there, near_more, near_none}
use Rattle.mig_sides.proofs.neighbours.neighbours_of.Goals as goal

pub loop-edge-init : goal.loop-edge-init
loop-edge-init c = record { len = omega (arith, c.in_ok-near.ensures.len, c.disks.ensures.disks); near = near_none c.in_ok-near.near.items c.in_ok-near.ensures.empty c.args.graph.now.transfers }

pub loop-edge-preserved : goal.loop-edge-preserved
loop-edge-preserved c =
    let graph = c.args.graph.now in
    let valid = c.edges-edge-end.ensures.valid in
    let near = c.loop-edge.near.items in
    let from = c.ends.result.0.0 in
    let to = c.ends.result.1.0 in
    let mid = c.push.new.self in
    let news = c.push-in-loop-edge.new.self in
    let there = ends_there graph c.loop-edge.edge from to (length near) c.ends.ensures.ends c.loop-edge.invariant.len valid.leaves_there valid.reaches_there in
    record {
      len = length-set (set near from mid) to news ∙ length-set near from mid ∙ c.loop-edge.invariant.len;
      near = near_more graph.transfers c.loop-edge.edge from to near c.index_mut.result.now mid c.index_mut-in-loop-edge.result.now news c.ends.ensures.ends there.0 there.1
          c.index_mut.ensures.value c.in_ok-push.ensures.items c.index_mut-in-loop-edge.ensures.value c.in_ok-push-2.ensures.items c.loop-edge.invariant.near;
    }

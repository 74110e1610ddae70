use Rattle.mig_sides.proofs.Common.{DiskId, Global, Vec, ap, ◌∙◌}
use Rattle.mig_sides.proofs.ReachLaws.{reach_else, reach_then}
use Rattle.mig_sides.proofs.trees.reach.Goals as goal
use Rattle.mig_sides.proofs.trees.reach.Goals.{then-is_none+in_ok-push, else-is_none}

pub loop-other-preserved : goal.loop-other-preserved
loop-other-preserved c =
    let near = c.args.near.now in
    let i = c.loop-other.other-index in
    let disk = c.args.disk in
    let node = c.args.node in
    let old = c.args.nodes.now in
    let was = c.args.queue.now.items in
    let mid = c.loop-other.nodes in
    let new = c.if-is_none.nodes in
    let before = c.loop-other.invariant in
    elim c.if-is_none.branch [
      | then-is_none+in_ok-push w ↦
          (let x = reach_then near i _ _ c.is_none.result disk node old mid new was c.loop-other.queue.items c.if-is_none.queue.items c.loop-other-test.true c.requires.there c.is_none.ensures w.if-is_none.true w.nodes-is
          (ap (λ (v : Vec DiskId Global). v.items) w.queue-is ∙ w.in_ok-push.ensures.items) before.reaches before.all in
          record { reaches = x.0; all = x.1 })
      | else-is_none w ↦
          (let x = reach_else near i _ _ c.is_none.result disk node old mid new was c.loop-other.queue.items c.if-is_none.queue.items c.loop-other-test.true c.requires.there c.is_none.ensures w.if-is_none.false w.nodes-is
          (ap (λ (v : Vec DiskId Global). v.items) w.queue-is) before.reaches before.all in
          record { reaches = x.0; all = x.1 })
    ]

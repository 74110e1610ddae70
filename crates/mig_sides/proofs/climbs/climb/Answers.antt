use Rattle.mig_sides.proofs.Common.{DiskId, IsClimbing, List, Node, [], ap, arith, is_some, same_Some, subst, sym, ◌++◌, ◌+◌, ◌<◌, ◌∙◌, ◌∷◌, ◌≡◌}
use Rattle.mig_sides.proofs.ClimbLaws.{climb_all, climb_more, climb_none}
use Rattle.mig_sides.proofs.climbs.climb.Goals as goal

pub loop-step-init : goal.loop-step-init
loop-step-init c =
    let disk = c.args.disk in
    let node = c.node_of-node.result in
    let is : c.push.new.self.items ≡ disk ∷ [] = c.in_ok-push.ensures.items ∙ ap (λ (xs : List DiskId). xs ++ disk ∷ []) c.new-way.ensures.items in
    (node, c.node_of-node.ensures, subst (λ (way : List DiskId). IsClimbing c.args.nodes.now disk.0 0 disk.0 way node) (sym is) (climb_none c.args.nodes.now disk node c.node_of-node.ensures))

pub node_of-requires : goal.node_of-requires
node_of-requires c = ap is_some c.loop-step.invariant.2.here_is

pub loop-step-preserved : goal.loop-step-preserved
loop-step-preserved c =
    let nodes = c.args.nodes.now in
    let i = c.loop-step.invariant in
    let here = c.node_of.result in
    let same : i.0 ≡ c.node_of-node.result = same_Some i.0 c.node_of-node.result (sym i.1 ∙ c.node_of-node.ensures) in
    let less : c.loop-step._step < i.0.rank = omega (arith, c.loop-step-test.true, ap (λ (x : Node). x.rank) same) in (
      i.0,
      i.1,
      subst (λ (way : List DiskId). IsClimbing nodes c.args.disk.0 (c.loop-step._step + 1) here.parent.0 way i.0) (sym c.in_ok-push-2.ensures.items)
          (climb_more nodes c.args.disk.0 c.loop-step._step c.loop-step.at.0 c.loop-step.way.items i.0 here c.requires.rooted less c.node_of.ensures i.2),
    )

pub returns : goal.returns
returns c =
    let i = c.loop-step.invariant in
    let same : i.0 ≡ c.node_of-node.result = same_Some i.0 c.node_of-node.result (sym i.1 ∙ c.node_of-node.ensures) in
    climb_all c.args.nodes.now c.args.disk.0 c.loop-step._step c.loop-step.at.0 c.loop-step.way.items i.0 c.requires.rooted i.1 (omega (arith, c.loop-step-test.false, ap (λ (x : Node). x.rank) same)) i.2

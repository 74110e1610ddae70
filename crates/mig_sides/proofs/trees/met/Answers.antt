use Rattle.mig_sides.proofs.Common.{DiskId, ap, arith, cases_lt, disk_on, get_or_default, inl, inr, node_at, sym, ◌∙◌, ◌≡◌}
use Rattle.mig_sides.proofs.trees.met.Goals as goal

pub loop-other-preserved : goal.loop-other-preserved
loop-other-preserved c k h =
    let nodes = c.args.nodes.now in
    let near = c.args.near.now in
    let i = c.loop-other.other-index in
    elim (cases_lt k i) [
      | inl lt ↦ c.loop-other.invariant k lt
      | inr ge ↦
          (let is : k ≡ i = omega (arith, h, ge) in (
            c.node_of.result,
            ap (λ n. node_at nodes (disk_on near n)) is ∙ ap (λ (d : DiskId). node_at nodes d.0) (get_or_default near i (record { 0 = 0 }) _ c.loop-other-test.true) ∙ c.node_of.ensures,
            λ e. c.if-node_of-node.false (sym e),
          ))
    ]

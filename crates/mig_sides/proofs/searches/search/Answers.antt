use Rattle.mig_sides.proofs.Common.{AreExplored, AreOnOneSide, HasGrown, IsSome, List, Node, Option, ap, is_some, node_at, not, subst, sym, ◌∙◌}
use Rattle.mig_sides.proofs.SearchLaws.{none_met, not_some, reached_more}
use Rattle.mig_sides.proofs.searches.search.Goals as goal
use Rattle.mig_sides.proofs.searches.search.Goals.{then-is_none+in_ok-met+else-is_some, else-is_none}

pub loop-disk-preserved : goal.loop-disk-preserved
loop-disk-preserved c =
    let graph = c.args.graph.now in
    let disk = c.loop-disk.disk in
    let old = c.loop-disk.nodes in
    let later = c.if-is_none.nodes in
    let before = c.loop-disk.invariant in
    elim c.if-is_none.branch [
      | then-is_none+in_ok-met+else-is_some w ↦
          (let met = w.in_ok-met.met in
          let grown = subst (λ (n : List (Option Node)). HasGrown graph old n disk) (sym w.nodes-is)
          (none_met met (HasGrown graph old w.grow.new.nodes disk) (λ ends. AreOnOneSide graph w.grow.new.nodes ends.0.0 ends.1.0) w.in_ok-met.ensures (not_some met (sym w.if-is_some.ensures))) in
          record { settled = grown.settled; reached = reached_more old later disk grown.kept grown.reached before.reached })
      | else-is_none w ↦
          (let is : IsSome (node_at old disk) = c.is_none.ensures ∙ ap not w.if-is_none.false in
          record {
            settled = subst (λ (n : List (Option Node)). AreExplored graph n) (sym w.nodes-is) before.settled;
            reached = reached_more old later disk (λ v node was. ap (λ (n : List (Option Node)). node_at n v) w.nodes-is ∙ was) (ap (λ (n : List (Option Node)). is_some (node_at n disk)) w.nodes-is ∙ is) before.reached;
          })
    ]

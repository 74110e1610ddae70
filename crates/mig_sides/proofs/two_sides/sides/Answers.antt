use Rattle.mig_sides.proofs.Common.{AreAllReached, AreOnOneSide, DiskId, IsOddWalk, IsTwoSided, IsWalkBetween, List, MatchOption-at_some, Node, Option, ap, arith, is_odd_node, length, map, subst}
use Rattle.mig_sides.proofs.Common.{sym, take_at, ◌∙◌, ◌≡◌}
use Rattle.mig_sides.proofs.SearchLaws.{none_met, separates, shows_none}
use Rattle.mig_sides.proofs.two_sides.sides.Goals as goal

pub returns-in-Some-clause-none : goal.returns-in-Some-clause-none
returns-in-Some-clause-none c =
    let graph = c.args.graph.now in
    let nodes = c.search.new.nodes in
    let one = c.in-Some.one in
    let other = c.in-Some.other in
    let walk = c.in_ok-disks.disks.items in
    let len : length nodes ≡ c.in_ok-nodes.nodes.len = omega (arith, c.search.auto.nodes, c.deref_mut.ensures.len) in
    let same : c.deref-in-Some.result.now ≡ nodes = c.deref-in-Some.ensures.value ∙ take_at nodes _ _ len in
    let met : AreOnOneSide graph nodes one.0 other.0 = MatchOption-at_some (AreAllReached graph nodes) (λ ends. AreOnOneSide graph nodes ends.0.0 ends.1.0) (one, other) c.in-Some.is c.in_ok-one.ensures in
    let between = subst (λ (n : List (Option Node)). IsWalkBetween n one.0 other.0 walk) same c.in_ok-disks.ensures in
    subst (λ (disks : List DiskId). IsOddWalk graph.transfers disks × ¬ IsTwoSided graph) (sym c.of.ensures) (shows_none graph nodes one.0 other.0 walk met between)

pub returns-clause-apart : goal.returns-clause-apart
returns-clause-apart c =
    let graph = c.args.graph.now in
    let nodes = c.search.new.nodes in
    let len : length nodes ≡ c.in_ok-nodes.nodes.len = omega (arith, c.search.auto.nodes, c.deref_mut.ensures.len) in
    let same : c.deref-2.result.now ≡ nodes = c.deref-2.ensures.value ∙ take_at nodes _ _ len in
    let all : AreAllReached graph nodes = none_met c.in_ok-one.field-0 (AreAllReached graph nodes) (λ ends. AreOnOneSide graph nodes ends.0.0 ends.1.0) c.in_ok-one.ensures c.in_default.not-Some in
    separates graph nodes c.in_ok-sides_of.field-0.items all (c.in_ok-sides_of.ensures ∙ ap (λ (n : List (Option Node)). map is_odd_node n) same) c.disks.ensures.valid.leaves_there

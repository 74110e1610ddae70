use Rattle.mig_sides.proofs.Common.{All, AreAllApart, DiskId, Global, IsGrowing, IsMet, List, Node, None, Option, Reaches, Some, Vec, [], ap, arith, disk_on, get_or, get_or-set_same}
use Rattle.mig_sides.proofs.Common.{get_or_default, is_some, length, list_at, node_at, set, subst, sym, ◌++◌, ◌<◌, ◌∙◌, ◌∷◌, ◌≡◌}
use Rattle.mig_sides.proofs.SearchLaws.{begun, goes_on, joined_there, met, root_node}
use Rattle.mig_sides.proofs.TreeLaws.{kept_set, reached_there}
use Rattle.mig_sides.proofs.ReachLaws.{still_reached}
use Rattle.mig_sides.proofs.searches.grow.Goals as goal

pub loop-next-init : goal.loop-next-init
loop-next-init c =
    let graph = c.args.graph.now in
    let nodes = c.args.nodes.now in
    let root = c.args.root in
    let after : List (Option Node) = set nodes root.0 (Some (root_node root)) in
    let is : c.push.new.self.items ≡ root ∷ [] = c.in_ok-push.ensures.items ∙ ap (λ (xs : List DiskId). xs ++ root ∷ []) c.new-queue.ensures.items in
    record {
      growing = subst (λ (q : List DiskId). IsGrowing graph root.0 after q 0) (sym is) (begun graph nodes root c.requires.settled c.requires.root c.requires.plain);
      kept = kept_set nodes root.0 (root_node root) c.requires.plain;
      reached = ap is_some (get_or-set_same nodes root.0 (Some (root_node root)) None c.requires.root);
    }

pub node_of-node-requires : goal.node_of-node-requires
node_of-node-requires c =
    let queue = c.loop-next.queue.items in
    let h : c.loop-next.next < length queue = omega (arith, c.loop-next-test.true, c.len.ensures) in
    let at : disk_on queue c.loop-next.next ≡ c.index-disk.result.now.0 = ap (λ (d : DiskId). d.0) (get_or_default queue c.loop-next.next (record { 0 = 0 }) c.index-disk.result.now h ∙ sym c.index-disk.ensures) in
    let w = c.loop-next.invariant.growing.waiting c.loop-next.next (omega arith) h in
    ap is_some (ap (node_at c.loop-next.nodes) (sym at) ∙ w.1)

pub reach-requires-clause-there : goal.reach-requires-clause-there
reach-requires-clause-there c =
    let graph = c.args.graph.now in
    let near = c.args.near.now in
    let disk = c.index-disk.result.now in
    let got = c.index-near-disk.result in
    let trees = c.loop-next.invariant.growing.trees in
    let h : disk.0 < length near = omega (arith, reached_there c.loop-next.nodes disk.0 (ap is_some c.node_of-node.ensures), trees.len, c.requires.near.len) in
    let row : c.deref.result.now ≡ list_at near disk.0 got = c.deref.ensures.value ∙ ap (λ (v : Vec DiskId Global). v.items) c.index-near-disk.is in
    subst (λ (xs : List DiskId). All (λ w. w.0 < length c.loop-next.nodes) xs) (sym row)
    (λ k d l. omega (arith, trees.len, joined_there graph disk.0 (get_or (list_at near disk.0 got) k d).0 c.keeps_rules.ensures.leaves_there c.keeps_rules.ensures.reaches_there (c.requires.near.each.joined disk.0 got h k d l)))

pub returns-in-Some : goal.returns-in-Some
returns-in-Some c =
    let graph = c.args.graph.now in
    let near = c.args.near.now in
    let disk = c.index-disk.result.now in
    let node = c.node_of-node.result in
    let got = c.index-near-disk.result in
    let row = list_at near disk.0 got in
    let old = c.loop-next.nodes in
    let later = c.reach.new.nodes in
    let queue = c.loop-next.queue.items in
    let growing = c.loop-next.invariant.growing in
    let h : disk.0 < length near = omega (arith, reached_there old disk.0 (ap is_some c.node_of-node.ensures), growing.trees.len, c.requires.near.len) in
    let l : c.loop-next.next < length queue = omega (arith, c.loop-next-test.true, c.len.ensures) in
    let at : disk_on queue c.loop-next.next ≡ disk.0 = ap (λ (d : DiskId). d.0) (get_or_default queue c.loop-next.next (record { 0 = 0 }) disk l ∙ sym c.index-disk.ensures) in
    let one : c.deref.result.now ≡ row = c.deref.ensures.value ∙ ap (λ (v : Vec DiskId Global). v.items) c.index-near-disk.is in
    let two : c.deref-in-loop-next.result.now ≡ row = c.deref-in-loop-next.ensures.value ∙ ap (λ (v : Vec DiskId Global). v.items) (c.index-near-disk-in-loop-next.is ∙ get_or_default near disk.0 c.index-near-disk-in-loop-next.result got h) in
    let reaches = subst (λ (xs : List DiskId). Reaches disk node xs old later queue c.reach.new.queue.items) one c.in_ok-reach.ensures.reaches in
    met graph row c.args.root.0 c.loop-next.next disk node old later queue c.reach.new.queue.items (c.requires.near.each.joined disk.0 got h) (λ w j. c.requires.near.each.all disk.0 w got h j)
    c.node_of-node.ensures at l growing reaches c.in-Some.other (subst (λ (xs : List DiskId). IsMet node xs later c.in-Some.other) two c.in-Some.ensures)

pub loop-next-preserved : goal.loop-next-preserved
loop-next-preserved c =
    let graph = c.args.graph.now in
    let near = c.args.near.now in
    let disk = c.index-disk.result.now in
    let node = c.node_of-node.result in
    let got = c.index-near-disk.result in
    let row = list_at near disk.0 got in
    let old = c.loop-next.nodes in
    let later = c.reach.new.nodes in
    let queue = c.loop-next.queue.items in
    let growing = c.loop-next.invariant.growing in
    let h : disk.0 < length near = omega (arith, reached_there old disk.0 (ap is_some c.node_of-node.ensures), growing.trees.len, c.requires.near.len) in
    let l : c.loop-next.next < length queue = omega (arith, c.loop-next-test.true, c.len.ensures) in
    let at : disk_on queue c.loop-next.next ≡ disk.0 = ap (λ (d : DiskId). d.0) (get_or_default queue c.loop-next.next (record { 0 = 0 }) disk l ∙ sym c.index-disk.ensures) in
    let one : c.deref.result.now ≡ row = c.deref.ensures.value ∙ ap (λ (v : Vec DiskId Global). v.items) c.index-near-disk.is in
    let two : c.deref-in-loop-next.result.now ≡ row = c.deref-in-loop-next.ensures.value ∙ ap (λ (v : Vec DiskId Global). v.items) (c.index-near-disk-in-loop-next.is ∙ get_or_default near disk.0 c.index-near-disk-in-loop-next.result got h) in
    let reaches = subst (λ (xs : List DiskId). Reaches disk node xs old later queue c.reach.new.queue.items) one c.in_ok-reach.ensures.reaches in
    record {
      growing = goes_on graph row c.args.root.0 c.loop-next.next disk node old later queue c.reach.new.queue.items (c.requires.near.each.joined disk.0 got h) (λ w j. c.requires.near.each.all disk.0 w got h j)
          c.node_of-node.ensures at l growing reaches (subst (λ (xs : List DiskId). AreAllApart node xs later) two c.in_default.ensures);
      kept = λ v found is. reaches.kept v found (c.loop-next.invariant.kept v found is);
      reached = still_reached old later c.args.root.0 reaches.kept c.loop-next.invariant.reached;
    }

use Rattle.mig_duplex.proofs.Common.{AreColours, AreOnSides, AreThrough, Colour, Colouring, CopyId, Global, IfOk-weaker, IsSpread, List, Vec, ap, arith, degree_of, length, subst, sym, ℕ, ◌<◌}
use Rattle.mig_duplex.proofs.Common.{◌∙◌, ◌≡◌, ◌≤◌}
use Rattle.mig_duplex.proofs.Spread.{blank_plain, nodes_differ, nodes_in_range, spread_by_sides, two_sided}
use Rattle.mig_duplex.proofs.colourings.colour_spread.Goals as goal

-- the copies of an edge are there, so the first of them is on the left and the last on the right
sides_there : (n left nodes : ℕ) (ends : List (CopyId × CopyId)) → n ≡ nodes → AreOnSides left n ends → AreOnSides left nodes ends
sides_there n left nodes ends same a = subst (λ m. AreOnSides left m ends) same a

pub share_nodes-requires : goal.share_nodes-requires
share_nodes-requires c =
    let valid = c.keeps_rules.ensures in
    let a = c.in_ok-sides.ensures.sides in
    let s = c.in_ok-sides.sides in
    record {
      q = c.requires.some;
      left = omega (arith, a.there 0 (omega (arith, a.one_each, c.requires.some, c.requires.few)), c.in_ok-sides.ensures.nodes);
      sides = sides_there (length s.homes.items) s.left s.nodes s.ends.items (omega (arith, c.in_ok-sides.ensures.nodes)) a.there;
      most = λ k h. a.most k (omega (arith, h, c.in_ok-sides.ensures.nodes));
      few = omega (arith, a.one_each, valid.edges_most);
    }

pub new-requires-clause-in_range : goal.new-requires-clause-in_range
new-requires-clause-in_range c =
    let s = c.in_ok-shared.shared in
    nodes_in_range s.left s.nodes s.ends.items c.in_ok-shared.ensures.there

pub new-requires-clause-no_loop : goal.new-requires-clause-no_loop
new-requires-clause-no_loop c =
    let s = c.in_ok-shared.shared in
    nodes_differ s.left s.nodes s.ends.items c.in_ok-shared.ensures.there

pub new-requires-clause-few_edges : goal.new-requires-clause-few_edges
new-requires-clause-few_edges c = omega (arith, c.in_ok-shared.ensures.through.one_each, c.in_ok-sides.ensures.sides.one_each, c.keeps_rules.ensures.edges_most)

pub new-requires-clause-few_entries : goal.new-requires-clause-few_entries
new-requires-clause-few_entries c =
    let valid = c.keeps_rules.ensures in
    omega (
      arith,
      c.in_ok-shared.ensures.room,
      c.in_ok-sides.ensures.sides.one_each,
      valid.edges_most,
      c.requires.few,
    )

pub colour_sides-requires-clause-blank : goal.colour_sides-requires-clause-blank
colour_sides-requires-clause-blank c =
    λ e h. blank_plain c.in_ok-board.board c.in_ok-shared.shared.nodes c.args.q c.in_ok-shared.shared.ends.items c.in_ok-board.ensures.made e h

pub colour_sides-requires-clause-sides : goal.colour_sides-requires-clause-sides
colour_sides-requires-clause-sides c =
    let s = c.in_ok-shared.shared in
    two_sided c.in_ok-board.board s.left s.nodes s.ends.items (ap (λ (g : Colouring). g.ends) c.in_ok-board.ensures.made) c.in_ok-shared.ensures.there

pub colour_sides-requires-clause-few : goal.colour_sides-requires-clause-few
colour_sides-requires-clause-few c =
    subst (λ (g : Colouring). (v : CopyId) → v.0 < g.nodes → degree_of g v ≤ g.colours) (sym c.in_ok-board.ensures.made) (λ v h. c.in_ok-shared.ensures.most v h)

pub returns : goal.returns
returns c =
    let graph = c.args.graph.now in
    let ds = c.args.directions.now in
    let s = c.in_ok-sides.sides in
    let new : Colouring = c.colour_sides.new.board in
    let old : Colouring = c.in_ok-board.board in
    let same : new ≡ record old { painted = new.painted } = c.colour_sides.ensures.graph in
    let shared = c.in_ok-shared.ensures in
    let is_ends : new.ends ≡ c.in_ok-shared.shared.ends.items = ap (λ (g : Colouring). g.ends) same ∙ ap (λ (g : Colouring). g.ends) c.in_ok-board.ensures.made in
    let through : AreThrough shared.node s.ends.items new.ends = subst (λ (x : List (CopyId × CopyId)). AreThrough shared.node s.ends.items x) (sym is_ends) shared.through in
    let is_colours : new.colours ≡ c.args.q = ap (λ (g : Colouring). g.colours) same ∙ ap (λ (g : Colouring). g.colours) c.in_ok-board.ensures.made in
    IfOk-weaker c.colours_of.result (λ (v : Vec Colour Global). AreColours new v.items) (λ (v : Vec Colour Global). IsSpread graph c.args.q ds v.items)
    (λ v h. spread_by_sides new graph c.args.q ds s.left shared.node s.ends.items s.homes.items v.items c.in_ok-sides.ensures.sides through c.colour_sides.ensures.proper h is_colours)
    c.colours_of.ensures

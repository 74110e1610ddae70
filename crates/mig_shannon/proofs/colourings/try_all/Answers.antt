use Rattle.mig_shannon.proofs.Common.{Colouring, SameGraph, ap, arith, length, ℕ, ◌+◌, ◌<◌, ◌∙◌, ◌≡◌}
use Rattle.mig_shannon.proofs.Growing.{painted_some, plain_none}
use Rattle.mig_shannon.proofs.Left.{AreTried-same, AreTried-painted, AreTried-left, AreTried-is, left_all, edge}
use Rattle.mig_shannon.proofs.colourings.try_all.Goals as goal
use Rattle.mig_shannon.proofs.colourings.try_all.Goals.{then-is_none+then-not-try_edge, else-is_none, else-is_none-via-then-is_none+else-not-try_edge, else-is_none-via-else-is_none}

-- an edge of the board at the beginning is one of the board now
edge_there : (first now : Colouring) (n m : ℕ) → SameGraph first now → m ≡ length first.ends → n < m → n < length now.ends
edge_there first now n m same is h = omega (arith, h, is, ap (λ (g : Colouring). length g.ends) same)

pub loop-edge-preserved : goal.loop-edge-preserved
loop-edge-preserved c =
    let first : Colouring = c.args.board.now in
    let now : Colouring = c.loop-edge.board in
    let n = c.loop-edge.edge in
    let a = c.loop-edge.invariant in
    let h = edge_there first now n c.edges-edge-end.result a.grows.graph c.edges-edge-end.ensures.value c.loop-edge-test.true in
    elim c.if-is_none.branch [
      | then-is_none+then-not-try_edge w ↦ AreTried-is first w.try_edge.new.board c.if-is_none.board (n + 1) (c.loop-edge.left + 1) c.if-is_none.left
          (AreTried-left first now w.try_edge.new.board n c.loop-edge.left h a (plain_none now (edge n) c.colour_of.result c.colour_of.ensures w.if-is_none.ensures) w.if-not-try_edge.ensures.tried w.try_edge.ensures.proper)
          w.board-is w.left-is
      | else-is_none w ↦ elim w.else-is_none.branch [
        | else-is_none-via-then-is_none+else-not-try_edge w' ↦ AreTried-is first w'.try_edge.new.board c.if-is_none.board (n + 1) c.loop-edge.left c.if-is_none.left
            (AreTried-painted first now w'.try_edge.new.board n c.loop-edge.left h a w'.if-not-try_edge.ensures.tried w'.try_edge.ensures.proper)
            (w.board-is ∙ w'.board-is) w.left-is
        | else-is_none-via-else-is_none w' ↦ AreTried-is first now c.if-is_none.board (n + 1) c.loop-edge.left c.if-is_none.left
            (AreTried-same first now n c.loop-edge.left h a (painted_some now (edge n) c.colour_of.result c.colour_of.ensures w'.if-is_none.ensures))
            (w.board-is ∙ w'.board-is) w.left-is
      ]
    ]

pub returns-clause-left : goal.returns-clause-left
returns-clause-left c =
    let a = c.loop-edge.invariant in
    a.counted ∙ left_all c.loop-edge.board c.loop-edge.edge
    (omega (arith, c.keeps_rules.ensures.one_each, c.edges-edge-end.ensures.value, c.loop-edge-test.false, ap (λ (g : Colouring). length g.ends) a.grows.graph))

use Rattle.mig_duplex.proofs.Common.{Colour, None, Option, Some, arith, none-some, same_Some, sym, ◌∙◌, ◌≡◌}
use Rattle.mig_duplex.proofs.colourings.colours_of.Goals as goal

clash : (k : Colour) (a : Option (Option Colour)) → a ≡ Some None → a ≡ Some (Some k) → ⊥
clash k a e f = none-some k (same_Some None (Some k) (sym e ∙ f))

pub unreachable-requires : goal.unreachable-requires
unreachable-requires c =
    let there = c.requires (record { 0 = c.loop-edge.edge }) (omega (arith, c.loop-edge-test.true, c.edges-edges.ensures.value)) in
    clash there.0 _ c.in_default.ensures there.1

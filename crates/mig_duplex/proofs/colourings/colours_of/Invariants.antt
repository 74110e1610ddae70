use Rattle.mig_duplex.proofs.Common.{HasColour, colour_at, length, ℕ, ◌<◌, ◌≡◌}
use Rattle.mig_duplex.proofs.colourings.colours_of.Given as goal

abbrev pub invariant-loop-edge : goal.invariant-loop-edge
invariant-loop-edge l = record { len : length l.colours.items ≡ l.edge; has : (e : ℕ) → e < l.edge → HasColour l.board (record { 0 = e }) (record { 0 = colour_at l.colours.items e }) }

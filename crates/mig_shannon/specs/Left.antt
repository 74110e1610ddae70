-- The edges that are left without a colour.
use Rattle.std.specs.Prelude.{ℕ, count_by, is_none}
use Rattle.mig_board.specs.Colouring.{Colouring}

-- how many edges have no colour
abbrev pub edges_left : Colouring → ℕ
edges_left g = count_by is_none g.painted

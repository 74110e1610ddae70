-- What the fields of a board mean.
use Rattle.std.specs.Prelude.{◌≤◌, ◌*◌, ◌^◌, length}
use Rattle.mig_base.specs.declared.limits.TheConstants.{MAX_ITEMS}
use Rattle.mig_board.specs.Colouring.{Colouring, IsProper, IsTableOf}
use Rattle.mig_board.specs.declared.boards.Board.TheInside.{Inside}

-- the colouring of the fields
abbrev pub colouring_of : Inside → Colouring
colouring_of a = record { nodes = a.table.nodes; colours = a.table.colours; ends = a.ends.items; painted = a.painted.items }

-- the fields keep a proper colouring, its table, and the limits of both
pub record IsBoard (a : Inside) : Type 0 where
  pub proper : IsProper (colouring_of a)
  pub table : IsTableOf (colouring_of a) a.table.entries
  pub few_edges : length a.ends.items ≤ MAX_ITEMS
  pub few_entries : a.table.nodes * a.table.colours ≤ 2 ^ 28

-- An edge without a colour, and ways to give it one.
use Rattle.mig_base.specs.declared.ids.CopyId.{CopyId}
use Rattle.mig_base.specs.declared.ids.EdgeId.{EdgeId}
use Rattle.mig_base.specs.declared.ids.Colour.{Colour}
use Rattle.mig_board.specs.Colouring.{Colouring, Joins, Leads, IsMissing, IsPainted, IsProper}
use Rattle.mig_board.specs.Growth.{IsPlain, SameGraph}

-- Edge e has no colour and joins first, where a is missing, to second, where edge f of colour a leads to third. Colour c is missing at both ends of f.
pub record CanRepaint (g : Colouring) (e f : EdgeId) (a c : Colour) : Type 0 where
  pub proper : IsProper g
  pub first : CopyId
  pub second : CopyId
  pub third : CopyId
  pub joins : Joins g e first second
  pub plain : IsPlain g e
  pub lacks : IsMissing g first a
  pub beside : Leads g second a f third
  pub at_second : IsMissing g second c
  pub at_third : IsMissing g third c

-- Edge e has no colour and joins first to second.
pub record IsOpen (g : Colouring) (e : EdgeId) (first second : CopyId) : Type 0 where
  pub proper : IsProper g
  pub joins : Joins g e first second
  pub plain : IsPlain g e

-- Colour a is missing at first, and b at second.
pub record CanWalk (g : Colouring) (e : EdgeId) (first second : CopyId) (a b : Colour) : Type 0 where
  pub at : IsOpen g e first second
  pub lacks : IsMissing g first a
  pub has : IsMissing g second b

-- Nodes, ends and the number of colours stay, and an edge that has a colour still has one.
pub record Grows (old new : Colouring) : Type 0 where
  pub graph : SameGraph old new
  pub kept : (e : EdgeId) → IsPainted old e → IsPainted new e

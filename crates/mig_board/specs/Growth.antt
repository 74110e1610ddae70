-- How a colouring grows by one edge at a time.
use Rattle.std.specs.Prelude.{◌≡◌, ◌≢◌, ℕ, ◌<◌, ◌≤◌, ◌⊎◌, length, slice_get, Some, None}
use Rattle.mig_base.specs.declared.ids.CopyId.{CopyId}
use Rattle.mig_base.specs.declared.ids.EdgeId.{EdgeId}
use Rattle.mig_board.specs.Colouring.{Colouring, Joins, IsPainted}

-- edge e has no colour
abbrev pub IsPlain : Colouring → EdgeId → Type 0
IsPlain g e = slice_get g.painted e.0 ≡ Some None

-- nothing is coloured
abbrev pub IsBlank : Colouring → Type 0
IsBlank g = (e : EdgeId) → e.0 < length g.ends → IsPlain g e

-- each edge has a colour
abbrev pub IsComplete : Colouring → Type 0
IsComplete g = (e : EdgeId) → e.0 < length g.ends → IsPainted g e

-- the nodes, the ends and the number of colours stay
abbrev pub SameGraph : Colouring → Colouring → Type 0
SameGraph old new = new ≡ record old { painted = new.painted }

-- colours change, but an edge that had one has one still, and an edge that had none has none
pub record Recolours (old new : Colouring) : Type 0 where
  pub graph : SameGraph old new
  pub kept : (f : EdgeId) → IsPainted old f → IsPainted new f
  pub plain : (f : EdgeId) → IsPlain old f → IsPlain new f

-- edge e gets a colour, each edge that had one has one still, and no other gets one
pub record PaintsOne (old new : Colouring) (e : EdgeId) : Type 0 where
  pub graph : SameGraph old new
  pub here : IsPainted new e
  pub kept : (f : EdgeId) → IsPainted old f → IsPainted new f
  pub plain : (f : EdgeId) → f.0 ≢ e.0 → IsPlain old f → IsPlain new f

-- each edge joins a node below left with one not below it
abbrev pub IsSplitAt : Colouring → ℕ → Type 0
IsSplitAt g left = (e : EdgeId) (v w : CopyId) → Joins g e v w → ((v.0 < left) × (left ≤ w.0)) ⊎ ((left ≤ v.0) × (w.0 < left))

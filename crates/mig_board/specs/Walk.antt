-- Walks along edges of two colours in turn.
use Rattle.std.specs.Prelude.{◌≡◌, ◌≢◌, ◌<◌, ◌⊎◌, List, [], ◌∷◌, ◌++◌, length, map, slice_get, ◌↔◌, ◌==◌, if◌then◌else◌}
use Rattle.std.specs.List.{AllPairs}
use Rattle.mig_base.specs.declared.ids.CopyId.{CopyId}
use Rattle.mig_base.specs.declared.ids.EdgeId.{EdgeId}
use Rattle.mig_base.specs.declared.ids.Colour.{Colour}
use Rattle.mig_board.specs.Colouring.{Colouring, HasColour, Leads, IsMissing, IsPresent}

-- one step of a walk: along an edge to its other end
pub record WalkStep : Type 0 where
  pub edge : EdgeId
  pub to : CopyId

-- The steps are the walk from v by colours b, a, b and so on, up to the node where the next colour is missing.
abbrev pub IsWalk : Colouring → CopyId → Colour → Colour → List WalkStep → Type 0
IsWalk g v a b [] = IsMissing g v b
IsWalk g v a b (s ∷ rest) = Leads g v b s.edge s.to × IsWalk g s.to b a rest

-- where a walk from v ends
abbrev pub end_of : CopyId → List WalkStep → CopyId
end_of v [] = v
end_of v (s ∷ rest) = end_of s.to rest

-- the colour that would come next
abbrev pub next_colour : Colour → Colour → List WalkStep → Colour
next_colour a b [] = b
next_colour a b (s ∷ rest) = next_colour b a rest

-- the same steps from the end back to v
abbrev pub backwards : CopyId → List WalkStep → List WalkStep
backwards v [] = []
backwards v (s ∷ rest) = backwards s.to rest ++ record { edge = s.edge; to = v } ∷ []

-- the nodes of a path from v
abbrev pub nodes_of : CopyId → List WalkStep → List CopyId
nodes_of v steps = v ∷ map (λ s. s.to) steps

-- u is a node of the path from v
abbrev pub IsNodeOf : CopyId → CopyId → List WalkStep → Type 0
IsNodeOf u v [] = v ≡ u
IsNodeOf u v (s ∷ rest) = (v ≡ u) ⊎ IsNodeOf u s.to rest

-- e is an edge of the path
abbrev pub IsEdgeOf : EdgeId → List WalkStep → Type 0
IsEdgeOf e [] = ⊥
IsEdgeOf e (s ∷ rest) = (s.edge ≡ e) ⊎ IsEdgeOf e rest

-- What holds of the walk from v, where a is missing and b is not.
pub record WalkLaw (g : Colouring) (v : CopyId) (a b : Colour) (steps : List WalkStep) : Type 0 where
  pub walk : IsWalk g v a b steps
  -- it is the only one
  pub only : (others : List WalkStep) → IsWalk g v a b others → others ≡ steps
  -- it repeats no node, and has an edge
  pub no_repeat : AllPairs (λ u w. u ≢ w) (nodes_of v steps)
  pub some : 0 < length steps
  -- its end lacks one of the two colours and has the other
  pub lacks : IsMissing g (end_of v steps) (next_colour a b steps)
  pub has : IsPresent g (end_of v steps) (next_colour b a steps)
  -- from there the walk is the same one backwards
  pub back : IsWalk g (end_of v steps) (next_colour a b steps) (next_colour b a steps) (backwards v steps)

-- the walk from v ends at w
pub record WalksTo (g : Colouring) (v : CopyId) (a b : Colour) (w : CopyId) : Type 0 where
  pub steps : List WalkStep
  pub law : WalkLaw g v a b steps
  pub end : end_of v steps ≡ w

-- a for b and b for a
abbrev pub swapped : Colour → Colour → Colour → Colour
swapped a b k = if k.0 == a.0 then b else (if k.0 == b.0 then a else k)

-- The two colours changed places on the walk from v, which ends at w, and on no other edge.
pub record Exchanges (old new : Colouring) (v : CopyId) (a b : Colour) (w : CopyId) : Type 0 where
  pub walk : WalksTo old v a b w
  pub frame : new ≡ record old { painted = new.painted }
  pub on : (e : EdgeId) (k : Colour) → IsEdgeOf e walk.steps → HasColour old e k → HasColour new e (swapped a b k)
  pub off : (e : EdgeId) → (IsEdgeOf e walk.steps → ⊥) → slice_get new.painted e.0 ≡ slice_get old.painted e.0
  -- at the two ends the two colours change places among the missing ones, and elsewhere nothing changes
  pub ends : (u : CopyId) (k : Colour) → (u ≡ v) ⊎ (u ≡ w) → IsMissing new u k ↔ IsMissing old u (swapped a b k)
  pub others : (u : CopyId) (k : Colour) → u ≢ v → u ≢ w → IsMissing new u k ↔ IsMissing old u k

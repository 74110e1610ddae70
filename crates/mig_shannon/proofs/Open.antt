-- Walks leave an edge open or paint it.
use Rattle.mig_shannon.proofs.Common.{Bool, CanWalk, Colour, Colouring, CopyId, EdgeId, Exchanges, IsFreeAt, IsMissing, IsOpen, IsProper, Joins, MatchBool, PaintsOne, PaintsOne-after}
use Rattle.mig_shannon.proofs.Common.{Recolours, Recolours-trans, end_cases, exchanges_joins, exchanges_start, false, inl, inr, joins_back, subst, sym, true, ◌<◌, ◌≢◌}

pub first_in : (g : Colouring) (e : EdgeId) (u v : CopyId) → IsOpen g e u v → u.0 < g.nodes
first_in g e u v o = o.proper.nodes_in_range e u v o.joins

pub second_in : (g : Colouring) (e : EdgeId) (u v : CopyId) → IsOpen g e u v → v.0 < g.nodes
second_in g e u v o = o.proper.nodes_in_range e v u (joins_back g e u v o.joins)

-- an exchange along a walk from u that ends elsewhere than at v frees the edge for a colour
pub walk_free : (g new : Colouring) (e : EdgeId) (u v : CopyId) (a b : Colour) → CanWalk g e u v a b → (y : CopyId) → y ≢ v → Exchanges g new u a b y → IsFreeAt new e b
walk_free g new e u v a b w y away ex = λ q r j.
    elim (end_cases g e u v q r w.at.joins (exchanges_joins g new u a b y ex e q r j)) [
      | inl h ↦ subst (λ (z : CopyId). IsMissing new z b) (sym h) (exchanges_start g new u a b y ex w.lacks)
      | inr h ↦ subst (λ (z : CopyId). IsMissing new z b) (sym h)
          ((ex.others v b (λ same. w.at.proper.no_loop e u v w.at.joins (sym same)) (λ same. away (sym same))).1 w.has)
    ]

-- an edge that is open is open still where colours change and edges keep or lack theirs
pub open_after : (g new : Colouring) (e : EdgeId) (u v : CopyId) → IsOpen g e u v → Recolours g new → IsProper new → IsOpen new e u v
open_after g new e u v o r proper =
    record { proper = proper; joins = subst (λ (x : Colouring). Joins x e u v) (sym r.graph) o.joins; plain = r.plain e o.plain }

-- the same from the other end
pub open_turned : (g : Colouring) (e : EdgeId) (u v : CopyId) → IsOpen g e u v → IsOpen g e v u
open_turned g e u v o = record { proper = o.proper; joins = joins_back g e u v o.joins; plain = o.plain }

-- what is tried after colours changed counts from before
pub tried_after : (old g new : Colouring) (e : EdgeId) (b : Bool) → Recolours old g → MatchBool b (PaintsOne g new e) (Recolours g new) → MatchBool b (PaintsOne old new e) (Recolours old new)
tried_after old g new e true r h = PaintsOne-after old g new e r h
tried_after old g new e false r h = Recolours-trans old g new r h

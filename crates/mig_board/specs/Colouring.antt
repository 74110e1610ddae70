-- A multigraph without loops whose edges carry colours or none.
use Rattle.std.specs.Prelude.{◌≡◌, ◌≢◌, ℕ, ◌<◌, ◌≤◌, ◌+◌, ◌*◌, ◌↔◌, ◌⊎◌, List, Option, Some, None, length, slice_get, slice_index, slice_set as set, replicate}
use Rattle.std.specs.Int.{bit_at, div_ceil}
use Rattle.mig_base.specs.declared.ids.CopyId.{CopyId}
use Rattle.mig_base.specs.declared.ids.EdgeId.{EdgeId}
use Rattle.mig_base.specs.declared.ids.Colour.{Colour}
use Rattle.mig_base.specs.Ends.{ends_at}

-- a multigraph, and the colours of its edges
pub record Colouring : Type 0 where
  pub nodes : ℕ
  pub colours : ℕ
  -- the two end nodes of each edge
  pub ends : List (CopyId × CopyId)
  -- the colour of each edge, or none
  pub painted : List (Option Colour)

-- edge e joins v and w
abbrev pub Joins : Colouring → EdgeId → CopyId → CopyId → Type 0
Joins g e v w = (slice_get g.ends e.0 ≡ Some (v, w)) ⊎ (slice_get g.ends e.0 ≡ Some (w, v))

-- edge e has colour k
abbrev pub HasColour : Colouring → EdgeId → Colour → Type 0
HasColour g e k = slice_get g.painted e.0 ≡ Some (Some k)

-- edge e has colour k and leads from v to w
pub record Leads (g : Colouring) (v : CopyId) (k : Colour) (e : EdgeId) (w : CopyId) : Type 0 where
  pub joins : Joins g e v w
  pub colour : HasColour g e k

-- some edge at v has colour k
abbrev pub IsPresent : Colouring → CopyId → Colour → Type 0
IsPresent g v k = (e : EdgeId) × (w : CopyId) × Leads g v k e w

-- k is a colour of the board that no edge at v has
pub record IsMissing (g : Colouring) (v : CopyId) (k : Colour) : Type 0 where
  pub in_range : k.0 < g.colours
  pub absent : (e : EdgeId) (w : CopyId) → Leads g v k e w → ⊥

-- how many edges v is an end of
abbrev pub degree_of : Colouring → CopyId → ℕ
degree_of g v = ends_at v g.ends

-- no colour is missing at v
abbrev pub IsFull : Colouring → CopyId → Type 0
IsFull g v = (k : Colour) → k.0 < g.colours → IsPresent g v k

-- no colour from k on is missing at v
abbrev pub IsFullFrom : Colouring → CopyId → Colour → Type 0
IsFullFrom g v k = (l : Colour) → k.0 ≤ l.0 → l.0 < g.colours → IsPresent g v l

-- k is the least colour missing at v
pub record IsLeastMissing (g : Colouring) (v : CopyId) (k : Colour) : Type 0 where
  pub missing : IsMissing g v k
  pub least : (l : Colour) → l.0 < k.0 → IsPresent g v l

-- k is the least colour from `from` on that is missing at v
pub record IsLeastMissingFrom (g : Colouring) (v : CopyId) (from k : Colour) : Type 0 where
  pub missing : IsMissing g v k
  pub from_on : from.0 ≤ k.0
  pub least : (l : Colour) → from.0 ≤ l.0 → l.0 < k.0 → IsPresent g v l

-- each colour is present at v or at w
abbrev pub HasNoCommon : Colouring → CopyId → CopyId → Type 0
HasNoCommon g v w = (k : Colour) → k.0 < g.colours → IsPresent g v k ⊎ IsPresent g w k

-- k is the least colour missing at both v and w
pub record IsLeastCommon (g : Colouring) (v w : CopyId) (k : Colour) : Type 0 where
  pub first : IsMissing g v k
  pub second : IsMissing g w k
  pub least : (l : Colour) → l.0 < k.0 → IsPresent g v l ⊎ IsPresent g w l

-- k is missing at both ends of e
abbrev pub IsFreeAt : Colouring → EdgeId → Colour → Type 0
IsFreeAt g e k = (v w : CopyId) → Joins g e v w → IsMissing g v k

-- the colouring with colour k on e
abbrev pub painted_with : Colouring → EdgeId → Colour → Colouring
painted_with g e k = record g { painted = set g.painted e.0 (Some k) }

-- the colouring with no colour on e
abbrev pub cleared : Colouring → EdgeId → Colouring
cleared g e = record g { painted = set g.painted e.0 None }

-- edge e has a colour
abbrev pub IsPainted : Colouring → EdgeId → Type 0
IsPainted g e = (k : Colour) × HasColour g e k

-- no two edges of one colour share a node; ends are two different nodes, and colours are in range
pub record IsProper (g : Colouring) : Type 0 where
  pub one_each : length g.painted ≡ length g.ends
  pub nodes_in_range : (e : EdgeId) (v w : CopyId) → Joins g e v w → v.0 < g.nodes
  pub no_loop : (e : EdgeId) (v w : CopyId) → Joins g e v w → v ≢ w
  pub colours_in_range : (e : EdgeId) (k : Colour) → HasColour g e k → k.0 < g.colours
  pub apart : (v : CopyId) (k : Colour) (e f : EdgeId) (w x : CopyId) → Leads g v k e w → Leads g v k f x → e ≡ f

-- the colouring in which nothing is coloured
abbrev pub blank : ℕ → ℕ → List (CopyId × CopyId) → Colouring
blank nodes colours ends = record { nodes = nodes; colours = colours; ends = ends; painted = replicate (length ends) None }

-- the words are the set of the colours that are missing at v: bit i of word w is for colour 64 w + i
pub record AreFreeWords (g : Colouring) (v : CopyId) (words : List ℕ) : Type 0 where
  pub len : length words ≡ div_ceil g.colours 64
  pub bit : (w i : ℕ) → w < length words → i < 64 → (bit_at (slice_index words w) i ≡ 1) ↔ IsMissing g v (record { 0 = 64 * w + i })

-- the table has, for each node and colour, the edge at the node that has the colour
pub record IsTableOf (g : Colouring) (table : List (Option EdgeId)) : Type 0 where
  pub len : length table ≡ g.nodes * g.colours
  pub entry : (v : CopyId) (k : Colour) (e : EdgeId) → v.0 < g.nodes → k.0 < g.colours →
      (slice_get table (v.0 * g.colours + k.0) ≡ Some (Some e)) ↔ ((w : CopyId) × Leads g v k e w)

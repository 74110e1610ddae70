-- Laws of walks and exchanges for callers.
use Rattle.mig_board.proofs.Common.{Colour, Colouring, CopyId, EdgeId, Exchanges, HasColour, HasNoCommon, IsFreeAt, IsFull, IsMissing, IsPainted}
use Rattle.mig_board.proofs.Common.{IsPlain, IsPresent, IsProper, IsSplitAt, IsWalk, Joins, Leads, List, None, PaintsOne, Recolours, SameGraph, Some}
use Rattle.mig_board.proofs.Common.{WalkStep, WalksTo, [], ap, arith, backwards, cases_lt, degree_of, end_of, inl, inr, length, next_colour}
use Rattle.mig_board.proofs.Common.{none-some, painted_with, refl, same_Some, slice_get-set_other, slice_get-set_same, slice_get_within, subst}
use Rattle.mig_board.proofs.Common.{swapped, sym, ℕ, ◌<◌, ◌∙◌, ◌∷◌, ◌≡◌, ◌≢◌, ◌≤◌, ◌⊎◌}
use Rattle.mig_board.proofs.Walks.{IsPath, path_of_walk, path_back, next_pair, missing_differs, end_cases}
use Rattle.std.proofs.Math.Path.{subst₂}
use Rattle.mig_board.proofs.Counting.{degree_of_full}
use Rattle.mig_board.proofs.Tables.{edge_cases, hue_cases}
use Rattle.mig_board.proofs.Exchange.{path_edge_cases, path_edge, swapped_second, swapped_third}

-- ---- what is missing and what is there

pub not_both : (g : Colouring) (v : CopyId) (k : Colour) → IsMissing g v k → IsPresent g v k → ⊥
not_both g v k m p = m.absent p.0 p.1 p.2

-- a colour that is present differs from one that is missing
pub present_differs : (g : Colouring) (v : CopyId) (k l : Colour) → IsPresent g v k → IsMissing g v l → k ≢ l
present_differs g v k l p m = λ e. missing_differs g v l k m p (sym e)

-- a colour that is missing at one node is present at the other, where they lack none together
pub present_at_first : (g : Colouring) (v w : CopyId) (k : Colour) → HasNoCommon g v w → IsMissing g w k → IsPresent g v k
present_at_first g v w k none m = elim (none k m.in_range) [ inl h ↦ h | inr h ↦ absurd (not_both g w k m h) ]

pub present_at_second : (g : Colouring) (v w : CopyId) (k : Colour) → HasNoCommon g v w → IsMissing g v k → IsPresent g w k
present_at_second g v w k none m = elim (none k m.in_range) [ inl h ↦ absurd (not_both g v k m h) | inr h ↦ h ]

-- an end of an edge without a colour lacks some colour, where it has no more edges than there are colours
pub not_full : (g : Colouring) (v w : CopyId) (e : EdgeId) → Joins g e v w → IsPlain g e → degree_of g v ≤ g.colours → IsFull g v → ⊥
not_full g v w e j plain few full = absurd (omega (arith, degree_of_full g v w e j plain full))

-- ---- exchanges and paintings

-- a colour that is missing at both ends is free
pub both_free : (g : Colouring) (e : EdgeId) (u v : CopyId) (k : Colour) → Joins g e u v → IsMissing g u k → IsMissing g v k → IsFreeAt g e k
both_free g e u v k j first second = grind (arith, end_cases)

-- an exchange colours no edge and uncolours none
pub exchanges_painted : (old new : Colouring) (v : CopyId) (a b : Colour) (w : CopyId) → Exchanges old new v a b w → (f : EdgeId) → IsPainted old f → IsPainted new f
exchanges_painted old new v a b w x f h =
    elim (path_edge_cases f x.walk.steps) [
      | inl on ↦ (swapped a b h.0, x.on f h.0 on h.1)
      | inr off ↦ (h.0, x.off f off ∙ h.1)
    ]

pub exchanges_plain : (old new : Colouring) (v : CopyId) (a b : Colour) (w : CopyId) → Exchanges old new v a b w → (f : EdgeId) → IsPlain old f → IsPlain new f
exchanges_plain old new v a b w x f h = grind (arith, path_edge_cases, path_edge, path_of_walk)

-- painting a plain edge
pub PaintsOne-painted : (old : Colouring) (e : EdgeId) (k : Colour) → e.0 < length old.painted → PaintsOne old (painted_with old e k) e
PaintsOne-painted old e k h =
    record {
      graph = refl;
      here = (k, slice_get-set_same old.painted e.0 (Some k) h);
      kept = λ f p. elim (edge_cases f e) [
        | inl same ↦ (k, rw same (slice_get-set_same old.painted e.0 (Some k) h))
        | inr other ↦ (p.0, slice_get-set_other old.painted e.0 f.0 (Some k) other ∙ p.1)
      ];
      plain = λ f other p. slice_get-set_other old.painted e.0 f.0 (Some k) other ∙ p;
    }

-- both on one side, and on different sides
abbrev AreBeside : ℕ → CopyId → CopyId → Type 0
AreBeside left v w = ((v.0 < left) × (w.0 < left)) ⊎ ((left ≤ v.0) × (left ≤ w.0))

abbrev AreAcross : ℕ → CopyId → CopyId → Type 0
AreAcross left v w = ((v.0 < left) × (left ≤ w.0)) ⊎ ((left ≤ v.0) × (w.0 < left))

across_first : (left : ℕ) (v w u : CopyId) → AreAcross left v w → AreBeside left w u → AreAcross left v u
across_first left v w u h m = grind arith

across_twice : (left : ℕ) (v w u : CopyId) → AreAcross left v w → AreAcross left w u → AreBeside left v u
across_twice left v w u h m = grind arith

-- in a two-sided graph a walk that would go on by its first colour has come back to its side
pub path_sides : (g : Colouring) (left : ℕ) → IsSplitAt g left → (v : CopyId) (a b : Colour) (steps : List WalkStep) → IsPath g v a b steps
    → ((next_colour a b steps ≡ b) × AreBeside left v (end_of v steps)) ⊎ ((next_colour a b steps ≡ a) × AreAcross left v (end_of v steps))
path_sides g left two v a b [] path = inl (refl, elim (cases_lt v.0 left) [ inl h ↦ inl (h, h) | inr h ↦ inr (h, h) ])
path_sides g left two v a b (s ∷ rest) path =
    let cross = two s.edge v s.to path.0.joins in
    elim (path_sides g left two s.to b a rest path.1) [
      | inl h ↦ inr (h.0, across_first left v s.to (end_of s.to rest) cross h.1)
      | inr h ↦ inl (h.0, across_twice left v s.to (end_of s.to rest) cross h.1)
    ]

-- So a walk from one end of an edge that lacks a does not end at the other end where b is missing.
pub ends_elsewhere : (g : Colouring) (left : ℕ) → IsSplitAt g left → (v : CopyId) (a b : Colour) (w u : CopyId) (e : EdgeId)
    → IsMissing g v a → IsPresent g v b → WalksTo g v a b w → Joins g e v u → IsMissing g u b → u ≢ w
ends_elsewhere g left two v a b w u e m h x j mu same =
    let here : end_of v x.steps ≡ u = x.end ∙ sym same in
    elim (path_sides g left two v a b x.steps (path_of_walk g v a b x.steps x.law.walk).0) [
      | inl s ↦ absurd (omega (arith, s.1, two e v u j, ap (λ (q : CopyId). q.0) here))
      | inr s ↦ elim (next_pair a b x.steps) [
        | inl p ↦ not_both g u b mu (rw (here, p.1) at x.law.has)
        | inr p ↦ missing_differs g v a b m h (sym s.0 ∙ p.0)
      ]
    ]

-- painting an edge after an exchange
pub PaintsOne-exchanged : (old mid : Colouring) (v : CopyId) (a b : Colour) (w : CopyId) → Exchanges old mid v a b w → (e : EdgeId) (k : Colour) → e.0 < length mid.painted → PaintsOne old (painted_with mid e k) e
PaintsOne-exchanged old mid v a b w x e k h =
    let r = PaintsOne-painted mid e k h in
    record {
      graph = ap (λ (g : Colouring). painted_with g e k) x.frame;
      here = r.here;
      kept = λ f p. r.kept f (exchanges_painted old mid v a b w x f p);
      plain = λ f other p. r.plain f other (exchanges_plain old mid v a b w x f p);
    }

-- after an exchange the edges still have their ends
pub exchanges_joins : (old new : Colouring) (v : CopyId) (a b : Colour) (w : CopyId) → Exchanges old new v a b w → (e : EdgeId) (u x : CopyId) → Joins new e u x → Joins old e u x
exchanges_joins old new v a b w h e u x j = subst (λ (g : Colouring). Joins g e u x) h.frame j

-- what is missing after the exchange at its first node
pub exchanges_start : (old new : Colouring) (v : CopyId) (a b : Colour) (w : CopyId) → Exchanges old new v a b w → IsMissing old v a → IsMissing new v b
exchanges_start old new v a b w h m = (h.ends v b (inl refl)).1 (subst (λ (q : Colour). IsMissing old v q) (sym (swapped_second a b)) m)

-- ---- all edges, one after the other

pub record IsPart (first now : Colouring) (n : ℕ) : Type 0 where
  pub graph : SameGraph first now
  pub done : (e : EdgeId) → e.0 < n → IsPainted now e
  pub rest : (e : EdgeId) → n ≤ e.0 → e.0 < length first.ends → IsPlain now e

-- ---- changes after which the same edges have a colour

pub Recolours-exchanged : (old new : Colouring) (v : CopyId) (a b : Colour) (w : CopyId) → Exchanges old new v a b w → Recolours old new
Recolours-exchanged old new v a b w x = record { graph = x.frame; kept = exchanges_painted old new v a b w x; plain = exchanges_plain old new v a b w x }

pub Recolours-repainted : (g : Colouring) (e : EdgeId) (k : Colour) → IsPainted g e → Recolours g (painted_with g e k)
Recolours-repainted g e k h =
    let within : e.0 < length g.painted = slice_get_within g.painted e.0 (Some h.0) h.1 in
    let r = PaintsOne-painted g e k within in
    record {
      graph = refl;
      kept = r.kept;
      plain = λ f p. elim (edge_cases f e) [
        | inl same ↦ absurd (none-some h.0 (same_Some None (Some h.0) (sym (subst (λ (q : EdgeId). IsPlain g q) same p) ∙ h.1)))
        | inr other ↦ r.plain f other p
      ];
    }

pub Recolours-trans : (a b c : Colouring) → Recolours a b → Recolours b c → Recolours a c
Recolours-trans a b c x y = grind arith

pub PaintsOne-after : (a b c : Colouring) (e : EdgeId) → Recolours a b → PaintsOne b c e → PaintsOne a c e
PaintsOne-after a b c e x y = grind arith

-- ---- after a repaint

-- the old colour is missing at the edge's ends
pub repainted_old : (g : Colouring) (p : IsProper g) (v : CopyId) (a c : Colour) (e : EdgeId) (w : CopyId) → Leads g v a e w → a ≢ c → IsMissing (painted_with g e c) v a
repainted_old g p v a c e w l d =
    record {
      in_range = p.colours_in_range e a l.colour;
      absent = λ f x m. elim (hue_cases g e (Some c) f a (slice_get_within g.painted e.0 (Some a) l.colour) m.colour) [
        | inl h ↦ d (cc h.1)
        | inr h ↦ h.0 (ap (λ (q : EdgeId). q.0) (p.apart v a f e x w (record { joins = m.joins; colour = h.1 }) l))
      ];
    }

-- another colour that was missing is missing still
pub repainted_other : (g : Colouring) (v : CopyId) (a c : Colour) (e : EdgeId) → e.0 < length g.painted → IsMissing g v a → a ≢ c → IsMissing (painted_with g e c) v a
repainted_other g v a c e within m d =
    record {
      in_range = m.in_range;
      absent = λ f x l. elim (hue_cases g e (Some c) f a within l.colour) [
        | inl h ↦ d (cc h.1)
        | inr h ↦ m.absent f x (record { joins = l.joins; colour = h.1 })
      ];
    }

-- an exchange leaves an edge of a third colour alone
pub exchanges_third : (old new : Colouring) (v : CopyId) (a b : Colour) (w : CopyId) → Exchanges old new v a b w → (u : CopyId) (k : Colour) (e : EdgeId) (x : CopyId) → k ≢ a → k ≢ b → Leads old u k e x → Leads new u k e x
exchanges_third old new v a b w h u k e x na nb l =
    record {
      joins = subst (λ (g : Colouring). Joins g e u x) (sym h.frame) l.joins;
      colour = elim (path_edge_cases e h.walk.steps) [
        | inl on ↦ subst (λ (q : Colour). HasColour new e q) (swapped_third a b k na nb) (h.on e k on l.colour)
        | inr off ↦ h.off e off ∙ l.colour
      ];
    }

-- ---- walks have one end

pub same_far : (g : Colouring) (v : CopyId) (a b : Colour) (w : CopyId) → WalksTo g v a b w → (steps : List WalkStep) → IsWalk g v a b steps → end_of v steps ≡ w
same_far g v a b w x steps h = ap (end_of v) (x.law.only steps h) ∙ x.end

-- the end's own colours, one of which is missing there, are those that the walk would have next
ends_own : (a b l h next other : Colour) → ((l ≡ a) × (h ≡ b)) ⊎ ((l ≡ b) × (h ≡ a)) → ((next ≡ a) × (other ≡ b)) ⊎ ((next ≡ b) × (other ≡ a))
    → l ≢ other → (next ≡ l) × (other ≡ h)
ends_own a b l h next other own two ne = grind arith

-- the walk back from the end of a walk, by the end's own colours
pub walk_from_end : (g : Colouring) (v : CopyId) (a b : Colour) (w : CopyId) → WalksTo g v a b w → (l h : Colour)
    → ((l ≡ a) × (h ≡ b)) ⊎ ((l ≡ b) × (h ≡ a)) → IsMissing g w l → IsPresent g w h
    → (steps : List WalkStep) × IsWalk g w l h steps × (end_of w steps ≡ v)
walk_from_end g v a b w x l h which m p =
    let has : IsPresent g w (next_colour b a x.steps) = rw x.end at x.law.has in
    let back : IsWalk g w (next_colour a b x.steps) (next_colour b a x.steps) (backwards v x.steps) = rw x.end at x.law.back in
    let goes = (path_back g v a b x.steps (path_of_walk g v a b x.steps x.law.walk).0).end in
    let other = missing_differs g w l (next_colour b a x.steps) m has in
    let own = ends_own a b l h (next_colour a b x.steps) (next_colour b a x.steps) which (next_pair a b x.steps) other in
    (backwards v x.steps, subst₂ (λ (c d : Colour). IsWalk g w c d (backwards v x.steps)) own.0 own.1 back, rw x.end at goes)

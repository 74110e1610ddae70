-- The table of a colouring through a change of one edge's colour.
use Rattle.mig_board.proofs.Common.{All, Colour, Colouring, CopyId, EdgeId, HasColour, IsFreeAt, IsProper, IsTableOf, Joins, Leads, List, None}
use Rattle.mig_board.proofs.Common.{Option, Some, ap, arith, blank, cases_eq, cleared, get_or_from_slice_get, inl, inr, length, length-replicate}
use Rattle.mig_board.proofs.Common.{length-set, mul-add-lt, mul_comm, painted_with, refl, replicate, same_Some, same_copy, same_edge}
use Rattle.mig_board.proofs.Common.{same_from_place, same_hue, set, set-set, slice_get, slice_get-set_other, slice_get-set_same, slice_get_within}
use Rattle.mig_board.proofs.Common.{subst, suc, sym, zero, ℕ, ◌*◌, ◌+◌, ◌<◌, ◌↔◌, ◌∙◌, ◌≡◌, ◌≢◌, ◌⊎◌}
use Rattle.mig_board.proofs.Walks.{end_cases, joins_back}

abbrev pub place_of : Colouring → CopyId → Colour → ℕ
place_of g v k = v.0 * g.colours + k.0

pub place_within : (g : Colouring) (v : CopyId) (k : Colour) → v.0 < g.nodes → k.0 < g.colours → place_of g v k < g.nodes * g.colours
place_within g v k h m = omega (arith, mul-add-lt v.0 g.colours k.0 g.nodes h m, mul_comm g.nodes g.colours)

pub same_place : (g : Colouring) (v w : CopyId) (k l : Colour) → k.0 < g.colours → l.0 < g.colours → place_of g v k ≡ place_of g w l → (v ≡ w) × (k ≡ l)
same_place g v w k l h m e = let r = same_from_place v.0 k.0 w.0 l.0 g.colours h m e in (same_copy v w r.0, same_hue k l r.1)

-- at one place, or at another node or colour
pub place_cases : (g : Colouring) (v w : CopyId) (k l : Colour) → k.0 < g.colours → l.0 < g.colours → ((v ≡ w) × (k ≡ l)) ⊎ (place_of g v k ≢ place_of g w l)
place_cases g v w k l h m =
    elim (cases_eq (place_of g v k) (place_of g w l)) [
      | inl e ↦ inl (same_place g v w k l h m e)
      | inr n ↦ inr n
    ]

pub edge_cases : (e f : EdgeId) → (e ≡ f) ⊎ (e.0 ≢ f.0)
edge_cases e f = elim (cases_eq e.0 f.0) [ inl h ↦ inl (same_edge e f h) | inr n ↦ inr n ]

-- a table shows that no two edges of one colour share a node
pub apart_by_table : (g : Colouring) (t : List (Option EdgeId)) → IsTableOf g t → ((e : EdgeId) (v w : CopyId) → Joins g e v w → v.0 < g.nodes) → ((e : EdgeId) (k : Colour) → HasColour g e k → k.0 < g.colours) →
    (v : CopyId) (k : Colour) (e f : EdgeId) (w x : CopyId) → Leads g v k e w → Leads g v k f x → e ≡ f
apart_by_table g t table nodes colours v k e f w x l m =
    let one = (table.entry v k e (nodes e v w l.joins) (colours e k l.colour)).1 (w, l) in
    let two = (table.entry v k f (nodes e v w l.joins) (colours e k l.colour)).1 (x, m) in
    same_Some e f (same_Some (Some e) (Some f) (sym one ∙ two))

-- the colouring with this colour on e, or none
abbrev pub hued : Colouring → EdgeId → Option Colour → Colouring
hued g e c = record g { painted = set g.painted e.0 c }

-- the colour of an edge after a write
pub hue_cases : (g : Colouring) (e : EdgeId) (c : Option Colour) (f : EdgeId) (l : Colour) → e.0 < length g.painted → HasColour (hued g e c) f l
    → ((f ≡ e) × (c ≡ Some l)) ⊎ ((f.0 ≢ e.0) × HasColour g f l)
hue_cases g e c f l h had = grind (arith, edge_cases, slice_get-set_same, slice_get-set_other)

abbrev pub entries_set : Colouring → List (Option EdgeId) → CopyId → CopyId → Colour → Option EdgeId → List (Option EdgeId)
entries_set g t p q k o = set (set t (place_of g p k) o) (place_of g q k) o

-- what a board keeps
pub record IsTabled (g : Colouring) (t : List (Option EdgeId)) : Type 0 where
  pub proper : IsProper g
  pub table : IsTableOf g t

-- Edge e, with the ends p and q, gets the colour k, which no edge has there, or loses it. So its colour c and the entries o there are written.
pub record CanWrite (g : Colouring) (e : EdgeId) (p q : CopyId) (k : Colour) (c : Option Colour) (o : Option EdgeId) : Type 0 where
  pub joins : Joins g e p q
  pub first : p.0 < g.nodes
  pub second : q.0 < g.nodes
  pub colour : k.0 < g.colours
  pub within : e.0 < length g.painted
  pub alone : (v : CopyId) (f : EdgeId) (w : CopyId) → (v ≡ p) ⊎ (v ≡ q) → Leads g v k f w → f ≡ e
  pub was : (l : Colour) → HasColour g e l → l ≡ k
  pub both : ((c ≡ Some k) × (o ≡ Some e)) ⊎ ((c ≡ None) × (o ≡ None))

module _ (g : Colouring) (t : List (Option EdgeId)) (b : IsTabled g t) (e : EdgeId) (p q : CopyId) (k : Colour) (c : Option Colour)
    (o : Option EdgeId) (can : CanWrite g e p q k c o) where
  -- an entry is one of the two that were written, or another
  entry_cases : (v : CopyId) (l : Colour) → l.0 < g.colours
      → (((v ≡ p) ⊎ (v ≡ q)) × (l ≡ k) × (slice_get (entries_set g t p q k o) (place_of g v l) ≡ Some o))
      ⊎ (((v ≡ p) ⊎ (v ≡ q) → l ≢ k) × (slice_get (entries_set g t p q k o) (place_of g v l) ≡ slice_get t (place_of g v l)))
  entry_cases v l hl =
      let len = b.table.len in
      let one = place_within g p k can.first can.colour in
      let two = place_within g q k can.second can.colour in
      let same_len = length-set t (place_of g p k) o in
      elim (place_cases g v q l k hl can.colour) [
        | inl h ↦ inl (inr h.0, h.1, rw (h.0, h.1) (slice_get-set_same (set t (place_of g p k) o) (place_of g q k) o (omega arith)))
        | inr nq ↦
            let kept = slice_get-set_other (set t (place_of g p k) o) (place_of g q k) (place_of g v l) o nq in
            elim (place_cases g v p l k hl can.colour) [
              | inl h ↦ inl (inl h.0, h.1, kept ∙ (rw (h.0, h.1) (slice_get-set_same t (place_of g p k) o (omega arith))))
              | inr np ↦ inr (
                λ at same. elim at [ inl x ↦ np (rw (x, same) refl) | inr x ↦ nq (rw (x, same) refl) ],
                kept ∙ slice_get-set_other t (place_of g p k) (place_of g v l) o np,
              )
            ]
      ]

  -- the edge at an end of it
  other_end : (v : CopyId) → (v ≡ p) ⊎ (v ≡ q) → (w : CopyId) × Joins g e v w
  other_end v at = elim at [ inl h ↦ (q, rw h can.joins) | inr h ↦ (p, rw h (joins_back g e p q can.joins)) ]

  entry : (v : CopyId) (l : Colour) (f : EdgeId) → v.0 < g.nodes → l.0 < g.colours
      → (slice_get (entries_set g t p q k o) (place_of g v l) ≡ Some (Some f)) ↔ ((w : CopyId) × Leads (hued g e c) v l f w)
  entry v l f hv hl =
      elim (entry_cases v l hl) [
        | inl h ↦ (
          (λ m. elim can.both [
            | inl x ↦
                let same : f ≡ e = cc (m, h.2, x.1) in
                let r = other_end v h.0 in
                let colour : HasColour (hued g e c) e l = slice_get-set_same g.painted e.0 c can.within ∙ cc (x.0, h.1) in
                (r.0, rw same (record { joins = r.1; colour = colour }))
            | inr x ↦ cc (m, h.2, x.1)
          ]),
          (λ m. elim (hue_cases g e c f l can.within m.1.colour) [
            | inl y ↦ elim can.both [ inl x ↦ cc (h.2, x.1, y.0) | inr x ↦ cc (x.0, y.1) ]
            | inr y ↦ absurd (y.0 (ap (λ (r : EdgeId). r.0) (can.alone v f m.0 h.0 (record { joins = m.1.joins; colour = rw h.1 at y.1 }))))
          ]),
        )
        | inr h ↦ (
          (λ m.
              let r = (b.table.entry v l f hv hl).0 (sym h.1 ∙ m) in
              let colour : HasColour (hued g e c) f l = elim (edge_cases f e) [
                | inl same ↦
                    let at = end_cases g e p q v r.0 can.joins (subst (λ (q : EdgeId). Joins g q v r.0) same r.1.joins) in
                    absurd (h.0 at (can.was l (rw same at r.1.colour)))
                | inr off ↦ slice_get-set_other g.painted e.0 f.0 c off ∙ r.1.colour
              ] in
              (r.0, record { joins = r.1.joins; colour = colour })),
          (λ m. elim (hue_cases g e c f l can.within m.1.colour) [
            | inl y ↦ elim can.both [
              | inl x ↦ absurd (h.0 (end_cases g e p q v m.0 can.joins (rw y.0 at m.1.joins)) (cc (x.0, y.1)))
              | inr x ↦ cc (x.0, y.1)
            ]
            | inr y ↦ h.1 ∙ (b.table.entry v l f hv hl).1 (m.0, record { joins = m.1.joins; colour = y.1 })
          ]),
        )
      ]

  -- the write keeps the table and that the colouring is proper
  pub IsTabled-written : IsTabled (hued g e c) (entries_set g t p q k o)
  IsTabled-written =
      record {
        proper = record {
          one_each = length-set g.painted e.0 c ∙ b.proper.one_each;
          nodes_in_range = b.proper.nodes_in_range;
          no_loop = b.proper.no_loop;
          colours_in_range = colours;
          apart = apart_by_table (hued g e c) (entries_set g t p q k o) table b.proper.nodes_in_range colours;
        };
        table = table;
      }
    where
      colours : (f : EdgeId) (l : Colour) → HasColour (hued g e c) f l → l.0 < g.colours
      colours f l had =
          elim (hue_cases g e c f l can.within had) [
            | inl h ↦ elim can.both [ inl x ↦ (let same : k ≡ l = cc (x.0, h.1) in rw same at can.colour) | inr x ↦ cc (x.0, h.1) ]
            | inr h ↦ b.proper.colours_in_range f l h.1
          ]

      table : IsTableOf (hued g e c) (entries_set g t p q k o)
      table = record { len = simp length-set b.table.len; entry = entry }

-- nothing coloured
none_in : {A : Type 0} (n i : ℕ) (x : A) → slice_get (replicate n None) i ≡ Some (Some x) → ⊥
none_in zero i x h = cc h
none_in (suc n) zero x h = cc h
none_in (suc n) (suc i) x h = none_in n i x h

pub IsTabled-blank : (nodes colours : ℕ) (ends : List (CopyId × CopyId)) → All (λ p. (p.0.0 < nodes) × (p.1.0 < nodes)) ends
    → All (λ p. p.0 ≢ p.1) ends → IsTabled (blank nodes colours ends) (replicate (nodes * colours) None)
IsTabled-blank nodes colours ends range loops =
    record {
      proper = record {
        one_each = length-replicate (length ends) None;
        nodes_in_range = λ e v w j. elim j [ inl h ↦ (pair e (v, w) h).0.0 | inr h ↦ (pair e (w, v) h).0.1 ];
        no_loop = λ e v w j m. elim j [ inl h ↦ (pair e (v, w) h).1 m | inr h ↦ (pair e (w, v) h).1 (sym m) ];
        colours_in_range = λ e k h. absurd (none_in (length ends) e.0 k h);
        apart = λ v k e f w x l m. absurd (none_in (length ends) e.0 k l.colour);
      };
      table = record {
        len = length-replicate (nodes * colours) None;
        entry = λ v k e hv hk. (
          λ h. absurd (none_in (nodes * colours) (v.0 * colours + k.0) e h),
          λ h. absurd (none_in (length ends) e.0 k h.1.colour),
        );
      };
    }
  where
    pair : (e : EdgeId) (x : CopyId × CopyId) → slice_get ends e.0 ≡ Some x → ((x.0.0 < nodes) × (x.1.0 < nodes)) × (x.0 ≢ x.1)
    pair e x h =
        let within = slice_get_within ends e.0 x h in
        let same = get_or_from_slice_get ends e.0 x x h in
        (rw same at (range e.0 x within), rw same at (loops e.0 x within))

-- a colour that is missing stays so where an edge loses its colour
pub IsFreeAt-cleared : (g : Colouring) (e : EdgeId) (k : Colour) → e.0 < length g.painted → IsFreeAt g e k → IsFreeAt (cleared g e) e k
IsFreeAt-cleared g e k within free v w j =
    let m = free v w j in
    record {
      in_range = m.in_range;
      absent = λ f x l. elim (hue_cases g e None f k within l.colour) [
        | inl h ↦ cc h.1
        | inr h ↦ m.absent f x (record { joins = l.joins; colour = h.1 })
      ];
    }

pub painted_with-cleared : (g : Colouring) (e : EdgeId) (k : Colour) → painted_with (cleared g e) e k ≡ painted_with g e k
painted_with-cleared g e k = let made : List (Option Colour) → Colouring = λ p. record g { painted = p } in ap made (set-set g.painted e.0 None (Some k))

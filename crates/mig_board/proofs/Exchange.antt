-- The exchange of two colours along a walk, step by step.
use Rattle.mig_board.proofs.Common.{Colour, Colouring, CopyId, EdgeId, Exchanges, HasColour, IsEdgeOf, IsMissing, IsNodeOf, IsPresent, IsProper}
use Rattle.mig_board.proofs.Common.{IsTableOf, IsWalk, Joins, Leads, List, None, Option, Some, WalkStep, [], ap, arith, cases_eq, end_of, eqb_tells}
use Rattle.mig_board.proofs.Common.{inl, inr, length, length-set, length-swap, next_colour, refl, same_copy, same_edge, same_hue, set, slice_get}
use Rattle.mig_board.proofs.Common.{slice_get-get_or, slice_get-set_other, slice_get-set_same, slice_get_within, subst, swap, swap_is, swapped, sym}
use Rattle.mig_board.proofs.Common.{ℕ, ◌*◌, ◌+◌, ◌<◌, ◌↔◌, ◌∙◌, ◌∷◌, ◌≡◌, ◌≢◌, ◌⊎◌}
use Rattle.mig_board.proofs.Walks
use Rattle.mig_board.proofs.Walks.{IsPath, NoRepeat, IsUnderway, edge_on, last_edge, fresh, path_of_walk, path_no_repeat, missing_differs, underway_more, underway_next, next_differs, leads_back}
use Rattle.mig_board.proofs.Walks.{end_cases, same_colour, IsNodeOf-push, IsEdgeOf-push, IsNodeOf-end_of, IsNodeOf-start, step_of, underway_pair}
use Rattle.mig_board.proofs.Walks.{underway_start}
use Rattle.mig_board.proofs.Tables.{place_of, place_within, same_place, edge_cases, IsTabled, apart_by_table}

-- ---- two elements change places

-- the first, the second, and another one
pub slice_get-swap : (xs : List (Option EdgeId)) (i j k : ℕ) → i < length xs → j < length xs
    → ((k ≡ i) × (slice_get (swap xs i j) k ≡ slice_get xs j)) ⊎ (((k ≡ j) × (slice_get (swap xs i j) k ≡ slice_get xs i))
    ⊎ ((k ≢ i) × (k ≢ j) × (slice_get (swap xs i j) k ≡ slice_get xs k)))
slice_get-swap xs i j k hi hj =
    grind (arith, swap_is xs i j None hi hj, cases_eq k i, cases_eq k j, length-set, slice_get-set_same, slice_get-set_other, slice_get-get_or)

-- ---- the two colours

pub data TurnCases (a b k : Colour) : Type 0 where
  is_first : k ≡ a → swapped a b k ≡ b → TurnCases a b k
  is_second : k ≡ b → swapped a b k ≡ a → TurnCases a b k
  is_neither : k ≢ a → k ≢ b → swapped a b k ≡ k → TurnCases a b k

pub turn_cases : (a b k : Colour) → TurnCases a b k
turn_cases a b k = grind (arith, eqb_tells, same_hue)

pub swapped_first : (a b : Colour) → swapped a b a ≡ b
swapped_first a b = elim (turn_cases a b a) [ is_first e h ↦ h | is_second e h ↦ h ∙ e | is_neither n m h ↦ absurd (n refl) ]

pub swapped_second : (a b : Colour) → swapped a b b ≡ a
swapped_second a b = elim (turn_cases a b b) [ is_first e h ↦ h ∙ e | is_second e h ↦ h | is_neither n m h ↦ absurd (m refl) ]

pub swapped_third : (a b k : Colour) → k ≢ a → k ≢ b → swapped a b k ≡ k
swapped_third a b k na nb = elim (turn_cases a b k) [ is_first e h ↦ absurd (na e) | is_second e h ↦ absurd (nb e) | is_neither n m h ↦ h ]

pub swapped_twice : (a b k : Colour) → swapped a b (swapped a b k) ≡ k
swapped_twice a b k = grind (arith, turn_cases, swapped_second, swapped_first)

pub swapped_in_range : (a b k : Colour) (n : ℕ) → a.0 < n → b.0 < n → k.0 < n → (swapped a b k).0 < n
swapped_in_range a b k n ha hb hk = grind (arith, turn_cases)

-- ---- deciding what is on a path

pub copy_cases : (v w : CopyId) → (v ≡ w) ⊎ (v ≢ w)
copy_cases v w = elim (cases_eq v.0 w.0) [ inl h ↦ inl (same_copy v w h) | inr n ↦ inr (λ e. n (ap (λ (q : CopyId). q.0) e)) ]

pub path_node_cases : (u v : CopyId) (steps : List WalkStep) → IsNodeOf u v steps ⊎ (IsNodeOf u v steps → ⊥)
path_node_cases u v [] = copy_cases v u
path_node_cases u v (s ∷ rest) =
    elim (copy_cases v u) [
      | inl h ↦ inl (inl h)
      | inr n ↦ elim (path_node_cases u s.to rest) [ inl h ↦ inl (inr h) | inr m ↦ inr (λ (h : (v ≡ u) ⊎ IsNodeOf u s.to rest). elim h [ inl x ↦ n x | inr x ↦ m x ]) ]
    ]

pub path_edge_cases : (e : EdgeId) (steps : List WalkStep) → IsEdgeOf e steps ⊎ (IsEdgeOf e steps → ⊥)
path_edge_cases e [] = inr (λ h. h)
path_edge_cases e (s ∷ rest) =
    elim (edge_cases s.edge e) [
      | inl h ↦ inl (inl h)
      | inr n ↦ elim (path_edge_cases e rest) [ inl h ↦ inl (inr h) | inr m ↦ inr (λ (h : (s.edge ≡ e) ⊎ IsEdgeOf e rest). elim h [ inl x ↦ n (ap (λ (q : EdgeId). q.0) x) | inr x ↦ m x ]) ]
    ]

-- ---- edges of a path

-- an edge of a path has its ends on it and one of the two colours
pub record IsPathEdge (g : Colouring) (v : CopyId) (a b : Colour) (steps : List WalkStep) (e : EdgeId) : Type 0 where
  pub from : CopyId
  pub to : CopyId
  pub colour : Colour
  pub leads : Leads g from colour e to
  pub from_at : IsNodeOf from v steps
  pub to_at : IsNodeOf to v steps
  pub of_two : (colour ≡ a) ⊎ (colour ≡ b)

pub path_edge : (g : Colouring) (v : CopyId) (a b : Colour) (steps : List WalkStep) → IsPath g v a b steps → (e : EdgeId) → IsEdgeOf e steps → IsPathEdge g v a b steps e
path_edge g v a b [] path e on = absurd on
path_edge g v a b (s ∷ rest) path e on =
    elim on [
      | inl h ↦ record { from = v; to = s.to; colour = b; leads = subst (λ (q : EdgeId). Leads g v b q s.to) h path.0; from_at = inl refl; to_at = inr (IsNodeOf-start s.to rest); of_two = inr refl }
      | inr h ↦
          let r = path_edge g s.to b a rest path.1 e h in
          record { from = r.from; to = r.to; colour = r.colour; leads = r.leads; from_at = inr r.from_at; to_at = inr r.to_at; of_two = elim r.of_two [ inl x ↦ inr x | inr x ↦ inl x ] }
    ]

-- a node of an edge of a path is on the path
pub end_on_path : (g : Colouring) (v : CopyId) (a b : Colour) (steps : List WalkStep) → IsPath g v a b steps → (e : EdgeId) → IsEdgeOf e steps → (u x : CopyId) → Joins g e u x → IsNodeOf u v steps
end_on_path g v a b steps path e on u x j = grind (arith, path_edge, end_cases)

-- the edge that comes next is a new one
pub fresh_edge : (g : Colouring) (p : IsProper g) (v : CopyId) (a b : Colour) (steps : List WalkStep) → a ≢ b → IsPath g v a b steps → NoRepeat v steps → (e : EdgeId) (w : CopyId) → Leads g (end_of v steps) (next_colour a b steps) e w → IsEdgeOf e steps → ⊥
fresh_edge g p v a b steps d path n e w l on = next_differs a b steps d (last_edge g p v a b steps path n (next_colour a b steps) e w on l)

-- at a node of a walk each edge of the two colours is an edge of the walk
pub walk_closed : (g : Colouring) (p : IsProper g) (v : CopyId) (a b : Colour) → IsMissing g v a → (steps : List WalkStep) → IsWalk g v a b steps → (u : CopyId) → IsNodeOf u v steps → (k : Colour) (e : EdgeId) (x : CopyId) → Leads g u k e x → (k ≡ a) ⊎ (k ≡ b) → IsEdgeOf e steps
walk_closed g p v a b m steps w u at k e x l ab =
    let r = path_of_walk g v a b steps w in
    elim (edge_on g p v a b steps r.0 u at k e x l ab) [
      | inl on ↦ on
      | inr other ↦ elim other [
        | inl h ↦ absurd (m.absent e x (moved v a h.0 h.1))
        | inr h ↦ absurd (r.1.absent e x (moved (end_of v steps) (next_colour a b steps) h.0 h.1))
      ]
    ]
  where
    moved : (q : CopyId) (c : Colour) → u ≡ q → k ≡ c → Leads g q c e x
    moved q c h m = subst (λ (r : CopyId). Leads g r c e x) h (subst (λ (r : Colour). Leads g u r e x) m l)

-- ---- the exchange underway

-- The entries at the nodes that were passed have changed places, and so have the colours of the edges that were passed.
pub record IsExchanging (g : Colouring) (t : List (Option EdgeId)) (painted : List (Option Colour)) (table : List (Option EdgeId)) (v : CopyId) (a b : Colour) (at : CopyId) (next other : Colour) (n : ℕ) : Type 0 where
  pub underway : IsUnderway g v a b at next other n
  pub painted_len : length painted ≡ length g.painted
  pub table_len : length table ≡ g.nodes * g.colours
  pub on : (e : EdgeId) (k : Colour) → IsEdgeOf e underway.steps → HasColour g e k → slice_get painted e.0 ≡ Some (Some (swapped a b k))
  pub off : (e : EdgeId) → (IsEdgeOf e underway.steps → ⊥) → slice_get painted e.0 ≡ slice_get g.painted e.0
  pub passed : (u : CopyId) (k : Colour) → k.0 < g.colours → IsNodeOf u v underway.steps → u ≢ at → slice_get table (place_of g u k) ≡ slice_get t (place_of g u (swapped a b k))
  pub kept : (u : CopyId) (k : Colour) → k.0 < g.colours → (IsNodeOf u v underway.steps → ⊥) ⊎ (u ≡ at) → slice_get table (place_of g u k) ≡ slice_get t (place_of g u k)

-- the two entries at one node have changed places
pub record IsTurned (g : Colouring) (a b : Colour) (at : CopyId) (old new : List (Option EdgeId)) : Type 0 where
  pub len : length new ≡ length old
  pub here : (k : Colour) → k.0 < g.colours → slice_get new (place_of g at k) ≡ slice_get old (place_of g at (swapped a b k))
  pub there : (u : CopyId) (k : Colour) → k.0 < g.colours → u ≢ at → slice_get new (place_of g u k) ≡ slice_get old (place_of g u k)

pub swapped_back : (a b k : Colour) → swapped b a k ≡ swapped a b k
swapped_back a b k = grind (arith, turn_cases a b k, turn_cases b a k)

turned_by : (g : Colouring) (a b : Colour) (at : CopyId) (old : List (Option EdgeId)) → length old ≡ g.nodes * g.colours → at.0 < g.nodes
    → a.0 < g.colours → b.0 < g.colours → IsTurned g a b at old (swap old (place_of g at a) (place_of g at b))
turned_by g a b at old len hat ha hb =
    record {
      len = length-swap old (place_of g at a) (place_of g at b);
      here = λ k hk. elim (slice_get-swap old (place_of g at a) (place_of g at b) (place_of g at k) first second) [
        | inl h ↦ cc (h.1, ap (place_of g at) (swapped_first a b), (alike k a hk ha h.0))
        | inr more ↦ elim more [
          | inl h ↦ cc (h.1, ap (place_of g at) (swapped_second a b), (alike k b hk hb h.0))
          | inr h ↦ cc (h.2, swapped_third a b k (λ e. h.0 (ap (place_of g at) e)) (λ e. h.1 (ap (place_of g at) e)))
        ]
      ];
      there = λ u k hk ne. elim (slice_get-swap old (place_of g at a) (place_of g at b) (place_of g u k) first second) [
        | inl h ↦ absurd (ne (same_place g u at k a hk ha h.0).0)
        | inr more ↦ elim more [ inl h ↦ absurd (ne (same_place g u at k b hk hb h.0).0) | inr h ↦ h.2 ]
      ];
    }
  where
    first : place_of g at a < length old
    first = rw len (place_within g at a hat ha)

    second : place_of g at b < length old
    second = rw len (place_within g at b hat hb)

    alike : (k l : Colour) → k.0 < g.colours → l.0 < g.colours → place_of g at k ≡ place_of g at l → k ≡ l
    alike k l hk hl e = (same_place g at at k l hk hl e).1

pub turned_by_swap : (g : Colouring) (a b : Colour) (at : CopyId) (old : List (Option EdgeId)) → length old ≡ g.nodes * g.colours
    → at.0 < g.nodes → a.0 < g.colours → b.0 < g.colours → (next other : Colour) → ((next ≡ a) × (other ≡ b)) ⊎ ((next ≡ b) × (other ≡ a))
    → IsTurned g a b at old (swap old (place_of g at next) (place_of g at other))
turned_by_swap g a b at old len hat ha hb next other which =
    elim which [
      | inl h ↦ rw (h.0, h.1) (turned_by g a b at old len hat ha hb)
      | inr h ↦
          let t = turned_by g b a at old len hat hb ha in
          let at_k = λ (c : Colour). slice_get old (place_of g at c) in
          rw (h.0, h.1) (record { len = t.len; here = λ k hk. t.here k hk ∙ ap at_k (swapped_back a b k); there = t.there })
    ]

-- what the exchange of a walk from v stands on
pub record CanExchange (g : Colouring) (t : List (Option EdgeId)) (v : CopyId) (a b : Colour) : Type 0 where
  pub tabled : IsTabled g t
  pub lacks : IsMissing g v a
  pub has : IsPresent g v b

pub differs_of : (g : Colouring) (t : List (Option EdgeId)) (v : CopyId) (a b : Colour) → CanExchange g t v a b → a ≢ b
differs_of g t v a b can = missing_differs g v a b can.lacks can.has

pub has_in_range : (g : Colouring) (t : List (Option EdgeId)) (v : CopyId) (a b : Colour) → CanExchange g t v a b → b.0 < g.colours
has_in_range g t v a b can = can.tabled.proper.colours_in_range can.has.0 b can.has.2.colour

pub exchanging_start : (g : Colouring) (t : List (Option EdgeId)) (v : CopyId) (a b : Colour) → CanExchange g t v a b → IsExchanging g t g.painted t v a b v b a 0
exchanging_start g t v a b can =
    record {
      underway = underway_start g v a b;
      painted_len = refl;
      table_len = can.tabled.table.len;
      on = λ e k on h. absurd on;
      off = λ e n. refl;
      passed = λ u k hk at ne. absurd (ne (sym at));
      kept = λ u k hk c. refl;
    }

-- the entry that is read at the node that is reached is still the old one
pub exchanging_read : (g : Colouring) (t : List (Option EdgeId)) (v : CopyId) (a b : Colour) → CanExchange g t v a b → (painted : List (Option Colour)) (table : List (Option EdgeId)) (at : CopyId) (next other : Colour) (n : ℕ) →
    IsExchanging g t painted table v a b at next other n → slice_get table (place_of g at next) ≡ slice_get t (place_of g at next)
exchanging_read g t v a b can painted table at next other n x =
    x.kept at next (underway_next g can.tabled.proper v a b can.lacks can.has at next other n x.underway).0 (inr refl)

-- what the fields say once the walk's last node has been turned too
pub record IsExchanged (g : Colouring) (t : List (Option EdgeId)) (painted : List (Option Colour)) (table : List (Option EdgeId)) (v : CopyId) (a b : Colour) (steps : List WalkStep) : Type 0 where
  pub walk : IsWalk g v a b steps
  pub painted_len : length painted ≡ length g.painted
  pub table_len : length table ≡ g.nodes * g.colours
  pub on : (e : EdgeId) (k : Colour) → IsEdgeOf e steps → HasColour g e k → slice_get painted e.0 ≡ Some (Some (swapped a b k))
  pub off : (e : EdgeId) → (IsEdgeOf e steps → ⊥) → slice_get painted e.0 ≡ slice_get g.painted e.0
  pub turned : (u : CopyId) (k : Colour) → k.0 < g.colours → IsNodeOf u v steps → slice_get table (place_of g u k) ≡ slice_get t (place_of g u (swapped a b k))
  pub kept : (u : CopyId) (k : Colour) → k.0 < g.colours → (IsNodeOf u v steps → ⊥) → slice_get table (place_of g u k) ≡ slice_get t (place_of g u k)

module _ (g : Colouring) (t : List (Option EdgeId)) (v : CopyId) (a b : Colour) (can : CanExchange g t v a b) (painted : List (Option Colour))
    (table table' : List (Option EdgeId)) (at : CopyId) (next other : Colour) (n : ℕ) (x : IsExchanging g t painted table v a b at next other n)
    (turned : IsTurned g a b at table table') where
  -- Once the entries at the last node of the path have been turned too, those at its nodes are the old ones in each other's place,
  turned_on : (u : CopyId) (k : Colour) → k.0 < g.colours → IsNodeOf u v x.underway.steps
      → slice_get table' (place_of g u k) ≡ slice_get t (place_of g u (swapped a b k))
  turned_on u k hk on =
      let in_range = swapped_in_range a b k g.colours can.lacks.in_range (has_in_range g t v a b can) hk in
      elim (copy_cases u at) [
        | inl h ↦ rw h (turned.here k hk ∙ x.kept at (swapped a b k) in_range (inr refl))
        | inr h ↦ turned.there u k hk h ∙ x.passed u k hk on h
      ]

  -- and the others are as they were
  kept_off : (u : CopyId) (k : Colour) → k.0 < g.colours → (IsNodeOf u v x.underway.steps → ⊥)
      → slice_get table' (place_of g u k) ≡ slice_get t (place_of g u k)
  kept_off u k hk off = turned.there u k hk (λ m. off (rw (m, ← x.underway.at_is) (IsNodeOf-end_of v x.underway.steps))) ∙ x.kept u k hk (inl off)

  -- the exchange done
  pub exchanging_end : IsMissing g at next → IsExchanged g t painted table' v a b x.underway.steps
  exchanging_end last =
      record {
        walk = Walks.walk_of_path g v a b x.underway.steps x.underway.path (rw (x.underway.at_is, x.underway.next_is) last);
        painted_len = x.painted_len;
        table_len = turned.len ∙ x.table_len;
        on = x.on;
        off = x.off;
        turned = turned_on;
        kept = kept_off;
      }

  -- one step on
  pub exchanging_more : (e : EdgeId) (w : CopyId) → Leads g at next e w
      → IsExchanging g t (set painted e.0 (Some other)) table' v a b w other next (n + 1)
  exchanging_more e w l =
      record {
        underway = underway_more g v a b at next other n x.underway e w l;
        painted_len = length-set painted e.0 (Some other) ∙ x.painted_len;
        table_len = turned.len ∙ x.table_len;
        on = λ f k on h. on_more f k ((IsEdgeOf-push f x.underway.steps (step_of e w)).0 on) h;
        off = λ f n.
            let push = (IsEdgeOf-push f x.underway.steps (step_of e w)).1 in
            slice_get-set_other painted e.0 f.0 (Some other) (λ m. n (push (inr (sym (same_edge f e m))))) ∙ x.off f (λ m. n (push (inl m)));
        passed = λ u k hk on ne. elim ((IsNodeOf-push u v x.underway.steps (step_of e w)).0 on) [
          | inl h ↦ turned_on u k hk h
          | inr h ↦ absurd (ne (sym h))
        ];
        kept = λ u k hk c. kept_off u k hk (λ m. elim c [
          | inl n ↦ n ((IsNodeOf-push u v x.underway.steps (step_of e w)).1 (inl m))
          | inr h ↦ new_node (rw h at m)
        ]);
      }
    where
      alone : NoRepeat v x.underway.steps
      alone = path_no_repeat g can.tabled.proper v a b can.lacks (differs_of g t v a b can) x.underway.steps x.underway.path

      leads : Leads g (end_of v x.underway.steps) (next_colour a b x.underway.steps) e w
      leads = rw (x.underway.at_is, x.underway.next_is) l

      new_edge : IsEdgeOf e x.underway.steps → ⊥
      new_edge on = fresh_edge g can.tabled.proper v a b x.underway.steps (differs_of g t v a b can) x.underway.path alone e w leads on

      new_node : IsNodeOf w v x.underway.steps → ⊥
      new_node on = fresh g can.tabled.proper v a b x.underway.steps can.lacks (differs_of g t v a b can) x.underway.path alone e w leads on

      within : e.0 < length painted
      within = rw x.painted_len (slice_get_within g.painted e.0 (Some next) l.colour)

      -- the colour after this one
      other_is : swapped a b next ≡ other
      other_is =
          elim (underway_pair g v a b at next other n x.underway) [
            | inl h ↦ rw (h.0, h.1) (swapped_first a b)
            | inr h ↦ rw (h.0, h.1) (swapped_second a b)
          ]

      on_more : (f : EdgeId) (k : Colour) → IsEdgeOf f x.underway.steps ⊎ (e ≡ f) → HasColour g f k
          → slice_get (set painted e.0 (Some other)) f.0 ≡ Some (Some (swapped a b k))
      on_more f k c h =
          elim c [
            | inl on ↦ slice_get-set_other painted e.0 f.0 (Some other) (λ m. new_edge (rw (same_edge f e m) at on)) ∙ x.on f k on h
            | inr here ↦
                let same : k ≡ next = same_colour g e k next (rw (← here) at h) l.colour in
                rw (← here, same, other_is) (slice_get-set_same painted e.0 (Some other) within)
          ]

abbrev pub recoloured : Colouring → List (Option Colour) → Colouring
recoloured g painted = record g { painted = painted }

-- an inner node of a walk has both colours
inner_has : (g : Colouring) (v : CopyId) (a b : Colour) (steps : List WalkStep) → IsPath g v a b steps → (u : CopyId) → IsNodeOf u v steps
    → u ≢ v → u ≢ end_of v steps → IsPresent g u a × IsPresent g u b
inner_has g v a b [] path u at nv ne = absurd (nv (sym at))
inner_has g v a b (s ∷ rest) path u at nv ne =
    elim at [
      | inl h ↦ absurd (nv (sym h))
      | inr h ↦ elim (copy_cases u s.to) [
        | inl here ↦ after rest here path.1 ne
        | inr there ↦ (let r = inner_has g s.to b a rest path.1 u h there ne in (r.1, r.0))
      ]
    ]
  where
    after : (rest : List WalkStep) → u ≡ s.to → IsPath g s.to b a rest → u ≢ end_of s.to rest → IsPresent g u a × IsPresent g u b
    after [] here path' ne' = absurd (ne' here)
    after (r ∷ more) here path' ne' = rw here ((r.edge, r.to, path'.0), (s.edge, v, leads_back path.0))

module _ (g : Colouring) (t : List (Option EdgeId)) (painted : List (Option Colour)) (table : List (Option EdgeId)) (v : CopyId) (a b : Colour)
    (can : CanExchange g t v a b) (steps : List WalkStep) (x : IsExchanged g t painted table v a b steps) where
  path : IsPath g v a b steps
  path = (path_of_walk g v a b steps x.walk).0

  turn_in : (k : Colour) → k.0 < g.colours → (swapped a b k).0 < g.colours
  turn_in k h = swapped_in_range a b k g.colours can.lacks.in_range (has_in_range g t v a b can) h

  -- the colour of an edge of the walk, before
  on_before : (e : EdgeId) (k : Colour) → IsEdgeOf e steps → HasColour (recoloured g painted) e k → HasColour g e (swapped a b k)
  on_before e k on h =
      let r = path_edge g v a b steps path e on in
      let now : k ≡ swapped a b r.colour = cc (h, x.on e r.colour on r.leads.colour) in
      rw (now, swapped_twice a b r.colour) r.leads.colour

  -- at a node of the walk the two colours have changed places
  colour_at : (u : CopyId) → IsNodeOf u v steps → (e : EdgeId) (w : CopyId) → Joins g e u w → (k : Colour)
      → HasColour (recoloured g painted) e k ↔ HasColour g e (swapped a b k)
  colour_at u at e w j k =
      elim (path_edge_cases e steps) [
        | inl on ↦ (on_before e k on, λ h. rw (swapped_twice a b k) at (x.on e (swapped a b k) on h))
        | inr off ↦
            let not_on : (l : Colour) → (l ≡ a) ⊎ (l ≡ b) → HasColour g e l → ⊥ =
            λ l of_two h. off (walk_closed g can.tabled.proper v a b can.lacks steps x.walk u at l e w (record { joins = j; colour = h }) of_two) in
            elim (turn_cases a b k) [
              | is_first h m ↦ (λ c. absurd (not_on k (inl h) (sym (x.off e off) ∙ c)), λ c. absurd (not_on (swapped a b k) (inr m) c))
              | is_second h m ↦ (λ c. absurd (not_on k (inr h) (sym (x.off e off) ∙ c)), λ c. absurd (not_on (swapped a b k) (inl m) c))
              | is_neither n1 n2 m ↦ (λ c. cc (c, x.off e off, m), λ c. cc (c, x.off e off, m))
            ]
      ]

  -- and an edge elsewhere keeps its colour
  colour_off : (u : CopyId) → (IsNodeOf u v steps → ⊥) → (e : EdgeId) (w : CopyId) → Joins g e u w → slice_get painted e.0 ≡ slice_get g.painted e.0
  colour_off u off e w j = x.off e (λ on. off (end_on_path g v a b steps path e on u w j))

  -- the table stays right
  pub IsTabled-exchanged : IsTabled (recoloured g painted) table
  IsTabled-exchanged =
      record {
        proper = record {
          one_each = x.painted_len ∙ can.tabled.proper.one_each;
          nodes_in_range = can.tabled.proper.nodes_in_range;
          no_loop = can.tabled.proper.no_loop;
          colours_in_range = colours;
          apart = apart_by_table (recoloured g painted) table is_table can.tabled.proper.nodes_in_range colours;
        };
        table = is_table;
      }
    where
      colours : (e : EdgeId) (k : Colour) → HasColour (recoloured g painted) e k → k.0 < g.colours
      colours e k h =
          elim (path_edge_cases e steps) [
            | inl on ↦
                let was = can.tabled.proper.colours_in_range e (swapped a b k) (on_before e k on h) in
                rw (swapped_twice a b k) at (turn_in (swapped a b k) was)
            | inr off ↦ can.tabled.proper.colours_in_range e k (sym (x.off e off) ∙ h)
          ]

      entry : (u : CopyId) (k : Colour) (e : EdgeId) → u.0 < g.nodes → k.0 < g.colours
          → (slice_get table (place_of g u k) ≡ Some (Some e)) ↔ ((w : CopyId) × Leads (recoloured g painted) u k e w)
      entry u k e hu hk =
          elim (path_node_cases u v steps) [
            | inl at ↦
                let old = can.tabled.table.entry u (swapped a b k) e hu (turn_in k hk) in (
                  λ h.
                      let r = old.0 (sym (x.turned u k hk at) ∙ h) in
                      (r.0, record { joins = r.1.joins; colour = (colour_at u at e r.0 r.1.joins k).1 r.1.colour }),
                  λ h. x.turned u k hk at ∙ old.1 (h.0, record { joins = h.1.joins; colour = (colour_at u at e h.0 h.1.joins k).0 h.1.colour }),
                )
            | inr off ↦
                let old = can.tabled.table.entry u k e hu hk in (
                  λ h.
                      let r = old.0 (sym (x.kept u k hk off) ∙ h) in
                      (r.0, record { joins = r.1.joins; colour = colour_off u off e r.0 r.1.joins ∙ r.1.colour }),
                  λ h. x.kept u k hk off ∙ old.1 (h.0, record { joins = h.1.joins; colour = sym (colour_off u off e h.0 h.1.joins) ∙ h.1.colour }),
                )
          ]

      is_table : IsTableOf (recoloured g painted) table
      is_table = record { len = x.table_len; entry = entry }

  -- ---- the contract

  missing_at : (u : CopyId) → IsNodeOf u v steps → (k : Colour) → IsMissing (recoloured g painted) u k ↔ IsMissing g u (swapped a b k)
  missing_at u at k = (
    λ m. record {
      in_range = turn_in k m.in_range;
      absent = λ e w l. m.absent e w (record { joins = l.joins; colour = (colour_at u at e w l.joins k).1 l.colour });
    },
    λ m. record {
      in_range = rw (swapped_twice a b k) at (turn_in (swapped a b k) m.in_range);
      absent = λ e w l. m.absent e w (record { joins = l.joins; colour = (colour_at u at e w l.joins k).0 l.colour });
    },
  )

  missing_off : (u : CopyId) → (IsNodeOf u v steps → ⊥) → (k : Colour) → IsMissing (recoloured g painted) u k ↔ IsMissing g u k
  missing_off u off k =
      let same = λ (e : EdgeId) (w : CopyId) (j : Joins g e u w). colour_off u off e w j in (
        λ m. record { in_range = m.in_range; absent = λ e w l. m.absent e w (record { joins = l.joins; colour = same e w l.joins ∙ l.colour }) },
        λ m. record {
          in_range = m.in_range;
          absent = λ e w l. m.absent e w (record { joins = l.joins; colour = sym (same e w l.joins) ∙ l.colour });
        },
      )

  pub Exchanges-from : Exchanges g (recoloured g painted) v a b (end_of v steps)
  Exchanges-from =
      record {
        walk = record { steps = steps; law = Walks.walk_law g can.tabled.proper v a b can.lacks can.has steps x.walk; end = refl };
        frame = refl;
        on = x.on;
        off = x.off;
        ends = λ u k c. missing_at u (elim c [ inl h ↦ rw h (IsNodeOf-start v steps) | inr h ↦ rw h (IsNodeOf-end_of v steps) ]) k;
        others = λ u k nv ne. elim (path_node_cases u v steps) [
          | inr off ↦ missing_off u off k
          | inl at ↦ inner u k at (inner_has g v a b steps path u at nv ne)
        ];
      }
    where
      lost : (u : CopyId) (k l : Colour) → k ≡ l → IsPresent g u l → IsMissing g u k → ⊥
      lost u k l h p m = m.absent p.0 p.1 (rw h p.2)

      inner : (u : CopyId) (k : Colour) → IsNodeOf u v steps → IsPresent g u a × IsPresent g u b
          → IsMissing (recoloured g painted) u k ↔ IsMissing g u k
      inner u k at p =
          let both = missing_at u at k in
          elim (turn_cases a b k) [
            | is_first h m ↦ (λ q. absurd (lost u (swapped a b k) b m p.1 (both.0 q)), λ q. absurd (lost u k a h p.0 q))
            | is_second h m ↦ (λ q. absurd (lost u (swapped a b k) a m p.0 (both.0 q)), λ q. absurd (lost u k b h p.1 q))
            | is_neither n1 n2 m ↦ rw m at both
          ]

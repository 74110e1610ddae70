-- Paths of two colours in a proper colouring: they repeat no node, are unique, and go back the same way.
use Rattle.mig_board.proofs.Common.{All, All-cons, All-contains, All-nil, AllPairs, Colour, Colouring, Contains-from_any, CopyId, EdgeId, HasColour, IsDistinct-cons, IsEdgeOf}
use Rattle.std.specs.List.{IsDistinct}
use Rattle.std.proofs.Math.Logic.{⊎_swap}
use Rattle.mig_board.proofs.Common.{IsMissing, IsNodeOf, IsPresent, IsProper, IsWalk, Joins, Leads, List, Option, Some, WalkLaw, WalkStep, WalksTo, [], ap, append-nil, append_assoc, arith, backwards}
use Rattle.mig_board.proofs.Common.{end_of, eqb, eqb-true, false, get_or, inl, inr, length, length-append, length-le_from_distinct_below, ne_eqb, next_colour, nodes_of, recursion_from_All, refl}
use Rattle.mig_board.proofs.Common.{same_copy, some_pair_parts, subst, suc, sym, zero, ℕ, ◌++◌, ◌+◌, ◌<◌, ◌∙◌, ◌∷◌, ◌↔◌, ◌≡◌, ◌≢◌, ◌⊎◌}

-- a walk that may still go on
abbrev pub IsPath : Colouring → CopyId → Colour → Colour → List WalkStep → Type 0
IsPath g v a b [] = Unit {0}
IsPath g v a b (s ∷ rest) = Leads g v b s.edge s.to × IsPath g s.to b a rest

abbrev pub NoRepeat : CopyId → List WalkStep → Type 0
NoRepeat v [] = Unit {0}
NoRepeat v (s ∷ rest) = (IsNodeOf v s.to rest → ⊥) × NoRepeat s.to rest

pub joins_back : (g : Colouring) (e : EdgeId) (v w : CopyId) → Joins g e v w → Joins g e w v
joins_back g e v w j = elim j [ inl h ↦ inr h | inr h ↦ inl h ]

pub leads_back : {g : Colouring} {v : CopyId} {k : Colour} {e : EdgeId} {w : CopyId} → Leads g v k e w → Leads g w k e v
leads_back {g} {v} {k} {e} {w} l = record { joins = joins_back g e v w l.joins; colour = l.colour }

-- two readings of one edge's ends
pub same_pair : (o : Option (CopyId × CopyId)) (a x b y : CopyId) → o ≡ Some (a, b) → o ≡ Some (x, y) → (a ≡ x) × (b ≡ y)
same_pair o a x b y h m = some_pair_parts a x b y (sym h ∙ m)

-- an edge at v has one other end
pub same_end : (g : Colouring) (p : IsProper g) (e : EdgeId) (v w x : CopyId) → Joins g e v w → Joins g e v x → w ≡ x
same_end g p e v w x j k = grind (arith, same_pair)

-- an edge has two ends
pub end_cases : (g : Colouring) (e : EdgeId) (v w u x : CopyId) → Joins g e v w → Joins g e u x → (u ≡ v) ⊎ (u ≡ w)
end_cases g e v w u x j k = grind (arith, same_pair)

pub same_colour : (g : Colouring) (e : EdgeId) (k l : Colour) → HasColour g e k → HasColour g e l → k ≡ l
same_colour g e k l h m = cc

pub same_step : (g : Colouring) (p : IsProper g) (v : CopyId) (k : Colour) (e f : EdgeId) (w x : CopyId) → Leads g v k e w → Leads g v k f x → (e ≡ f) × (w ≡ x)
same_step g p v k e f w x l m =
    let same : e ≡ f = p.apart v k e f w x l m in
    (same, same_end g p f v w x (subst (λ (q : EdgeId). Joins g q v w) same l.joins) m.joins)

-- a walk is a path to a node where the next colour is missing
pub path_of_walk : (g : Colouring) (v : CopyId) (a b : Colour) (steps : List WalkStep) → IsWalk g v a b steps → IsPath g v a b steps × IsMissing g (end_of v steps) (next_colour a b steps)
path_of_walk g v a b [] w = (tt, w)
path_of_walk g v a b (s ∷ rest) w = let r = path_of_walk g s.to b a rest w.1 in ((w.0, r.0), r.1)

pub walk_of_path : (g : Colouring) (v : CopyId) (a b : Colour) (steps : List WalkStep) → IsPath g v a b steps → IsMissing g (end_of v steps) (next_colour a b steps) → IsWalk g v a b steps
walk_of_path g v a b [] p m = m
walk_of_path g v a b (s ∷ rest) p m = (p.0, walk_of_path g s.to b a rest p.1 m)

abbrev pub step_of : EdgeId → CopyId → WalkStep
step_of e w = record { edge = e; to = w }

step_same : (s t : WalkStep) → s.edge ≡ t.edge → s.to ≡ t.to → s ≡ t
step_same s t e w = ap (λ (q : EdgeId). step_of q s.to) e ∙ ap (λ (q : CopyId). step_of t.edge q) w

-- there is one walk
pub walk_unique : (g : Colouring) (p : IsProper g) (v : CopyId) (a b : Colour) (xs ys : List WalkStep) → IsWalk g v a b xs → IsWalk g v a b ys → xs ≡ ys
walk_unique g p v a b [] [] w x = refl
walk_unique g p v a b [] (t ∷ ys) w x = absurd (w.absent t.edge t.to x.0)
walk_unique g p v a b (s ∷ xs) [] w x = absurd (x.absent s.edge s.to w.0)
walk_unique g p v a b (s ∷ xs) (t ∷ ys) w x =
    let same = same_step g p v b s.edge t.edge s.to t.to w.0 x.0 in
    let first : s ≡ t = step_same s t same.0 same.1 in
    let rest : IsWalk g s.to b a ys = subst (λ (q : CopyId). IsWalk g q b a ys) (sym same.1) x.1 in
    let later : xs ≡ ys = walk_unique g p s.to b a xs ys w.1 rest in
    cc

-- the last node is a node
pub IsNodeOf-end_of : (v : CopyId) (steps : List WalkStep) → IsNodeOf (end_of v steps) v steps
IsNodeOf-end_of v [] = refl
IsNodeOf-end_of v (s ∷ rest) = inr (IsNodeOf-end_of s.to rest)

pub IsNodeOf-start : (v : CopyId) (steps : List WalkStep) → IsNodeOf v v steps
IsNodeOf-start v [] = refl
IsNodeOf-start v (s ∷ rest) = inl refl

pub next_cases : (a b : Colour) (steps : List WalkStep) → (next_colour a b steps ≡ a) ⊎ (next_colour a b steps ≡ b)
next_cases a b [] = inr refl
next_cases a b (s ∷ rest) = elim (next_cases b a rest) [ inl h ↦ inr h | inr h ↦ inl h ]

pub next_differs : (a b : Colour) (steps : List WalkStep) → a ≢ b → next_colour a b steps ≢ next_colour b a steps
next_differs a b [] d = λ h. d (sym h)
next_differs a b (s ∷ rest) d = λ h. next_differs a b rest d (sym h)

-- at a node of a path the edges of the two colours are edges of the path, but for the colour before its start and the colour after its end
pub edge_on : (g : Colouring) (p : IsProper g) (v : CopyId) (a b : Colour) (steps : List WalkStep) → IsPath g v a b steps → (u : CopyId) → IsNodeOf u v steps → (k : Colour) (e : EdgeId) (x : CopyId) → Leads g u k e x → (k ≡ a) ⊎ (k ≡ b) → IsEdgeOf e steps ⊎ (((u ≡ v) × (k ≡ a)) ⊎ ((u ≡ end_of v steps) × (k ≡ next_colour a b steps)))
edge_on g p v a b [] path u at k e x l ab = elim ab [ inl h ↦ inr (inl (sym at, h)) | inr h ↦ inr (inr (sym at, h)) ]
edge_on g p v a b (s ∷ rest) path u at k e x l ab =
    elim at [
      | inl h ↦ elim ab [
        | inl m ↦ inr (inl (sym h, m))
        | inr m ↦ inl (inl (sym (p.apart v b e s.edge x s.to (rw (← h, m) at l) path.0)))
      ]
      | inr h ↦ elim (edge_on g p s.to b a rest path.1 u h k e x l (⊎_swap ab)) [
        | inl on ↦ inl (inr on)
        | inr other ↦ elim other [
          | inl first ↦ inl (inl (sym (p.apart s.to b e s.edge x v (rw (first.0, first.1) at l) (leads_back path.0))))
          | inr last ↦ inr (inr last)
        ]
      ]
    ]

-- the only edge of the path at its last node is the last one
pub last_edge : (g : Colouring) (p : IsProper g) (v : CopyId) (a b : Colour) (steps : List WalkStep) → IsPath g v a b steps → NoRepeat v steps → (k : Colour) (f : EdgeId) (x : CopyId) → IsEdgeOf f steps → Leads g (end_of v steps) k f x → k ≡ next_colour b a steps
last_edge g p v a b [] path n k f x on l = absurd on
last_edge g p v a b (s ∷ rest) path n k f x on l =
    elim on [
      | inl h ↦ elim (end_cases g s.edge v s.to (end_of s.to rest) x path.0.joins (subst (λ (q : EdgeId). Joins g q (end_of s.to rest) x) (sym h) l.joins)) [
        | inl back ↦ absurd (n.0 (subst (λ (q : CopyId). IsNodeOf q s.to rest) back (IsNodeOf-end_of s.to rest)))
        | inr here ↦ last_here rest n.1 here (same_colour g f k b l.colour (subst (λ (q : EdgeId). HasColour g q b) h path.0.colour))
      ]
      | inr h ↦ last_edge g p s.to b a rest path.1 n.1 k f x h l
    ]
  where
    last_here : (rest : List WalkStep) → NoRepeat s.to rest → end_of s.to rest ≡ s.to → k ≡ b → k ≡ next_colour a b rest
    last_here [] n here c = c
    last_here (t ∷ more) n here c = absurd (n.0 (subst (λ (q : CopyId). IsNodeOf q t.to more) here (IsNodeOf-end_of t.to more)))

-- the next node of a path is a new one
pub fresh : (g : Colouring) (p : IsProper g) (v : CopyId) (a b : Colour) (steps : List WalkStep) → IsMissing g v a → a ≢ b → IsPath g v a b steps → NoRepeat v steps → (e : EdgeId) (w : CopyId) → Leads g (end_of v steps) (next_colour a b steps) e w → IsNodeOf w v steps → ⊥
fresh g p v a b steps m d path n e w l at =
    elim (edge_on g p v a b steps path w at (next_colour a b steps) e (end_of v steps) (leads_back l) (next_cases a b steps)) [
      | inl on ↦ next_differs a b steps d (last_edge g p v a b steps path n (next_colour a b steps) e w on l)
      | inr other ↦ elim other [
        | inl first ↦ m.absent e (end_of v steps) (subst (λ (q : CopyId). Leads g q a e (end_of v steps)) first.0 (subst (λ (q : Colour). Leads g w q e (end_of v steps)) first.1 (leads_back l)))
        | inr last ↦ p.no_loop e (end_of v steps) w l.joins (sym last.0)
      ]
    ]

-- one more step
pub IsPath-push : (g : Colouring) (v : CopyId) (a b : Colour) (steps : List WalkStep) (e : EdgeId) (w : CopyId) → IsPath g v a b steps → Leads g (end_of v steps) (next_colour a b steps) e w → IsPath g v a b (steps ++ step_of e w ∷ [])
IsPath-push g v a b [] e w path l = (l, tt)
IsPath-push g v a b (s ∷ rest) e w path l = (path.0, IsPath-push g s.to b a rest e w path.1 l)

pub end_of-push : (v : CopyId) (steps : List WalkStep) (s : WalkStep) → end_of v (steps ++ s ∷ []) ≡ s.to
end_of-push v [] s = refl
end_of-push v (t ∷ rest) s = end_of-push t.to rest s

pub next_of-push : (a b : Colour) (steps : List WalkStep) (s : WalkStep) → next_colour a b (steps ++ s ∷ []) ≡ next_colour b a steps
next_of-push a b [] s = refl
next_of-push a b (t ∷ rest) s = next_of-push b a rest s

-- what is on a path with one more step is on the path, or the step has it
one_more : {P Q R S : Type 0} → P ↔ (Q ⊎ R) → (S ⊎ P) ↔ ((S ⊎ Q) ⊎ R)
one_more r = (
  λ h. elim h [ inl s ↦ inl (inl s) | inr p ↦ elim (r.0 p) [ inl q ↦ inl (inr q) | inr x ↦ inr x ] ],
  λ h. elim h [ inl m ↦ elim m [ inl s ↦ inl s | inr q ↦ inr (r.1 (inl q)) ] | inr x ↦ inr (r.1 (inr x)) ],
)

pub IsNodeOf-push : (u v : CopyId) (steps : List WalkStep) (s : WalkStep) → IsNodeOf u v (steps ++ s ∷ []) ↔ (IsNodeOf u v steps ⊎ (s.to ≡ u))
IsNodeOf-push u v [] s = (λ h. h, λ h. h)
IsNodeOf-push u v (t ∷ rest) s = one_more (IsNodeOf-push u t.to rest s)

pub IsEdgeOf-push : (e : EdgeId) (steps : List WalkStep) (s : WalkStep) → IsEdgeOf e (steps ++ s ∷ []) ↔ (IsEdgeOf e steps ⊎ (s.edge ≡ e))
IsEdgeOf-push e [] s = (⊎_swap, ⊎_swap)
IsEdgeOf-push e (t ∷ rest) s = one_more (IsEdgeOf-push e rest s)

pub NoRepeat-push : (v : CopyId) (steps : List WalkStep) (s : WalkStep) → NoRepeat v steps → (IsNodeOf s.to v steps → ⊥) → NoRepeat v (steps ++ s ∷ [])
NoRepeat-push v [] s n new = ((λ (h : s.to ≡ v). new (sym h)), tt)
NoRepeat-push v (t ∷ rest) s n new = (
  (λ (h : IsNodeOf v t.to (rest ++ s ∷ [])). elim ((IsNodeOf-push v t.to rest s).0 h) [ inl m ↦ n.0 m | inr m ↦ new (inl (sym m)) ]),
  NoRepeat-push t.to rest s n.1 (λ (h : IsNodeOf s.to t.to rest). new (inr h)),
)

-- a path in the other direction
pub record IsBack (g : Colouring) (v : CopyId) (a b : Colour) (steps : List WalkStep) : Type 0 where
  pub path : IsPath g (end_of v steps) (next_colour a b steps) (next_colour b a steps) (backwards v steps)
  pub end : end_of (end_of v steps) (backwards v steps) ≡ v
  pub next : next_colour (next_colour a b steps) (next_colour b a steps) (backwards v steps) ≡ a
  pub other : next_colour (next_colour b a steps) (next_colour a b steps) (backwards v steps) ≡ b

pub path_back : (g : Colouring) (v : CopyId) (a b : Colour) (steps : List WalkStep) → IsPath g v a b steps → IsBack g v a b steps
path_back g v a b [] path = record { path = tt; end = refl; next = refl; other = refl }
path_back g v a b (s ∷ rest) path =
    let r = path_back g s.to b a rest path.1 in
    let w = end_of s.to rest in
    let l : Leads g (end_of w (backwards s.to rest)) (next_colour (next_colour b a rest) (next_colour a b rest) (backwards s.to rest)) s.edge v =
    rw (r.end, r.next) (leads_back path.0) in
    record {
      path = IsPath-push g w (next_colour b a rest) (next_colour a b rest) (backwards s.to rest) s.edge v r.path l;
      end = end_of-push w (backwards s.to rest) (step_of s.edge v);
      next = next_of-push (next_colour b a rest) (next_colour a b rest) (backwards s.to rest) (step_of s.edge v) ∙ r.other;
      other = next_of-push (next_colour a b rest) (next_colour b a rest) (backwards s.to rest) (step_of s.edge v) ∙ r.next;
    }

-- the walk from the end is the same walk backwards
pub walk_back : (g : Colouring) (v : CopyId) (a b : Colour) (steps : List WalkStep) → IsMissing g v a → IsWalk g v a b steps → IsWalk g (end_of v steps) (next_colour a b steps) (next_colour b a steps) (backwards v steps)
walk_back g v a b steps m w = grind (arith, path_back, path_of_walk, walk_of_path)

-- a path that goes on from a path without repeats
pub NoRepeat-append : (g : Colouring) (p : IsProper g) (v : CopyId) (a b : Colour) → IsMissing g v a → a ≢ b → (steps more : List WalkStep) → IsPath g v a b steps → NoRepeat v steps → IsPath g (end_of v steps) (next_colour b a steps) (next_colour a b steps) more → NoRepeat v (steps ++ more)
NoRepeat-append g p v a b m d steps [] path n on = subst (λ (q : List WalkStep). NoRepeat v q) (sym (append-nil steps)) n
NoRepeat-append g p v a b m d steps (s ∷ more) path n on =
    let next : List WalkStep = steps ++ s ∷ [] in
    let after : IsPath g (end_of v next) (next_colour b a next) (next_colour a b next) more =
    rw (end_of-push v steps s, next_of-push b a steps s, next_of-push a b steps s) on.1 in
    let new = λ (h : IsNodeOf s.to v steps). fresh g p v a b steps m d path n s.edge s.to on.0 h in
    subst (λ (q : List WalkStep). NoRepeat v q) (append_assoc steps (s ∷ []) more)
    (NoRepeat-append g p v a b m d next more (IsPath-push g v a b steps s.edge s.to path on.0) (NoRepeat-push v steps s n new) after)

-- a path from a node where its second colour is missing repeats no node
pub path_no_repeat : (g : Colouring) (p : IsProper g) (v : CopyId) (a b : Colour) → IsMissing g v a → a ≢ b → (steps : List WalkStep) → IsPath g v a b steps → NoRepeat v steps
path_no_repeat g p v a b m d steps path = NoRepeat-append g p v a b m d [] steps tt tt path

-- at its end a walk lacks the colour that would come next and has the other one
pub last_leads : (g : Colouring) (v : CopyId) (a b : Colour) (s : WalkStep) (rest : List WalkStep) → IsPath g v a b (s ∷ rest) → (e : EdgeId) × (w : CopyId) × Leads g (end_of v (s ∷ rest)) (next_colour b a (s ∷ rest)) e w
last_leads g v a b s [] path = (s.edge, v, leads_back path.0)
last_leads g v a b s (t ∷ rest) path = last_leads g s.to b a t rest path.1

-- ---- a path is shorter than the number of nodes

abbrev pub places : CopyId → List WalkStep → List ℕ
places v [] = v.0 ∷ []
places v (s ∷ rest) = v.0 ∷ places s.to rest

pub length-places : (v : CopyId) (steps : List WalkStep) → length (places v steps) ≡ length steps + 1
length-places v [] = refl
length-places v (s ∷ rest) = omega (arith, length-places s.to rest)

absent_places : (u v : CopyId) (steps : List WalkStep) → (IsNodeOf u v steps → ⊥) → All (λ n. eqb u.0 n ≡ false) (places v steps)
absent_places u v [] h = All-cons (λ n. eqb u.0 n ≡ false) v.0 [] (ne_eqb u.0 v.0 (λ e. h (sym (same_copy u v e)))) (All-nil (λ n. eqb u.0 n ≡ false))
absent_places u v (s ∷ rest) h =
    All-cons (λ n. eqb u.0 n ≡ false) v.0 (places s.to rest) (ne_eqb u.0 v.0 (λ e. h (inl (sym (same_copy u v e))))) (absent_places u s.to rest (λ (m : IsNodeOf u s.to rest). h (inr m)))

IsDistinct-places : (v : CopyId) (steps : List WalkStep) → NoRepeat v steps → IsDistinct eqb (places v steps)
unfolding IsDistinct
IsDistinct-places v [] n = IsDistinct-cons eqb v.0 [] tt tt
IsDistinct-places v (s ∷ rest) n =
    IsDistinct-cons eqb v.0 (places s.to rest) (recursion_from_All (λ m. eqb v.0 m ≡ false) (places s.to rest) (absent_places v s.to rest n.0)) (IsDistinct-places s.to rest n.1)

places_below : (g : Colouring) (p : IsProper g) (v : CopyId) (a b : Colour) (steps : List WalkStep) → v.0 < g.nodes → IsPath g v a b steps → All (λ n. n < g.nodes) (places v steps)
places_below g p v a b [] h path = All-cons (λ n. n < g.nodes) v.0 [] h (All-nil (λ n. n < g.nodes))
places_below g p v a b (s ∷ rest) h path =
    All-cons (λ n. n < g.nodes) v.0 (places s.to rest) h (places_below g p s.to b a rest (p.nodes_in_range s.edge s.to v (joins_back g s.edge v s.to path.0.joins)) path.1)

-- a path without repeats has fewer steps than there are nodes
pub path_is_short : (g : Colouring) (p : IsProper g) (v : CopyId) (a b : Colour) (steps : List WalkStep) → v.0 < g.nodes → IsPath g v a b steps → NoRepeat v steps → length steps < g.nodes
path_is_short g p v a b steps h path n =
    omega (
      arith,
      length-places v steps,
      length-le_from_distinct_below (places v steps) g.nodes (IsDistinct-places v steps n)
          (λ q any. All-contains (λ m. m < g.nodes) (places v steps) q (places_below g p v a b steps h path) (Contains-from_any eqb-true q (places v steps) any)),
    )

-- ---- what holds of a walk

IsNodeOf-get_or : (v : CopyId) (steps : List WalkStep) (j : ℕ) (d : CopyId) → j < length (nodes_of v steps) → IsNodeOf (get_or (nodes_of v steps) j d) v steps
IsNodeOf-get_or v [] zero d h = refl
IsNodeOf-get_or v [] (suc j) d h = absurd (omega arith)
IsNodeOf-get_or v (s ∷ rest) zero d h = inl refl
IsNodeOf-get_or v (s ∷ rest) (suc j) d h = inr (IsNodeOf-get_or s.to rest j d (omega arith))

pub AllPairs-nodes_of : (v : CopyId) (steps : List WalkStep) → NoRepeat v steps → AllPairs (λ u w. u ≢ w) (nodes_of v steps)
AllPairs-nodes_of v [] n i zero d lt within = absurd (omega arith)
AllPairs-nodes_of v [] n i (suc j) d lt within = absurd (omega arith)
AllPairs-nodes_of v (s ∷ rest) n i zero d lt within = absurd (omega arith)
AllPairs-nodes_of v (s ∷ rest) n zero (suc j) d lt within = λ e. n.0 (subst (λ (u : CopyId). IsNodeOf u s.to rest) (sym e) (IsNodeOf-get_or s.to rest j d (omega arith)))
AllPairs-nodes_of v (s ∷ rest) n (suc i) (suc j) d lt within = AllPairs-nodes_of s.to rest n.1 i j d (omega arith) (omega arith)

pub missing_differs : (g : Colouring) (v : CopyId) (a b : Colour) → IsMissing g v a → IsPresent g v b → a ≢ b
missing_differs g v a b m h = λ e. m.absent h.0 h.1 (subst (λ (k : Colour). Leads g v k h.0 h.1) (sym e) h.2)

pub walk_law : (g : Colouring) (p : IsProper g) (v : CopyId) (a b : Colour) → IsMissing g v a → IsPresent g v b → (steps : List WalkStep) → IsWalk g v a b steps → WalkLaw g v a b steps
walk_law g p v a b m h [] w = absurd (w.absent h.0 h.1 h.2)
walk_law g p v a b m h (s ∷ rest) w =
    let r = path_of_walk g v a b (s ∷ rest) w in
    record {
      walk = w;
      only = λ others x. walk_unique g p v a b others (s ∷ rest) x w;
      no_repeat = AllPairs-nodes_of v (s ∷ rest) (path_no_repeat g p v a b m (missing_differs g v a b m h) (s ∷ rest) r.0);
      some = omega arith;
      lacks = r.1;
      has = last_leads g v a b s rest r.0;
      back = walk_back g v a b (s ∷ rest) m w;
    }

-- a walk so far, n steps long
pub record IsUnderway (g : Colouring) (v : CopyId) (a b : Colour) (at : CopyId) (next other : Colour) (n : ℕ) : Type 0 where
  pub steps : List WalkStep
  pub path : IsPath g v a b steps
  pub at_is : end_of v steps ≡ at
  pub next_is : next_colour a b steps ≡ next
  pub other_is : next_colour b a steps ≡ other
  pub count : length steps ≡ n

abbrev pub underway_start : (g : Colouring) (v : CopyId) (a b : Colour) → IsUnderway g v a b v b a 0
underway_start g v a b = record { steps = []; path = tt; at_is = refl; next_is = refl; other_is = refl; count = refl }

abbrev pub underway_more : (g : Colouring) (v : CopyId) (a b : Colour) (at : CopyId) (next other : Colour) (n : ℕ) → IsUnderway g v a b at next other n → (e : EdgeId) (w : CopyId) → Leads g at next e w → IsUnderway g v a b w other next (n + 1)
underway_more g v a b at next other n u e w l =
    record {
      steps = u.steps ++ step_of e w ∷ [];
      path = IsPath-push g v a b u.steps e w u.path (rw (u.at_is, u.next_is) l);
      at_is = end_of-push v u.steps (step_of e w);
      next_is = next_of-push a b u.steps (step_of e w) ∙ u.other_is;
      other_is = next_of-push b a u.steps (step_of e w) ∙ u.next_is;
      count = omega (arith, length-append u.steps (step_of e w ∷ []), u.count);
    }

pub underway_end : (g : Colouring) (p : IsProper g) (v : CopyId) (a b : Colour) → IsMissing g v a → IsPresent g v b → (at : CopyId) (next other : Colour) (n : ℕ) → IsUnderway g v a b at next other n → IsMissing g at next → WalksTo g v a b at
underway_end g p v a b m h at next other n u last =
    record {
      steps = u.steps;
      law = walk_law g p v a b m h u.steps (walk_of_path g v a b u.steps u.path (rw (u.at_is, u.next_is) last));
      end = u.at_is;
    }

-- a walk ends before it has as many steps as there are nodes
pub underway_short : (g : Colouring) (p : IsProper g) (v : CopyId) (a b : Colour) → IsMissing g v a → IsPresent g v b → (at : CopyId) (next other : Colour) (n : ℕ) → IsUnderway g v a b at next other n → n < g.nodes
underway_short g p v a b m h at next other n u =
    omega (arith, u.count, path_is_short g p v a b u.steps (p.nodes_in_range h.0 v h.1 h.2.joins) u.path (path_no_repeat g p v a b m (missing_differs g v a b m h) u.steps u.path))

pub end_in_range : (g : Colouring) (p : IsProper g) (v : CopyId) (a b : Colour) (steps : List WalkStep) → v.0 < g.nodes → IsPath g v a b steps → (end_of v steps).0 < g.nodes
end_in_range g p v a b [] h path = h
end_in_range g p v a b (s ∷ rest) h path = end_in_range g p s.to b a rest (p.nodes_in_range s.edge s.to v (joins_back g s.edge v s.to path.0.joins)) path.1

pub underway_at : (g : Colouring) (p : IsProper g) (v : CopyId) (a b : Colour) → IsPresent g v b → (at : CopyId) (next other : Colour) (n : ℕ) → IsUnderway g v a b at next other n → at.0 < g.nodes
underway_at g p v a b h at next other n u =
    subst (λ (q : CopyId). q.0 < g.nodes) u.at_is (end_in_range g p v a b u.steps (p.nodes_in_range h.0 v h.1 h.2.joins) u.path)

pub underway_next : (g : Colouring) (p : IsProper g) (v : CopyId) (a b : Colour) → IsMissing g v a → IsPresent g v b → (at : CopyId) (next other : Colour) (n : ℕ) → IsUnderway g v a b at next other n → (next.0 < g.colours) × (other.0 < g.colours)
underway_next g p v a b m h at next other n u = grind (arith, next_cases)

pub next_pair : (a b : Colour) (steps : List WalkStep) → ((next_colour a b steps ≡ a) × (next_colour b a steps ≡ b)) ⊎ ((next_colour a b steps ≡ b) × (next_colour b a steps ≡ a))
next_pair a b [] = inr (refl, refl)
next_pair a b (s ∷ rest) = elim (next_pair b a rest) [ inl h ↦ inr h | inr h ↦ inl h ]

pub underway_pair : (g : Colouring) (v : CopyId) (a b : Colour) (at : CopyId) (next other : Colour) (n : ℕ) → IsUnderway g v a b at next other n → ((next ≡ a) × (other ≡ b)) ⊎ ((next ≡ b) × (other ≡ a))
underway_pair g v a b at next other n u = grind (arith, next_pair)

-- Counting the edges that are left without a colour.
use Rattle.mig_shannon.proofs.Common.{Bool, Colour, Colouring, EdgeId, Grows, IsComplete, IsPainted, IsPlain, IsProper, List, None, Option, PaintsOne, Recolours, Some, add-one, ap, arith}
use Rattle.mig_shannon.proofs.Common.{count_by, edges_left, false, get_or, get_or-le-sum_by, inl, inr, is_none, length, one, refl, same_Some, slice_get, slice_get-get_or, subst, suc, sum_by_more}
use Rattle.mig_shannon.proofs.Common.{sym, take, take_all, true, zero, ℕ, ◌+◌, ◌<◌, ◌∙◌, ◌≡◌, ◌≤◌, ◌⊎◌}
use Rattle.mig_shannon.proofs.Growing.{Grows-trans}

abbrev pub no_colour : Option Colour
no_colour = None

abbrev pub edge : ℕ → EdgeId
edge n = record { 0 = n }

-- the colour at a place of the list
abbrev pub colour_of : Colouring → ℕ → Option Colour
colour_of g n = get_or g.painted n no_colour

there : (g : Colouring) (n : ℕ) → n < length g.painted → slice_get g.painted n ≡ Some (colour_of g n)
there g n h = slice_get-get_or g.painted n no_colour h

pub painted_none : (g : Colouring) (n : ℕ) → n < length g.painted → IsPainted g (edge n) → is_none (colour_of g n) ≡ false
painted_none g n h p = ap is_none (same_Some (colour_of g n) (Some p.0) (sym (there g n h) ∙ p.1))

pub plain_none : (g : Colouring) (n : ℕ) → n < length g.painted → IsPlain g (edge n) → is_none (colour_of g n) ≡ true
plain_none g n h p = ap is_none (same_Some (colour_of g n) None (sym (there g n h) ∙ p))

-- an edge has a colour or none
edge_is : (g : Colouring) (n : ℕ) → n < length g.painted → (o : Option Colour) → colour_of g n ≡ o → IsPainted g (edge n) ⊎ IsPlain g (edge n)
edge_is g n h (Some k) e = inl (k, there g n h ∙ ap (λ (o : Option Colour). Some o) e)
edge_is g n h None e = inr (there g n h ∙ ap (λ (o : Option Colour). Some o) e)

-- the first edges that are left are as many where each of them has a colour or none as before
left_same : (g h : Colouring) (n : ℕ) → n ≤ length g.painted → n ≤ length h.painted → ((m : ℕ) → m < n → is_none (colour_of g m) ≡ is_none (colour_of h m)) → count_by is_none (take n g.painted) ≡ count_by is_none (take n h.painted)
left_same g h zero l m same = refl
left_same g h (suc n) l m same =
    let rest = left_same g h n (omega arith) (omega arith) (λ k q. same k (omega arith)) in
    let a = sum_by_more (λ (o : Option Colour). one (is_none o)) g.painted n no_colour (omega arith) in
    let b = sum_by_more (λ (o : Option Colour). one (is_none o)) h.painted n no_colour (omega arith) in
    let e = ap one (same n (omega arith)) in
    subst (λ k. count_by is_none (take k g.painted) ≡ count_by is_none (take k h.painted)) (add-one n) (omega (arith, rest, a, b, e))

-- the first n edges that are left, and one more
pub left_more : (g : Colouring) (n : ℕ) (b : Bool) → n < length g.painted → is_none (colour_of g n) ≡ b → count_by is_none (take (n + 1) g.painted) ≡ count_by is_none (take n g.painted) + one b
left_more g n b h e = omega (arith, sum_by_more (λ (o : Option Colour). one (is_none o)) g.painted n no_colour h, ap one e)

pub left_recoloured : (g h : Colouring) (n : ℕ) → n ≤ length g.painted → n ≤ length h.painted → Recolours g h → count_by is_none (take n h.painted) ≡ count_by is_none (take n g.painted)
left_recoloured g h n l m r = sym (left_same g h n l m (λ k q. as_before k q (edge_is g k (omega (arith, l, q)) (colour_of g k) refl)))
  where
    as_before : (k : ℕ) → k < n → IsPainted g (edge k) ⊎ IsPlain g (edge k) → is_none (colour_of g k) ≡ is_none (colour_of h k)
    as_before k q is = elim is [
      | inl p ↦ painted_none g k (omega (arith, l, q)) p ∙ sym (painted_none h k (omega (arith, m, q)) (r.kept (edge k) p))
      | inr p ↦ plain_none g k (omega (arith, l, q)) p ∙ sym (plain_none h k (omega (arith, m, q)) (r.plain (edge k) p))
    ]

pub left_painted : (g h : Colouring) (n : ℕ) (e : EdgeId) → e.0 ≡ n → n ≤ length g.painted → n ≤ length h.painted → PaintsOne g h e → count_by is_none (take n h.painted) ≡ count_by is_none (take n g.painted)
left_painted g h n e is_n l m r = sym (left_same g h n l m (λ k q. as_before k q (edge_is g k (omega (arith, l, q)) (colour_of g k) refl)))
  where
    as_before : (k : ℕ) → k < n → IsPainted g (edge k) ⊎ IsPlain g (edge k) → is_none (colour_of g k) ≡ is_none (colour_of h k)
    as_before k q is = elim is [
      | inl p ↦ painted_none g k (omega (arith, l, q)) p ∙ sym (painted_none h k (omega (arith, m, q)) (r.kept (edge k) p))
      | inr p ↦ plain_none g k (omega (arith, l, q)) p ∙ sym (plain_none h k (omega (arith, m, q)) (r.plain (edge k) (λ same. absurd (omega (arith, same, is_n, q))) p))
    ]

-- all edges are the first ones
pub left_all : (g : Colouring) (n : ℕ) → length g.painted ≤ n → count_by is_none (take n g.painted) ≡ edges_left g
left_all g n h = ap (λ (xs : List (Option Colour)). count_by is_none xs) (take_all n g.painted h)

-- none is left where each has a colour, and the other way round
pub complete_left : (g : Colouring) → IsProper g → edges_left g ≡ 0 → IsComplete g
complete_left g p none e h =
    let within : e.0 < length g.painted = omega (arith, h, p.one_each) in
    elim (edge_is g e.0 within (colour_of g e.0) refl) [
      | inl x ↦ x
      | inr x ↦ absurd (omega (arith, none, get_or-le-sum_by (λ (o : Option Colour). one (is_none o)) g.painted e.0 no_colour within, ap one (plain_none g e.0 within x)))
    ]

none_left : (g : Colouring) → IsProper g → IsComplete g → (n : ℕ) → n ≤ length g.painted → count_by is_none (take n g.painted) ≡ 0
none_left g p all zero h = refl
none_left g p all (suc n) h =
    let more = left_more g n false (omega arith) (painted_none g n (omega arith) (all (edge n) (omega (arith, p.one_each, h)))) in
    subst (λ k. count_by is_none (take k g.painted) ≡ 0) (add-one n) (omega (arith, more, none_left g p all n (omega arith)))

pub left_complete : (g : Colouring) → IsProper g → IsComplete g → edges_left g ≡ 0
left_complete g p all = sym (left_all g (length g.painted) (omega arith)) ∙ none_left g p all (length g.painted) (omega arith)

-- ---- the first edges, one after the other

-- the first n edges were tried
pub record AreTried (first now : Colouring) (n left : ℕ) : Type 0 where
  pub grows : Grows first now
  pub proper : IsProper now
  pub counted : left ≡ count_by is_none (take n now.painted)

-- the next edge had a colour
pub AreTried-same : (first now : Colouring) (n left : ℕ) → n < length now.ends → AreTried first now n left → IsPainted now (edge n) → AreTried first now (n + 1) left
AreTried-same first now n left h a p =
    let within : n < length now.painted = omega (arith, h, a.proper.one_each) in
    record { grows = a.grows; proper = a.proper; counted = omega (arith, a.counted, left_more now n false within (painted_none now n within p)) }

-- it got one
pub AreTried-painted : (first now next : Colouring) (n left : ℕ) → n < length now.ends → AreTried first now n left → PaintsOne now next (edge n) → IsProper next → AreTried first next (n + 1) left
AreTried-painted first now next n left h a x p =
    let before : n < length now.painted = omega (arith, h, a.proper.one_each) in
    let after : n < length next.painted = omega (arith, h, p.one_each, ap (λ (g : Colouring). length g.ends) x.graph) in
    record {
      grows = Grows-trans first now next a.grows (record { graph = x.graph; kept = x.kept });
      proper = p;
      counted = omega (arith, a.counted, left_painted now next n (edge n) refl (omega arith) (omega arith) x, left_more next n false after (painted_none next n after x.here));
    }

-- it stays without one
pub AreTried-left : (first now next : Colouring) (n left : ℕ) → n < length now.ends → AreTried first now n left → IsPlain now (edge n) → Recolours now next → IsProper next → AreTried first next (n + 1) (left + 1)
AreTried-left first now next n left h a plain x p =
    let before : n < length now.painted = omega (arith, h, a.proper.one_each) in
    let after : n < length next.painted = omega (arith, h, p.one_each, ap (λ (g : Colouring). length g.ends) x.graph) in
    record {
      grows = Grows-trans first now next a.grows (record { graph = x.graph; kept = x.kept });
      proper = p;
      counted = omega (arith, a.counted, left_recoloured now next n (omega arith) (omega arith) x, left_more next n true after (plain_none next n after (x.plain (edge n) plain)));
    }

pub AreTried-is : (first now next : Colouring) (n left more : ℕ) → AreTried first now n left → next ≡ now → more ≡ left → AreTried first next n more
AreTried-is first now next n left more a same count =
    subst (λ k. AreTried first next n k) (sym count) (subst (λ (g : Colouring). AreTried first g n left) (sym same) a)

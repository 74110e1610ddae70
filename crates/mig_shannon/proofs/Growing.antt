-- Colourings in which more and more edges have a colour.
use Rattle.mig_shannon.proofs.Common.{Colour, Colouring, EdgeId, Grows, IsPainted, IsPlain, None, Option, PaintsOne, SameGraph, Some, ap, arith}
use Rattle.mig_shannon.proofs.Common.{cases_eq, false, inl, inr, is_some, same_edge, slice_get, subst, sym, true, ℕ, ◌+◌, ◌<◌, ◌∙◌, ◌≡◌}

pub Grows-trans : (a b c : Colouring) → Grows a b → Grows b c → Grows a c
Grows-trans a b c x y =
    record {
      graph = y.graph ∙ ap (λ (g : Colouring). record g { painted = c.painted }) x.graph;
      kept = λ e p. y.kept e (x.kept e p);
    }

-- the first n edges have a colour
pub record IsColoured (first now : Colouring) (n : ℕ) : Type 0 where
  pub graph : SameGraph first now
  pub done : (e : EdgeId) → e.0 < n → IsPainted now e

-- the next edge has a colour already
pub IsColoured-next : (first now : Colouring) (n : ℕ) (e : EdgeId) → e.0 ≡ n → IsColoured first now n → IsPainted now e → IsColoured first now (n + 1)
IsColoured-next first now n e is p here =
    record {
      graph = p.graph;
      done = λ f m. elim (cases_eq f.0 n) [
        | inl h ↦ subst (λ (q : EdgeId). IsPainted now q) (sym (same_edge f e (h ∙ sym is))) here
        | inr h ↦ p.done f (omega (arith, m, h))
      ];
    }

-- the next edge gets one
pub IsColoured-more : (first now next : Colouring) (n : ℕ) (e : EdgeId) → e.0 ≡ n → IsColoured first now n → PaintsOne now next e → IsColoured first next (n + 1)
IsColoured-more first now next n e is p x =
    IsColoured-next first next n e is
    (record { graph = x.graph ∙ ap (λ (g : Colouring). record g { painted = next.painted }) p.graph; done = λ f m. x.kept f (p.done f m) })
    x.here

pub IsColoured-is : (first now next : Colouring) (n : ℕ) → IsColoured first now n → next ≡ now → IsColoured first next n
IsColoured-is first now next n x same = subst (λ (g : Colouring). IsColoured first g n) (sym same) x

-- an edge whose colour is there has one
pub painted_some : (g : Colouring) (e : EdgeId) (o : Option Colour) → slice_get g.painted e.0 ≡ Some o → is_some o ≡ true → IsPainted g e
painted_some g e None h is = cc
painted_some g e (Some k) h is = (k, h)

-- and one whose colour isn't there has none
pub plain_none : (g : Colouring) (e : EdgeId) (o : Option Colour) → slice_get g.painted e.0 ≡ Some o → is_some o ≡ false → IsPlain g e
plain_none g e (Some k) h is = cc
plain_none g e None h is = h

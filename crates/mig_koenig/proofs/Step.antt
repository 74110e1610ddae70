-- One edge of a two-sided board, by a walk.
use Rattle.mig_koenig.proofs.Common.{Colour, Colouring, CopyId, EdgeId, Exchanges, IsFreeAt, IsMissing, IsPresent, IsProper, IsSplitAt, Joins, end_cases, ends_elsewhere, exchanges_joins}
use Rattle.mig_koenig.proofs.Common.{exchanges_start, inl, inr, subst, sym, ℕ}

-- after the exchange the colour is missing at both ends of the edge
pub free_after : (g new : Colouring) (left : ℕ) → IsProper g → IsSplitAt g left → (v u : CopyId) (a b : Colour) (w : CopyId) (e : EdgeId) → Joins g e v u → IsMissing g v a → IsPresent g v b → IsMissing g u b → Exchanges g new v a b w → IsFreeAt new e b
free_after g new left p two v u a b w e j m h mu x = λ q r jq.
    elim (end_cases g e v u q r j (exchanges_joins g new v a b w x e q r jq)) [
      | inl s ↦ subst (λ (y : CopyId). IsMissing new y b) (sym s) (exchanges_start g new v a b w x m)
      | inr s ↦ subst (λ (y : CopyId). IsMissing new y b) (sym s)
          ((x.others u b (λ same. p.no_loop e v u j (sym same)) (ends_elsewhere g left two v a b w u e m h x.walk j mu)).1 mu)
    ]

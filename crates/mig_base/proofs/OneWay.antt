-- Disks that only give items away or only take them have two sides.
use Rattle.mig_base.proofs.Common.{◌≡◌, ℕ, ◌<◌, true, ◌||◌, eqb, eq-eqb, List, [], ◌∷◌, suc, zero, length, get_or, refl, sym, ap, ◌∙◌, arith, list_any, Transfers, Transfer}
use Rattle.mig_base.proofs.Common.{false≢true}
use Rattle.std.proofs.Math.Bool.{or-true}
use Rattle.mig_base.specs.Bounding.{IsOneWay, gives}
use Rattle.mig_base.specs.Sides.{IsTwoSided}

-- the disk that a transfer leaves is left
given : (transfers : List Transfer) (k : ℕ) (d : Transfer) → k < length transfers → list_any (λ (t : Transfer). eqb t.leaves (get_or transfers k d).leaves) transfers ≡ true
given [] k d h = absurd (omega arith)
given (t ∷ ts) zero d h = ap (λ b. b || list_any (λ (u : Transfer). eqb u.leaves t.leaves) ts) (eq-eqb t.leaves t.leaves refl)
given (t ∷ ts) (suc k) d h = ap (λ b. eqb t.leaves (get_or ts k d).leaves || b) (given ts k d (omega arith)) ∙ or-true (eqb t.leaves (get_or ts k d).leaves)

pub one_way_sides : (graph : Transfers) → IsOneWay graph → IsTwoSided graph
one_way_sides graph one_way = (gives graph, λ k d h same. false≢true (sym (one_way k d h) ∙ sym same ∙ given graph.transfers k d h))

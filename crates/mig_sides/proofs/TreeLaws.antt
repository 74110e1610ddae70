-- Trees of reached disks that grow.
use Rattle.mig_sides.proofs.Common.{AreApart, AreTrees, IsExplored, IsJoined, IsParent, IsRootedAt, IsSome, List, Node, None, Option, Some, StayReached, Transfers, ap, arith, cases_eq, cases_lt, cond}
use Rattle.mig_sides.proofs.Common.{false≢true, get_or-set_other, get_or_past, inl, inr, is_none, is_some, length, node_at, none-some, refl, same_Some, set, subst, sum_by-set, sym, unreached, ℕ}
use Rattle.mig_sides.proofs.Common.{◌+◌, ◌<◌, ◌∙◌, ◌≡◌, ◌≢◌, ◌≤◌, ◌⊎◌}

pub known : (o : Option Node) → (o ≡ None) ⊎ ((node : Node) × (o ≡ Some node))
known None = inl refl
known (Some node) = inr (node, refl)

pub some_node : (o : Option Node) → IsSome o → (node : Node) × (o ≡ Some node)
some_node None some = absurd (false≢true some)
some_node (Some node) some = (node, refl)

-- one disk more is reached

pub one_less : (nodes : List (Option Node)) (v : ℕ) (node : Node) → v < length nodes → node_at nodes v ≡ None → unreached (set nodes v (Some node)) + 1 ≡ unreached nodes
one_less nodes v node h none =
    let f : Option Node → ℕ = λ o. cond (is_none o) 1 0 in
    less (unreached (set nodes v (Some node))) (unreached nodes) (f (node_at nodes v)) (f (Some node)) (sum_by-set f nodes v (Some node) None h) (ap f none) refl
  where
    less : (s u x y : ℕ) → s + x ≡ u + y → x ≡ 1 → y ≡ 0 → s + 1 ≡ u
    less s u x y e one none = omega arith

pub kept_set : (nodes : List (Option Node)) (v : ℕ) (node : Node) → node_at nodes v ≡ None → StayReached nodes (set nodes v (Some node))
kept_set nodes v node none w found is = elim (cases_eq w v) [
  | inl e ↦ absurd (none-some found (sym none ∙ ap (node_at nodes) (sym e) ∙ is))
  | inr ne ↦ get_or-set_other nodes v w (Some node) None ne ∙ is
]

-- what is known of a disk that is reached now
pub record IsWell (graph : Transfers) (nodes : List (Option Node)) (v : ℕ) (node : Node) : Type 0 where
  pub rooted : IsRootedAt nodes v node
  pub branch : node.rank ≢ 0 → IsJoined graph.transfers v node.parent.0
  pub low : node.rank + unreached nodes < length nodes

module _ (graph : Transfers) (old new : List (Option Node)) (kept : StayReached old new) where
  same_node : (v : ℕ) (m node : Node) → node_at old v ≡ Some m → node_at new v ≡ Some node → m ≡ node
  same_node v m node was is = same_Some m node (sym (kept v m was) ∙ is)

  still_rooted : (v : ℕ) (node : Node) → IsRootedAt old v node → IsRootedAt new v node
  still_rooted v node r = elim r [
    | inl a ↦ inl a
    | inr c ↦ inr (record { above = c.above; above_is = kept node.parent.0 c.above c.above_is; rank = c.rank; root = c.root })
  ]

  pub trees_more : length new ≡ length old → unreached new ≤ unreached old → ((v : ℕ) (node : Node) → node_at old v ≡ None → node_at new v ≡ Some node → IsWell graph new v node) → AreTrees graph old → AreTrees graph new
  trees_more len fewer well t = record {
    len = len ∙ t.len;
    rooted = λ v node is. elim (known (node_at old v)) [
      | inl none ↦ (well v node none is).rooted
      | inr m ↦ subst (λ (x : Node). IsRootedAt new v x) (same_node v m.0 node m.1 is) (still_rooted v m.0 (t.rooted v m.0 m.1))
    ];
    branches = λ v node is deep. elim (known (node_at old v)) [
      | inl none ↦ (well v node none is).branch deep
      | inr m ↦ t.branches v node (m.1 ∙ ap (λ (x : Node). Some x) (same_node v m.0 node m.1 is)) deep
    ];
    low = λ v node is. elim (known (node_at old v)) [
      | inl none ↦ (well v node none is).low
      | inr m ↦ omega (arith, t.low v node (m.1 ∙ ap (λ (x : Node). Some x) (same_node v m.0 node m.1 is)), len, fewer)
    ];
  }

  pub still_apart : (v w : ℕ) → AreApart old v w → AreApart new v w
  still_apart v w a = record { one = a.one; other = a.other; one_is = kept v a.one a.one_is; other_is = kept w a.other a.other_is; apart = a.apart }

  pub still_done : (v : ℕ) → IsExplored graph.transfers old v → IsExplored graph.transfers new v
  still_done v done w j = still_apart v w (done w j)

-- an edge joins a disk with its parent
pub parent_joined : (graph : Transfers) (nodes : List (Option Node)) (v p : ℕ) → AreTrees graph nodes → IsParent nodes v p → IsJoined graph.transfers v p
parent_joined graph nodes v p t is = subst (IsJoined graph.transfers v) is.parent (t.branches v is.node is.node_is is.deep)

-- what was reached is there
pub reached_there : (nodes : List (Option Node)) (v : ℕ) → IsSome (node_at nodes v) → v < length nodes
reached_there nodes v some = elim (cases_lt v (length nodes)) [
  | inl lt ↦ lt
  | inr ge ↦ absurd (false≢true (sym (ap is_some (get_or_past nodes v None ge)) ∙ some))
]

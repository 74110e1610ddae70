-- A search goes on from the disk that is next.
use Rattle.mig_sides.proofs.Common.{All, AreAllApart, AreAllReached, AreExplored, AreOnOneSide, AreTrees, Bool, Contains, DiskId, IsExplored, IsGrowing, IsJoined, IsMet, IsOddWalk, IsSome, StayReached}
use Rattle.mig_sides.proofs.Common.{IsTwoSided, IsWalkBetween, List, MatchOption, Node, None, Option, Reaches, Separates, Some, Transfers, Transfer, [], ap, arith, cases_eq, cases_lt, child_of}
use Rattle.mig_sides.proofs.Common.{count_by-le-length, disk_on, eqb, false, false≢true, get_or, get_or-map, get_or-set_other, get_or-set_same, get_or_default, inl, inr, is_none, is_odd_node}
use Rattle.mig_sides.proofs.Common.{is_some, length, length-set, map, nat_tests, node_at, none-some, refl, same_Some, set, side_of, subst, suc, sym, unreached, zero, ℕ, ◌%◌, ◌+◌, ◌<◌, ◌∙◌, ◌∷◌}
use Rattle.mig_sides.proofs.Common.{◌≡◌, ◌≤◌}
use Rattle.mig_sides.proofs.TreeLaws.{IsWell, known, kept_set, one_less, parent_joined, some_node, still_done, trees_more}
use Rattle.mig_sides.proofs.ReachLaws.{still_reached}
use Rattle.mig_sides.proofs.WalkLaws.{odd_none, turned}

-- ---- the root

abbrev pub root_node : DiskId → Node
root_node root = record { parent = root; root = root; rank = 0 }

module _ (graph : Transfers) (nodes : List (Option Node)) (root : DiskId) (s : AreExplored graph nodes) (there : root.0 < length nodes) (plain : node_at nodes root.0 ≡ None) where
  abbrev after : List (Option Node)
  after = set nodes root.0 (Some (root_node root))

  root_is : node_at after root.0 ≡ Some (root_node root)
  root_is = get_or-set_same nodes root.0 (Some (root_node root)) None there

  pub kept : StayReached nodes after
  kept = kept_set nodes root.0 (root_node root) plain

  fewer : unreached after + 1 ≡ unreached nodes
  fewer = one_less nodes root.0 (root_node root) there plain

  -- only the root is new
  is_root : (v : ℕ) (node : Node) → node_at nodes v ≡ None → node_at after v ≡ Some node → (v ≡ root.0) × (root_node root ≡ node)
  is_root v node none is = elim (cases_eq v root.0) [
    | inl e ↦ (e, same_Some (root_node root) node (sym root_is ∙ ap (node_at after) (sym e) ∙ is))
    | inr ne ↦ absurd (none-some node (sym none ∙ sym (get_or-set_other nodes root.0 v (Some (root_node root)) None ne) ∙ is))
  ]

  few : unreached nodes ≤ length nodes
  few = count_by-le-length is_none nodes

  well : (v : ℕ) (node : Node) → node_at nodes v ≡ None → node_at after v ≡ Some node → IsWell graph after v node
  well v node none is =
      let r = is_root v node none is in
      subst (λ (x : Node). IsWell graph after v x) r.1 (record {
        rooted = inl (refl, sym r.0);
        branch = λ deep. absurd (deep refl);
        low = omega (arith, fewer, few, length-set nodes root.0 (Some (root_node root)));
      })

  trees : AreTrees graph after
  trees = trees_more graph nodes after kept (length-set nodes root.0 (Some (root_node root))) (omega (arith, fewer)) well s.trees

  waits : (k : ℕ) → k < length (root ∷ []) → (node : Node) × (node_at after (disk_on (root ∷ []) k) ≡ Some node) × (node.root.0 ≡ root.0)
  waits zero l = (root_node root, root_is, refl)
  waits (suc k) l = absurd (omega arith)

  pub begun : IsGrowing graph root.0 after (root ∷ []) 0
  begun = record {
    trees = trees;
    waiting = λ k h l. waits k l;
    done = λ v node is. elim (known (node_at nodes v)) [
      | inl none ↦ (let r = is_root v node none is in inr (0, omega arith, omega arith, sym r.0))
      | inr m ↦ inl (still_done graph nodes after kept v (s.done v m.0 m.1))
    ];
  }

-- ---- a disk of the queue

module _ (graph : Transfers) (row : List DiskId) (root next : ℕ) (disk : DiskId) (node : Node) (old new : List (Option Node)) (was queue : List DiskId) (joined : All (λ w. IsJoined graph.transfers disk.0 w.0) row) (all : (w : ℕ) → IsJoined graph.transfers disk.0 w → Contains row (record { 0 = w })) (here : node_at old disk.0 ≡ Some node) (at : disk_on was next ≡ disk.0) (there : next < length was) (g : IsGrowing graph root old was next) (r : Reaches disk node row old new was queue) where
  root_same : node.root.0 ≡ root
  root_same =
      let w = g.waiting next (omega arith) there in
      ap (λ (x : Node). x.root.0) (same_Some node w.0 (sym here ∙ ap (node_at old) (sym at) ∙ w.1)) ∙ w.2

  joined_with : (w : DiskId) → Contains row w → IsJoined graph.transfers disk.0 w.0
  joined_with w has = subst (λ (x : DiskId). IsJoined graph.transfers disk.0 x.0) has.2 (joined has.0 w has.1)

  well_new : (v : ℕ) (found : Node) → node_at old v ≡ None → node_at new v ≡ Some found → IsWell graph new v found
  well_new v found none is =
      let f = r.fresh v found none is in
      subst (λ (x : Node). IsWell graph new v x) (sym f.child) (record {
        rooted = inr (record { above = node; above_is = r.kept disk.0 node here; rank = refl; root = refl });
        branch = λ deep. turned graph.transfers disk.0 v (joined_with (record { 0 = v }) f.beside);
        low = omega (arith, g.trees.low disk.0 node here, r.count, f.after, f.within, r.len);
      })

  pub trees_new : AreTrees graph new
  trees_new = trees_more graph old new r.kept r.len (omega (arith, r.count, r.longer)) well_new g.trees

  here_new : node_at new disk.0 ≡ Some node
  here_new = r.kept disk.0 node here

  disk_done : AreAllApart node row new → IsExplored graph.transfers new disk.0
  disk_done apart w j =
      let has = all w j in
      let is : disk_on row has.0 ≡ w = ap (λ (x : DiskId). x.0) (get_or_default row has.0 (record { 0 = 0 }) (record { 0 = w }) has.1 ∙ has.2) in
      let a = apart has.0 has.1 in
      record { one = node; other = a.0; one_is = here_new; other_is = ap (node_at new) (sym is) ∙ a.1; apart = a.2 }

  pub goes_on : AreAllApart node row new → IsGrowing graph root new queue (next + 1)
  goes_on apart = record {
    trees = trees_new;
    waiting = λ k h l. elim (cases_lt k (length was)) [
      | inl lt ↦ (let w = g.waiting k (omega arith) lt in (w.0, ap (node_at new) (r.before k lt) ∙ r.kept (disk_on was k) w.0 w.1, w.2))
      | inr ge ↦ (child_of disk node, r.added k ge l, root_same)
    ];
    done = λ v found is. elim (known (node_at old v)) [
      | inl none ↦ (let f = r.fresh v found none is in inr (f.place, omega (arith, f.after, there), f.within, f.queued))
      | inr m ↦ elim (g.done v m.0 m.1) [
        | inl done ↦ inl (still_done graph old new r.kept v done)
        | inr q ↦ elim (cases_eq q.0 next) [
          | inl e ↦ inl (subst (IsExplored graph.transfers new) (sym at ∙ ap (disk_on was) (sym e) ∙ q.3) (disk_done apart))
          | inr ne ↦ inr (q.0, omega (arith, q.1, ne), omega (arith, q.2, r.longer), r.before q.0 q.2 ∙ q.3)
        ]
      ]
    ];
  }

  odd_steps : (n : ℕ) → n % 2 ≡ (n + 1) % 2 → ⊥
  odd_steps n e = absurd (omega arith)

  pub met : (w : DiskId) → IsMet node row new w → AreOnOneSide graph new disk.0 w.0
  met w m =
      let found = m.found in
      let j = joined_with w m.beside in
      record {
        trees = trees_new;
        joined = j;
        together = record {
          one = node;
          other = found;
          one_is = here_new;
          other_is = m.found_is;
          same_side = m.same_side;
          same_root = root_same ∙ sym (elim (known (node_at old w.0)) [
            | inl none ↦ absurd (odd_steps node.rank (m.same_side ∙ ap (λ (x : Node). x.rank % 2) (r.fresh w.0 found none m.found_is).child))
            | inr was_there ↦ (let same = same_Some was_there.0 found (sym (r.kept w.0 was_there.0 was_there.1) ∙ m.found_is) in
                elim (g.done w.0 was_there.0 was_there.1) [
                  | inl done ↦ (let a = done disk.0 (turned graph.transfers disk.0 w.0 j) in
                      let first = same_Some was_there.0 a.one (sym was_there.1 ∙ a.one_is) in
                      let second = same_Some node a.other (sym here ∙ a.other_is) in
                      absurd (a.apart (sym (ap (λ (x : Node). x.rank % 2) first) ∙ ap (λ (x : Node). x.rank % 2) same ∙ sym m.same_side ∙ ap (λ (x : Node). x.rank % 2) second)))
                  | inr q ↦ (let z = g.waiting q.0 q.1 q.2 in
                      let third = same_Some z.0 was_there.0 (sym z.1 ∙ ap (node_at old) q.3 ∙ was_there.1) in
                      sym (ap (λ (x : Node). x.root.0) third ∙ ap (λ (x : Node). x.root.0) same) ∙ z.2)
                ])
          ]);
        };
      }

-- ---- the end

pub settled : (graph : Transfers) (root : ℕ) (nodes : List (Option Node)) (queue : List DiskId) (next : ℕ) → length queue ≤ next → IsGrowing graph root nodes queue next → AreExplored graph nodes
settled graph root nodes queue next all g = record {
  trees = g.trees;
  done = λ v node is. elim (g.done v node is) [
    | inl done ↦ done
    | inr q ↦ absurd (omega (arith, q.1, q.2, all))
  ];
}

-- ---- from disk to disk

pub joined_there : (graph : Transfers) (v w : ℕ) → All (λ t. t.leaves < length graph.disks) graph.transfers → All (λ t. t.reaches < length graph.disks) graph.transfers → IsJoined graph.transfers v w → w < length graph.disks
joined_there graph v w leaves reaches j = elim j [
  | inl has ↦ subst (λ (t : Transfer). t.reaches < length graph.disks) has.2 (reaches has.0 (record { leaves = v; reaches = w }) has.1)
  | inr has ↦ subst (λ (t : Transfer). t.leaves < length graph.disks) has.2 (leaves has.0 (record { leaves = w; reaches = v }) has.1)
]

pub reached_more : (old later : List (Option Node)) (n : ℕ) → StayReached old later → IsSome (node_at later n) → ((v : ℕ) → v < n → IsSome (node_at old v)) → (v : ℕ) → v < n + 1 → IsSome (node_at later v)
reached_more old later n kept_all some all v h = elim (cases_lt v n) [
  | inl lt ↦ still_reached old later v kept_all (all v lt)
  | inr ge ↦ (let same : v ≡ n = omega (arith, h, ge) in subst (λ k. IsSome (node_at later k)) (sym same) some)
]

odd_same : (a b : ℕ) → eqb (a % 2) 1 ≡ eqb (b % 2) 1 → a % 2 ≡ b % 2
odd_same a b e = by (a % 2) (b % 2) (omega arith) (omega arith) e
  where
    by : (x y : ℕ) → x < 2 → y < 2 → eqb x 1 ≡ eqb y 1 → x ≡ y
    by x y h l e = grind (arith, nat_tests)

-- the sides by ranks
pub separates : (graph : Transfers) (nodes : List (Option Node)) (sides : List Bool) → AreAllReached graph nodes → sides ≡ map is_odd_node nodes → All (λ t. t.leaves < length graph.disks) graph.transfers → Separates (side_of sides) graph
separates graph nodes sides a is leaves k d h same =
    let t = get_or graph.transfers k d in
    let at : (v : ℕ) → side_of sides v ≡ is_odd_node (node_at nodes v) = λ v. ap (λ (xs : List Bool). get_or xs v false) is ∙ get_or-map is_odd_node nodes v None in
    let n = some_node (node_at nodes t.leaves) (a.reached t.leaves (leaves k d h)) in
    let p = a.settled.done t.leaves n.0 n.1 t.reaches (inl (k, h, get_or_default graph.transfers k t d h)) in
    absurd (p.apart (odd_same p.one.rank p.other.rank (sym (ap is_odd_node p.one_is) ∙ sym (at t.leaves) ∙ same ∙ at t.reaches ∙ ap is_odd_node p.other_is)))

-- a walk up and down, closed by an edge
pub shows_none : (graph : Transfers) (nodes : List (Option Node)) (v w : ℕ) (walk : List DiskId) → AreOnOneSide graph nodes v w → IsWalkBetween nodes v w walk → IsOddWalk graph.transfers walk × ¬ IsTwoSided graph
shows_none graph nodes v w walk a b =
    let odd : IsOddWalk graph.transfers walk = record {
      odd = b.odd;
      steps = λ k h. elim (b.steps k h) [
        | inl p ↦ parent_joined graph nodes (disk_on walk k) (disk_on walk (k + 1)) a.trees p
        | inr p ↦ turned graph.transfers (disk_on walk (k + 1)) (disk_on walk k) (parent_joined graph nodes (disk_on walk (k + 1)) (disk_on walk k) a.trees p)
      ];
      closed = subst (λ x. IsJoined graph.transfers x (disk_on walk 0)) (sym b.last) (subst (λ y. IsJoined graph.transfers w y) (sym b.first) (turned graph.transfers v w a.joined));
    } in
    (odd, odd_none graph walk odd)

-- what holds where no edge was met
pub none_met : (o : Option (DiskId × DiskId)) (P : Type 0) (Q : DiskId × DiskId → Type 0) → MatchOption o P Q → ((ends : DiskId × DiskId) → o ≡ Some ends → ⊥) → P
none_met None P Q m never = m
none_met (Some ends) P Q m never = absurd (never ends refl)

pub not_some : (o : Option (DiskId × DiskId)) → is_some o ≡ false → (ends : DiskId × DiskId) → o ≡ Some ends → ⊥
not_some o none ends is = absurd (false≢true (sym none ∙ ap is_some is))

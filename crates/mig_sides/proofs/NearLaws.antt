-- Lists of neighbours, to which edges are added one after the other.
use Rattle.mig_sides.proofs.Common.{All, AreNear, Contains, Contains-append_cases, Contains-append_left, Contains-push, DiskId, Global, IsJoined}
use Rattle.mig_sides.proofs.Common.{List, Some, Transfers, Transfer, Vec, [], ap, arith, cases_eq, get_or, get_or-set_other, get_or-set_same}
use Rattle.mig_sides.proofs.Common.{get_or_default, get_or_from_slice_get, inl, inr, length, length-set, list_at, refl, set, slice_get}
use Rattle.mig_sides.proofs.Common.{slice_get_within, subst, suc, sym, take, take_more, zero, ℕ, ◌++◌, ◌+◌, ◌<◌, ◌∙◌, ◌∷◌, ◌≡◌, ◌≢◌, ◌⊎◌}
use Rattle.std.proofs.lemmas.List.Elements.{All-push}

abbrev pub only_disk : ℕ → List DiskId
only_disk b = record { 0 = b } ∷ []

-- the lists have the pairs of a relation
pub record AreListsOf (J : ℕ → ℕ → Type 0) (near : List (Vec DiskId Global)) : Type 0 where
  pub joined : (v : ℕ) (d : Vec DiskId Global) → v < length near → All (λ w. J v w.0) (list_at near v d)
  pub all : (v w : ℕ) (d : Vec DiskId Global) → v < length near → J v w → Contains (list_at near v d) (record { 0 = w })

-- this pair besides
abbrev pub Or : (ℕ → ℕ → Type 0) → ℕ → ℕ → ℕ → ℕ → Type 0
Or J a b v w = J v w ⊎ ((v ≡ a) × (w ≡ b))

module _ (near : List (Vec DiskId Global)) (a b : ℕ) (old new : Vec DiskId Global) (there : a < length near) (was : old ≡ get_or near a old) (is : new.items ≡ old.items ++ only_disk b) where
  row_same : (v : ℕ) (d : Vec DiskId Global) → v ≡ a → list_at (set near a new) v d ≡ list_at near v d ++ only_disk b
  row_same v d e =
      ap (λ k. list_at (set near a new) k d) e ∙ ap (λ (x : Vec DiskId Global). x.items) (get_or-set_same near a new d there) ∙ is
      ∙ ap (λ (x : Vec DiskId Global). x.items ++ only_disk b) (was ∙ get_or_default near a old d there) ∙ ap (λ k. list_at near k d ++ only_disk b) (sym e)

  row_other : (v : ℕ) (d : Vec DiskId Global) → v ≢ a → list_at (set near a new) v d ≡ list_at near v d
  row_other v d ne = ap (λ (x : Vec DiskId Global). x.items) (get_or-set_other near a v new d ne)

  pub pushed : (J : ℕ → ℕ → Type 0) → AreListsOf J near → AreListsOf (Or J a b) (set near a new)
  pushed J x = record {
    joined = λ v d h.
        let old_all : All (λ (w : DiskId). Or J a b v w.0) (list_at near v d) = λ k e l. inl (x.joined v d (omega (arith, h, length-set near a new)) k e l) in
        elim (cases_eq v a) [
          | inl e ↦ subst (λ (xs : List DiskId). All (λ (w : DiskId). Or J a b v w.0) xs) (sym (row_same v d e))
              (All-push (λ (w : DiskId). Or J a b v w.0) (list_at near v d) (record { 0 = b }) old_all (inr (e, refl)))
          | inr ne ↦ subst (λ (xs : List DiskId). All (λ (w : DiskId). Or J a b v w.0) xs) (sym (row_other v d ne)) old_all
        ];
    all = λ v w d h j.
        let long : v < length near = omega (arith, h, length-set near a new) in
        elim (cases_eq v a) [
          | inl e ↦ subst (λ (xs : List DiskId). Contains xs (record { 0 = w })) (sym (row_same v d e)) (elim j [
            | inl i ↦ Contains-append_left (list_at near v d) (only_disk b) (record { 0 = w }) (x.all v w d long i)
            | inr i ↦ subst (λ c. Contains (list_at near v d ++ only_disk b) (record { 0 = c })) (sym i.1) (Contains-push (list_at near v d) (record { 0 = b }))
          ])
          | inr ne ↦ subst (λ (xs : List DiskId). Contains xs (record { 0 = w })) (sym (row_other v d ne)) (elim j [
            | inl i ↦ x.all v w d long i
            | inr i ↦ absurd (ne i.0)
          ])
        ];
  }

-- where two relations are the same
pub same_lists : (J K : ℕ → ℕ → Type 0) (near : List (Vec DiskId Global)) → ((v w : ℕ) → J v w → K v w) → ((v w : ℕ) → K v w → J v w) → AreListsOf J near → AreListsOf K near
same_lists J K near there back x = record { joined = λ v d h k e l. there v _ (x.joined v d h k e l); all = λ v w d h j. x.all v w d h (back v w j) }

only : (t x : Transfer) → Contains (t ∷ []) x → t ≡ x
only t x (zero, h, e) = e
only t x (suc k, h, e) = absurd (omega arith)

module _ (transfers : List Transfer) (from to : ℕ) where
  abbrev one : Transfer
  one = record { leaves = from; reaches = to }

  in_more : (t : Transfer) → Contains (transfers ++ one ∷ []) t → Contains transfers t ⊎ (one ≡ t)
  in_more t has = elim (Contains-append_cases transfers (one ∷ []) t has) [ inl a ↦ inl a | inr b ↦ inr (only one t b) ]

  pub joined_more : (v w : ℕ) → IsJoined (transfers ++ one ∷ []) v w → Or (Or (IsJoined transfers) from to) to from v w
  joined_more v w j = elim j [
    | inl a ↦ elim (in_more (record { leaves = v; reaches = w }) a) [
      | inl b ↦ inl (inl (inl b))
      | inr e ↦ inl (inr (sym (ap (λ (t : Transfer). t.leaves) e), sym (ap (λ (t : Transfer). t.reaches) e)))
    ]
    | inr a ↦ elim (in_more (record { leaves = w; reaches = v }) a) [
      | inl b ↦ inl (inl (inr b))
      | inr e ↦ inr (sym (ap (λ (t : Transfer). t.reaches) e), sym (ap (λ (t : Transfer). t.leaves) e))
    ]
  ]

  pub joined_by : (v w : ℕ) → Or (Or (IsJoined transfers) from to) to from v w → IsJoined (transfers ++ one ∷ []) v w
  joined_by v w j = elim j [
    | inl k ↦ elim k [
      | inl i ↦ elim i [
        | inl a ↦ inl (Contains-append_left transfers (one ∷ []) (record { leaves = v; reaches = w }) a)
        | inr b ↦ inr (Contains-append_left transfers (one ∷ []) (record { leaves = w; reaches = v }) b)
      ]
      | inr e ↦ inl (subst (λ (t : Transfer). Contains (transfers ++ one ∷ []) t) (transfer_is from to v w (sym e.0) (sym e.1)) (Contains-push transfers one))
    ]
    | inr e ↦ inr (subst (λ (t : Transfer). Contains (transfers ++ one ∷ []) t) (transfer_is from to w v (sym e.1) (sym e.0)) (Contains-push transfers one))
  ]
    where
      transfer_is : (a b c d : ℕ) → a ≡ c → b ≡ d → ◌≡◌ {A = Transfer} (record { leaves = a; reaches = b }) (record { leaves = c; reaches = d })
      transfer_is a b c d e f = ap (λ x. let t : Transfer = record { leaves = x; reaches = b } in t) e ∙ ap (λ x. let t : Transfer = record { leaves = c; reaches = x } in t) f

-- no edge yet
pub near_none : (near : List (Vec DiskId Global)) → All (λ (list : Vec DiskId Global). list.items ≡ []) near → (transfers : List Transfer) → AreNear (take 0 transfers) near
near_none near empty transfers = record {
  joined = λ v d h k e l. absurd (omega (arith, l, ap (λ (xs : List DiskId). length xs) (empty v d h)));
  all = λ v w d h j. elim j [ inl a ↦ absurd (omega (arith, a.1)) | inr b ↦ absurd (omega (arith, b.1)) ];
}

-- the lists after one edge more
pub near_more : (transfers : List Transfer) (e from to : ℕ) (near : List (Vec DiskId Global)) (old mid olds news : Vec DiskId Global) → slice_get transfers e ≡ Some (record { leaves = from; reaches = to }) → from < length near → to < length near
    → old ≡ get_or near from old → mid.items ≡ old.items ++ only_disk to
    → olds ≡ get_or (set near from mid) to olds → news.items ≡ olds.items ++ only_disk from
    → AreNear (take e transfers) near → AreNear (take (e + 1) transfers) (set (set near from mid) to news)
near_more transfers e from to near old mid olds news row hf ht was is was2 is2 a =
    let t : Transfer = record { leaves = from; reaches = to } in
    let J = IsJoined (take e transfers) in
    let first = pushed near from to old mid hf was is J (record { joined = a.joined; all = a.all }) in
    let second = pushed (set near from mid) to from olds news (omega (arith, ht, length-set near from mid)) was2 is2 (Or J from to) first in
    let list : take (e + 1) transfers ≡ take e transfers ++ t ∷ [] = take_more transfers e t (slice_get_within transfers e t row) ∙ ap (λ (x : Transfer). take e transfers ++ x ∷ []) (get_or_from_slice_get transfers e t t row) in
    let x = same_lists (Or (Or J from to) to from) (IsJoined (take e transfers ++ t ∷ [])) (set (set near from mid) to news) (joined_by (take e transfers) from to) (joined_more (take e transfers) from to) second in
    subst (λ (ts : List Transfer). AreNear ts (set (set near from mid) to news)) (sym list) (record { joined = x.joined; all = x.all })

-- the ends of an edge are disks
pub ends_there : (graph : Transfers) (e from to n : ℕ) → slice_get graph.transfers e ≡ Some (record { leaves = from; reaches = to }) → n ≡ length graph.disks → All (λ t. t.leaves < length graph.disks) graph.transfers → All (λ t. t.reaches < length graph.disks) graph.transfers → (from < n) × (to < n)
ends_there graph e from to n row is_n leaves reaches =
    let t : Transfer = record { leaves = from; reaches = to } in
    let within = slice_get_within graph.transfers e t row in
    let is : get_or graph.transfers e t ≡ t = get_or_from_slice_get graph.transfers e t t row in
    (omega (arith, is_n, leaves e t within, ap (λ (x : Transfer). x.leaves) is), omega (arith, is_n, reaches e t within, ap (λ (x : Transfer). x.reaches) is))

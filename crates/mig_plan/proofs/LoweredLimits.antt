-- Limits that are lowered to even ones.
use Rattle.mig_plan.proofs.Common.{All, All-map, Balances, Bool, IsLowerable, IsTrue, List, SidesFit, Transfers, ap, arith, cases_eq, cases_lt, ceil_of_none, ceil_within, copies_of_sides}
use Rattle.mig_plan.proofs.Common.{count_by-le-length, div_ceil, div_ceil_times, fold_push, get_or, get_or-range_with_len, greatest, in_of, inl, inr, length, length-range_with_len, limit, load}
use Rattle.mig_plan.proofs.Common.{load_within_lowered, lowered_limit, lowered_quotient, map, map-range_with_len_more, max, ne_eqb, not, out_in, out_of, range_with_len, refl, subst, suc, sym}
use Rattle.mig_plan.proofs.Common.{takes_part, touches, transfer_at, value_within_lowered, zero, ℕ, ◌%◌, ◌*◌, ◌+◌, ◌<◌, ◌∙◌, ◌≡◌, ◌≢◌, ◌≤◌}
use Rattle.mig_duplex.proofs.Quotients.{greatest_most, some_load_at}

-- a disk with a load has a lowered limit of 2 at least
pub lowered_limit_some : (graph : Transfers) (v : ℕ) → IsLowerable graph → v < length graph.disks → load v graph.transfers ≢ 0 → 2 ≤ lowered_limit graph v
lowered_limit_some graph v lowerable h some = omega (arith, lowerable.1 v h (ap not (ne_eqb (load v graph.transfers) 0 some)))

no_rounds : (n : ℕ) → div_ceil 0 n ≡ 0
no_rounds zero = refl
no_rounds (suc n) = omega arith

pub lowered_most : (graph : Transfers) → IsLowerable graph → lowered_quotient graph ≤ length graph.transfers
lowered_most graph lowerable =
    let n = length graph.disks in
    let rounds : ℕ → ℕ = λ v. div_ceil (load v graph.transfers) (lowered_limit graph v) in
    let few : (v : ℕ) → v < n → rounds v ≤ length graph.transfers = λ v h. elim (cases_eq (load v graph.transfers) 0) [
      | inl none ↦ omega (arith, ap (λ l. div_ceil l (lowered_limit graph v)) none, no_rounds (lowered_limit graph v))
      | inr some ↦ omega (arith, ceil_within (load v graph.transfers) (lowered_limit graph v) (omega (arith, lowered_limit_some graph v lowerable h some)), count_by-le-length (touches v) graph.transfers)
    ] in
    greatest_most 0 (length graph.transfers) (map rounds (range_with_len 0 n)) (omega arith)
    (All-map (λ x. x ≤ length graph.transfers) rounds (range_with_len 0 n) (λ k d h.
    let v = get_or (range_with_len 0 n) k d in
    few v (omega (arith, get_or-range_with_len 0 n k d (omega (arith, h, length-range_with_len 0 n)), h, length-range_with_len 0 n))))

pub lowered_some : (graph : Transfers) → IsLowerable graph → All (λ t. t.leaves < length graph.disks) graph.transfers → 0 < length graph.transfers → 1 ≤ lowered_quotient graph
lowered_some graph lowerable there some =
    let v = (transfer_at graph.transfers 0).leaves in
    let h : v < length graph.disks = there 0 (record { leaves = 0; reaches = 0 }) some in
    let l : 1 ≤ load v graph.transfers = some_load_at graph.transfers some in
    let c = lowered_limit_some graph v lowerable h (λ z. absurd (omega (arith, l, z))) in
    let most = value_within_lowered graph v h in
    not_zero (load v graph.transfers) (lowered_limit graph v) (lowered_quotient graph) (omega (arith, c)) l most
  where
    not_zero : (n c q : ℕ) → 1 ≤ c → 1 ≤ n → div_ceil n c ≤ q → 1 ≤ q
    not_zero n c zero pos some most = absurd (omega (arith, (div_ceil_times n c pos).0, ap (λ m. m * c) (nothing (div_ceil n c) most)))
      where
        nothing : (m : ℕ) → m ≤ 0 → m ≡ 0
        nothing m h = omega arith
    not_zero n c (suc q) pos some most = omega arith

-- by directions that balance, the copies on both sides are within the lowered limits
pub lowered_fits : (graph : Transfers) (q : ℕ) (ds : List Bool) → q ≡ lowered_quotient graph → 1 ≤ q → IsLowerable graph → length ds ≡ length graph.transfers → All (λ t. t.leaves ≢ t.reaches) graph.transfers → Balances graph.transfers ds → SidesFit graph q ds
lowered_fits graph q ds is pos lowerable len apart b v h =
    let o = out_of graph.transfers ds v in
    let i = in_of graph.transfers ds v in
    let total = out_in graph.transfers ds v len apart in
    elim (cases_eq (load v graph.transfers) 0) [
      | inl none ↦ omega (arith, ap (λ n. div_ceil n q) (left_none o i (total ∙ none)), ap (λ n. div_ceil n q) (right_none o i (total ∙ none)), ceil_of_none q pos)
      | inr some ↦
          let c = lowered_limit_some graph v lowerable h some in
          let l = load_within_lowered graph v h (omega (arith, c)) in
          let lowered : ℕ = lowered_limit graph v in
          let even : lowered % 2 ≡ 0 = omega arith in
          let within : o + i ≤ q * lowered = subst (λ m. o + i ≤ m * lowered) (sym is) (omega (arith, total, l)) in
          let covered = copies_of_sides o i lowered q pos within even (b.out_most v) (b.in_most v) in
          let low : lowered ≤ limit graph v = omega arith in
          omega (arith, covered, low)
    ]
  where
    left_none : (o i : ℕ) → o + i ≡ 0 → o ≡ 0
    left_none o i e = omega arith

    right_none : (o i : ℕ) → o + i ≡ 0 → i ≡ 0
    right_none o i e = omega arith

-- the greatest quotient by lowered limits of the first disks
abbrev pub lowered_first : Transfers → ℕ → ℕ
lowered_first graph n = greatest (map (λ v. div_ceil (load v graph.transfers) (lowered_limit graph v)) (range_with_len 0 n))

pub lowered_more : (graph : Transfers) (n : ℕ) → lowered_first graph (n + 1) ≡ max (lowered_first graph n) (div_ceil (load n graph.transfers) (lowered_limit graph n))
lowered_more graph n =
    let f : ℕ → ℕ = λ v. div_ceil (load v graph.transfers) (lowered_limit graph v) in
    ap greatest (map-range_with_len_more f 0 n n (omega arith)) ∙ fold_push max 0 (map f (range_with_len 0 n)) (f n)

-- the first disks that take part have limits of 2 at least
pub lowerable_more : (graph : Transfers) (n : ℕ) → ((v : ℕ) → v < n → IsTrue (takes_part graph v) → 2 ≤ limit graph v) → (IsTrue (takes_part graph n) → 2 ≤ limit graph n) → (v : ℕ) → v < n + 1 → IsTrue (takes_part graph v) → 2 ≤ limit graph v
lowerable_more graph n first this v h = elim (cases_lt v n) [
  | inl l ↦ first v l
  | inr l ↦ (let is : v ≡ n = omega (arith, h, l) in subst (λ u. IsTrue (takes_part graph u) → 2 ≤ limit graph u) (sym is) this)
]

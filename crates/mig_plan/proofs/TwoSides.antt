-- Edges that all lead from the one side of the disks to the other.
use Rattle.mig_plan.proofs.Common.{All, All-head, All-tail, Bool, LeadsAcross, List, Separates, SidesFit, Transfers, Transfer, [], ap, arith, cases_Bool, cases_eq, ceil_of_none, div_ceil}
use Rattle.mig_plan.proofs.Common.{div_ceil-le, eqb, false, false≢true, head_of, heads, in_of, inl, inr, length, limit, load, load_within_quotient, mul_comm, ne_eqb, one}
use Rattle.mig_plan.proofs.Common.{out_in, out_of, quotient, refl, suc, sum_by-cons, sym, tail_of, tails, true, ℕ, ◌+◌, ◌∙◌, ◌∷◌, ◌≡◌, ◌≢◌, ◌≤◌}
use Rattle.mig_duplex.proofs.Quotients.{HasRanges}

-- which side an edge leaves and which it enters

other_false : (a b : Bool) → a ≢ b → a ≡ true → b ≡ false
other_false a true ne e = absurd (ne e)
other_false a false ne e = refl

other_true : (a b : Bool) → a ≢ b → a ≡ false → b ≡ true
other_true a true ne e = refl
other_true a false ne e = absurd (ne e)

tail_side : (side : ℕ → Bool) (t : Transfer) (forward : Bool) → side t.leaves ≢ side t.reaches → forward ≡ side t.leaves → side (tail_of t forward) ≡ true
tail_side side t true ne e = sym e
tail_side side t false ne e = other_true (side t.leaves) (side t.reaches) ne (sym e)

head_side : (side : ℕ → Bool) (t : Transfer) (forward : Bool) → side t.leaves ≢ side t.reaches → forward ≡ side t.leaves → side (head_of t forward) ≡ false
head_side side t true ne e = other_false (side t.leaves) (side t.reaches) ne (sym e)
head_side side t false ne e = sym e

-- a disk of the one side is not one of the other
not_it : (side : ℕ → Bool) (v w : ℕ) (b : Bool) → side v ≢ b → side w ≡ b → eqb w v ≡ false
not_it side v w b ne e = elim (cases_eq w v) [
  | inl same ↦ absurd (ne (ap side (sym same) ∙ e))
  | inr other ↦ ne_eqb w v other
]

none_out : (side : ℕ → Bool) (v : ℕ) (ts : List Transfer) (ds : List Bool) → side v ≢ true → length ds ≡ length ts → All (λ t. side t.leaves ≢ side t.reaches) ts → LeadsAcross side ts ds → out_of ts ds v ≡ 0
none_out side v [] ds at len apart leads = refl
none_out side v (t ∷ ts) [] at len apart leads = refl
none_out side v (t ∷ ts) (d ∷ ds) at len apart leads =
    let first = not_it side v (tail_of t d) true at (tail_side side t d (All-head (λ (x : Transfer). side x.leaves ≢ side x.reaches) t ts apart) (leads 0 (omega arith))) in
    let rest = none_out side v ts ds at (omega arith) (All-tail (λ (x : Transfer). side x.leaves ≢ side x.reaches) t ts apart) (λ k l. leads (suc k) (omega (arith, l))) in
    omega (arith, sum_by-cons (λ n. one (eqb n v)) (tail_of t d) (tails ts ds), ap one first, rest)

none_in : (side : ℕ → Bool) (v : ℕ) (ts : List Transfer) (ds : List Bool) → side v ≢ false → length ds ≡ length ts → All (λ t. side t.leaves ≢ side t.reaches) ts → LeadsAcross side ts ds → in_of ts ds v ≡ 0
none_in side v [] ds at len apart leads = refl
none_in side v (t ∷ ts) [] at len apart leads = refl
none_in side v (t ∷ ts) (d ∷ ds) at len apart leads =
    let first = not_it side v (head_of t d) false at (head_side side t d (All-head (λ (x : Transfer). side x.leaves ≢ side x.reaches) t ts apart) (leads 0 (omega arith))) in
    let rest = none_in side v ts ds at (omega arith) (All-tail (λ (x : Transfer). side x.leaves ≢ side x.reaches) t ts apart) (λ k l. leads (suc k) (omega (arith, l))) in
    omega (arith, sum_by-cons (λ n. one (eqb n v)) (head_of t d) (heads ts ds), ap one first, rest)

-- each disk has edges that go out alone, or that come in alone, so its limit covers its copies
pub across_fits : (graph : Transfers) (side : ℕ → Bool) (ds : List Bool) → 1 ≤ quotient graph → HasRanges graph → Separates side graph → length ds ≡ length graph.transfers → All (λ t. t.leaves ≢ t.reaches) graph.transfers → LeadsAcross side graph.transfers ds → SidesFit graph (quotient graph) ds
across_fits graph side ds pos limits sides len apart leads v h =
    let q = quotient graph in
    let o = out_of graph.transfers ds v in
    let i = in_of graph.transfers ds v in
    let total = out_in graph.transfers ds v len apart in
    let within : div_ceil (load v graph.transfers) q ≤ limit graph v = div_ceil-le (load v graph.transfers) q (limit graph v) pos (omega (arith, load_within_quotient graph v h (limits v h), mul_comm q (limit graph v))) in
    elim (cases_Bool (side v)) [
      | inl near ↦ (let none : i ≡ 0 = none_in side v graph.transfers ds (λ far. false≢true (sym far ∙ near)) len sides leads in
          omega (arith, within, ceil_of_none q pos, ap (λ n. div_ceil n q) none, ap (λ n. div_ceil n q) (all_left o i (load v graph.transfers) total none)))
      | inr far ↦ (let none : o ≡ 0 = none_out side v graph.transfers ds (λ near. false≢true (sym far ∙ near)) len sides leads in
          omega (arith, within, ceil_of_none q pos, ap (λ n. div_ceil n q) none, ap (λ n. div_ceil n q) (all_right o i (load v graph.transfers) total none)))
    ]
  where
    all_left : (o i l : ℕ) → o + i ≡ l → i ≡ 0 → o ≡ l
    all_left o i l total none = omega arith

    all_right : (o i l : ℕ) → o + i ≡ l → o ≡ 0 → i ≡ l
    all_right o i l total none = omega arith

-- Parts of ends, and the limits and quotients that they make.
use Rattle.mig_check.proofs.Common.{Both, DiskId, IfNone, IfSome, Incoming, IsInput, IsLeastOver, IsLesserOf, IsOver, IsOverLimit, IsPartOver, Joint, KeepsLimit, KeepsLimits}
use Rattle.mig_check.proofs.Common.{InputLists, KeepsPart, Leaving, Limits, List, MatchOption, None, Option, Outgoing, Part, Reaching, Shift, Some, Split, Transfers, Transfer, [], ap, arith, cases_lt}
use Rattle.mig_check.proofs.Common.{disk_at, disk_value, false, false≢true, get_or, get_or-range_with_len, greatest, inl, inr, is_duplex, is_split, keeps_joint, kind_at, length}
use Rattle.mig_check.proofs.Common.{length-range_with_len, load, map, map_same, max, part_load, part_quotient, part_value, quotient, range_with_len, refl, rounds_for, rounds_for_joint}
use Rattle.mig_check.proofs.Common.{side_in_load, suc, sym, transfer_graph, transfer_of, true, zero, ℕ, ◌+◌, ◌<◌, ◌∙◌, ◌≡◌, ◌≤◌, ◌⊎◌}
use Rattle.mig_check.proofs.MoveCounts.{greatest_more}

pub part_in_load : (part : Part) (v : ℕ) (transfers : List Transfer) → part_load part v transfers ≤ load v transfers
part_in_load Both v transfers = omega arith
part_in_load Leaving v transfers = side_in_load Outgoing v transfers
part_in_load Reaching v transfers = side_in_load Incoming v transfers

-- Joint limits are kept where both ends' are

over_joint : (limits : Limits) (v : ℕ) (transfers : List Transfer) (count : ℕ) → is_split limits ≡ false → IsOverLimit limits v transfers count → (Rattle.mig_base.specs.InputLists.most_ends limits < count) × (count ≡ load v transfers)
over_joint (Joint limit) v transfers count joint over = over
over_joint (Split outgoing incoming) v transfers count joint over = absurd (false≢true (sym joint))

joint_over : (limits : Limits) (v : ℕ) (transfers : List Transfer) (count : ℕ) → is_split limits ≡ false → Rattle.mig_base.specs.InputLists.most_ends limits < count → count ≡ load v transfers → IsOverLimit limits v transfers count
joint_over (Joint limit) v transfers count joint over is = (over, is)
joint_over (Split outgoing incoming) v transfers count joint over is = absurd (false≢true (sym joint))

module _ (input : InputLists) (valid : IsInput input) (round : List Shift) where
  module _ (joint : is_duplex input.disks ≡ false) where
    kind : (v : ℕ) → v < length input.disks → is_split (disk_at input.disks v).limits ≡ false
    kind v there = kind_at input valid v there ∙ joint

    pub keeps_by_both : KeepsPart Both input.disks (map transfer_of round) → KeepsLimits input.disks (map transfer_of round)
    keeps_by_both keeps v there = keeps_joint (disk_at input.disks v).limits v (map transfer_of round) (kind v there) (keeps v there)

    pub over_by_both : (v count : ℕ) → IsLeastOver Both input.disks round v count → (v < length input.disks) × IsOver input round v count × ((w c : ℕ) → w < v → ¬ IsOver input round w c)
    over_by_both v count least = (
      least.0,
      joint_over (disk_at input.disks v).limits v (map transfer_of round) count (kind v least.0) least.1.0 least.1.1,
      λ w c before over. least.2 w c before (over_joint (disk_at input.disks w).limits w (map transfer_of round) c (kind w (omega (arith, before, least.0))) over),
    )

    pub found_by_both : (r : Option (DiskId × ℕ)) → MatchOption r (KeepsPart Both input.disks (map transfer_of round)) (λ x. IsLeastOver Both input.disks round x.0.0 x.1)
        → IfNone r (KeepsLimits input.disks (map transfer_of round)) × IfSome r (λ x. (x.0.0 < length input.disks) × IsOver input round x.0.0 x.1 × ((w c : ℕ) → w < x.0.0 → ¬ IsOver input round w c))
    found_by_both None found = (keeps_by_both found, tt)
    found_by_both (Some x) found = (tt, over_by_both x.0.0 x.1 found)

  module _ (duplex : is_duplex input.disks ≡ true) where
    split : (v : ℕ) → v < length input.disks → is_split (disk_at input.disks v).limits ≡ true
    split v there = kind_at input valid v there ∙ duplex

    keeps_by_sides : (limits : Limits) (v : ℕ) → is_split limits ≡ true → part_load Leaving v (map transfer_of round) ≤ Rattle.mig_base.specs.Transfers.side_limit Outgoing limits → part_load Reaching v (map transfer_of round) ≤ Rattle.mig_base.specs.Transfers.side_limit Incoming limits → KeepsLimit limits v (map transfer_of round)
    keeps_by_sides (Joint limit) v is_split_ a b = absurd (false≢true is_split_)
    keeps_by_sides (Split outgoing incoming) v is_split_ a b = (a, b)

    -- a side that is over: the outgoing one, or the incoming one where the outgoing one is kept
    over_out : (limits : Limits) (v count : ℕ) → is_split limits ≡ true → Rattle.mig_base.specs.Transfers.side_limit Outgoing limits < count → count ≡ part_load Leaving v (map transfer_of round) → IsOverLimit limits v (map transfer_of round) count
    over_out (Joint limit) v count is_split_ a b = absurd (false≢true is_split_)
    over_out (Split outgoing incoming) v count is_split_ a b = inl (a, b)

    over_in : (limits : Limits) (v count : ℕ) → is_split limits ≡ true → part_load Leaving v (map transfer_of round) ≤ Rattle.mig_base.specs.Transfers.side_limit Outgoing limits → Rattle.mig_base.specs.Transfers.side_limit Incoming limits < count → count ≡ part_load Reaching v (map transfer_of round) → IsOverLimit limits v (map transfer_of round) count
    over_in (Joint limit) v count is_split_ k a b = absurd (false≢true is_split_)
    over_in (Split outgoing incoming) v count is_split_ k a b = inr (k, a, b)

    sides_of : (limits : Limits) (v count : ℕ) → is_split limits ≡ true → IsOverLimit limits v (map transfer_of round) count
        → ((Rattle.mig_base.specs.Transfers.side_limit Outgoing limits < count) × (count ≡ part_load Leaving v (map transfer_of round))) ⊎ ((Rattle.mig_base.specs.Transfers.side_limit Incoming limits < count) × (count ≡ part_load Reaching v (map transfer_of round)))
    sides_of (Joint limit) v count is_split_ over = absurd (false≢true is_split_)
    sides_of (Split outgoing incoming) v count is_split_ (inl over) = inl over
    sides_of (Split outgoing incoming) v count is_split_ (inr over) = inr (over.1, over.2)

    -- no side below this number is over
    abbrev NoneBelow : Part → ℕ → Type 0
    NoneBelow part n = (w c : ℕ) → w < n → ¬ IsPartOver part input.disks round w c

    none_over : (n : ℕ) → n ≤ length input.disks → NoneBelow Leaving n → NoneBelow Reaching n → (w c : ℕ) → w < n → ¬ IsOver input round w c
    none_over n within out into w c before over = elim (sides_of (disk_at input.disks w).limits w c (split w (omega (arith, before, within))) over) [ inl a ↦ out w c before a | inr b ↦ into w c before b ]

    kept_below : (part : Part) (v n : ℕ) → v < n → NoneBelow part n → part_load part v (map transfer_of round) ≤ Rattle.mig_check.specs.Parts.part_limit part (disk_at input.disks v).limits
    kept_below part v n before none = elim (cases_lt (Rattle.mig_check.specs.Parts.part_limit part (disk_at input.disks v).limits) (part_load part v (map transfer_of round))) [
      | inl over ↦ absurd (none v (part_load part v (map transfer_of round)) before (over, refl))
      | inr kept ↦ kept
    ]

    none_kept : (part : Part) (n : ℕ) → n ≤ length input.disks → KeepsPart part input.disks (map transfer_of round) → NoneBelow part n
    none_kept part n within keeps w c before over = let k = keeps w (omega (arith, before, within)) in omega (arith, k, over.0, over.1)

    abbrev Found : Part → Option (DiskId × ℕ) → Type 0
    Found part o = MatchOption o (KeepsPart part input.disks (map transfer_of round)) (λ r. IsLeastOver part input.disks round r.0.0 r.1)

    abbrev Least : ℕ → ℕ → Type 0
    Least v count = (v < length input.disks) × IsOver input round v count × ((w c : ℕ) → w < v → ¬ IsOver input round w c)

    least_out : (v count n : ℕ) → IsLeastOver Leaving input.disks round v count → v ≤ n → NoneBelow Reaching n → Least v count
    least_out v count n least low none = (
      least.0,
      over_out (disk_at input.disks v).limits v count (split v least.0) least.1.0 least.1.1,
      none_over v (omega (arith, least.0)) least.2 (λ w c before. none w c (omega (arith, before, low))),
    )

    least_in : (v count n : ℕ) → IsLeastOver Reaching input.disks round v count → v < n → NoneBelow Leaving n → Least v count
    least_in v count n least low none = (
      least.0,
      over_in (disk_at input.disks v).limits v count (split v least.0) (kept_below Leaving v n low none) least.1.0 least.1.1,
      none_over v (omega (arith, least.0)) (λ w c before. none w c (omega (arith, before, low))) least.2,
    )

    pub found_by_sides : (a b r : Option (DiskId × ℕ)) → Found Leaving a → Found Reaching b → IsLesserOf a b r → IfNone r (KeepsLimits input.disks (map transfer_of round)) × IfSome r (λ x. Least x.0.0 x.1)
    found_by_sides None None r fa fb lesser = rw lesser ((λ v there. keeps_by_sides (disk_at input.disks v).limits v (split v there) (fa v there) (fb v there)), tt)
    found_by_sides (Some a) None r fa fb lesser = rw lesser (tt, least_out a.0.0 a.1 a.0.0 fa (omega arith) (none_kept Reaching a.0.0 (omega (arith, fa.0)) fb))
    found_by_sides None (Some b) r fa fb lesser = rw lesser (tt, least_in b.0.0 b.1 (suc b.0.0) fb (omega arith) (none_kept Leaving (suc b.0.0) (omega (arith, fb.0)) fa))
    found_by_sides (Some a) (Some b) r fa fb (inl lesser) = rw lesser.1 (tt, least_in b.0.0 b.1 a.0.0 fb lesser.0 fa.2)
    found_by_sides (Some a) (Some b) r fa fb (inr lesser) = rw lesser.1 (tt, least_out a.0.0 a.1 b.0.0 fa lesser.0 fb.2)

-- Quotients

greatest_max : (f g : ℕ → ℕ) (n : ℕ) → greatest (map (λ v. max (f v) (g v)) (range_with_len 0 n)) ≡ max (greatest (map f (range_with_len 0 n))) (greatest (map g (range_with_len 0 n)))
greatest_max f g zero = refl
greatest_max f g (suc n) =
    let more : (h : ℕ → ℕ) → greatest (map h (range_with_len 0 (suc n))) ≡ max (greatest (map h (range_with_len 0 n))) (h n) = λ h. ap (λ m. greatest (map h (range_with_len 0 m))) (one n) ∙ greatest_more h n in
    omega (arith, more (λ v. max (f v) (g v)), more f, more g, greatest_max f g n)
  where
    one : (n : ℕ) → suc n ≡ n + 1
    one n = omega arith

value_joint : (limits : Limits) (v : ℕ) (transfers : List Transfer) → is_split limits ≡ false → rounds_for limits v transfers ≡ Rattle.mig_base.specs.Transfers.div_ceil (part_load Both v transfers) (Rattle.mig_base.specs.InputLists.most_ends limits)
value_joint limits v transfers joint = rounds_for_joint limits v transfers joint

value_split : (limits : Limits) (v : ℕ) (transfers : List Transfer) → is_split limits ≡ true → rounds_for limits v transfers
    ≡ max (Rattle.mig_base.specs.Transfers.div_ceil (part_load Leaving v transfers) (Rattle.mig_base.specs.Transfers.side_limit Outgoing limits)) (Rattle.mig_base.specs.Transfers.div_ceil (part_load Reaching v transfers) (Rattle.mig_base.specs.Transfers.side_limit Incoming limits))
value_split (Joint limit) v transfers is_split_ = absurd (false≢true is_split_)
value_split (Split outgoing incoming) v transfers is_split_ = refl

in_range : (n k d : ℕ) → k < length (range_with_len 0 n) → get_or (range_with_len 0 n) k d < n
in_range n k d h = let there : k < n = omega (arith, h, length-range_with_len 0 n) in omega (arith, get_or-range_with_len 0 n k d there, there)

pub value_both : (input : InputLists) → IsInput input → is_duplex input.disks ≡ false → (v : ℕ) → v < length input.disks → disk_value (transfer_graph input) v ≡ part_value Both (transfer_graph input) v
value_both input valid joint v there = value_joint (disk_at input.disks v).limits v (transfer_graph input).transfers (kind_at input valid v there ∙ joint)

pub quotient_both : (input : InputLists) → IsInput input → is_duplex input.disks ≡ false → part_quotient Both (transfer_graph input) ≡ quotient (transfer_graph input)
quotient_both input valid joint =
    let n = length input.disks in
    sym (ap greatest (map_same (disk_value (transfer_graph input)) (part_value Both (transfer_graph input)) (range_with_len 0 n) (λ k d h. value_both input valid joint (get_or (range_with_len 0 n) k d) (in_range n k d h))))

pub quotient_sides : (input : InputLists) → IsInput input → is_duplex input.disks ≡ true → max (part_quotient Leaving (transfer_graph input)) (part_quotient Reaching (transfer_graph input)) ≡ quotient (transfer_graph input)
quotient_sides input valid duplex =
    let n = length input.disks in
    let graph = transfer_graph input in
    sym (ap greatest (map_same (disk_value graph) (λ v. max (part_value Leaving graph v) (part_value Reaching graph v)) (range_with_len 0 n) (λ k d h.
    let v = get_or (range_with_len 0 n) k d in
    value_split (disk_at input.disks v).limits v graph.transfers (kind_at input valid v (in_range n k d h) ∙ duplex)))
    ∙ greatest_max (part_value Leaving graph) (part_value Reaching graph) n)

-- the greater of the sides' quotients, as the code takes it
pub quotient_of_sides : (input : InputLists) → IsInput input → is_duplex input.disks ≡ true → (leaving reaching greater : ℕ) → leaving ≡ part_quotient Leaving (transfer_graph input) → reaching ≡ part_quotient Reaching (transfer_graph input)
    → greater ≡ max leaving reaching → greater ≡ quotient (transfer_graph input)
quotient_of_sides input valid duplex leaving reaching greater l r is =
    is ∙ ap (λ n. max n reaching) l ∙ ap (λ n. max (part_quotient Leaving (transfer_graph input)) n) r ∙ quotient_sides input valid duplex

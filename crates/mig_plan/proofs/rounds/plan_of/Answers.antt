use Rattle.mig_plan.proofs.Common.{GoesToTargets, HasNoEmptyRound, IfOk, IfOk-weaker, IsLimited, IsPartition, IsPlan, List, Once, PlanFits, Runs, Shift, Transfers, ap, arith, filter, is_filled}
use Rattle.mig_plan.proofs.Common.{items_of, length, length-map, map, moves, partition_is_plan, subst, sym, transfer, ◌∙◌, ◌≡◌, ◌≤◌}
use Rattle.mig_plan.proofs.RowLaws.{is_partition, few_rounds, rows_are, rows_for}
use Rattle.mig_plan.proofs.rounds.plan_of.Goals as goal

-- what the call made
made : (c : goal.After-rounds_of) → filter is_filled (map items_of c.in_ok-rows.rows.items) ≡ filter is_filled (rows_for c.args.input.now c.args.targets.now c.args.colours.now c.args.count (length (moves c.args.input.now)))
made c =
    let input = c.args.input.now in
    let m : length c.args.colours.now ≡ length (moves input) = c.requires.limited.one_each ∙ ap (λ (g : Transfers). length g.transfers) c.requires.graph ∙ length-map (moves input) (transfer input) in
    let len : length c.in_ok-rows.rows.items ≡ c.args.count = omega (arith, c.in_ok-rows.ensures.len) in
    ap (λ (x : List (List Shift)). filter is_filled x) (rows_are input c.args.targets.now c.args.colours.now c.args.count (length c.args.colours.now) c.in_ok-rows.rows.items len c.in_ok-rows.ensures.rows
    ∙ ap (rows_for input c.args.targets.now c.args.colours.now c.args.count) m)

parts : (c : goal.After-rounds_of) → IsPartition c.args.input.now c.args.targets.now (filter is_filled (rows_for c.args.input.now c.args.targets.now c.args.colours.now c.args.count (length (moves c.args.input.now))))
parts c = is_partition c.args.input.now c.args.targets.now c.args.colours.now c.args.count c.requires.targets (subst (λ (g : Transfers). IsLimited g c.args.count c.args.colours.now) c.requires.graph c.requires.limited)

planned : (c : goal.After-rounds_of) → IsPlan c.args.input.now (filter is_filled (rows_for c.args.input.now c.args.targets.now c.args.colours.now c.args.count (length (moves c.args.input.now))))
planned c = partition_is_plan c.args.input.now c.args.targets.now _ c.keeps_rules.ensures c.requires.roomy c.requires.targets (parts c)

-- what holds of the rows that are not empty holds of the plan
pub holds : (c : goal.After-rounds_of) (P : List (List Shift) → Type 0) → P (filter is_filled (rows_for c.args.input.now c.args.targets.now c.args.colours.now c.args.count (length (moves c.args.input.now)))) → IfOk c.rounds_of.result P
holds c P p = IfOk-weaker c.rounds_of.result (λ (p : List (List Shift)). p ≡ filter is_filled (map items_of c.in_ok-rows.rows.items)) P (λ x e. subst P (sym (e ∙ made c)) p) c.rounds_of.ensures

pub returns : goal.returns
returns c =
    record {
      fits = holds c (λ (p : List (List Shift)). PlanFits c.args.input.now p) (planned c).fits;
      runs = holds c (λ (p : List (List Shift)). Runs c.args.input.now p) (planned c).runs;
      once = holds c (λ (p : List (List Shift)). Once c.args.input.now p) (planned c).once;
      targets = holds c (λ (p : List (List Shift)). GoesToTargets c.args.input.now p) (c.args.targets.now, c.requires.targets, (parts c).shifts);
      filled = holds c (λ (p : List (List Shift)). HasNoEmptyRound p) (parts c).filled;
      few = holds c (λ (p : List (List Shift)). length p ≤ c.args.count) (few_rounds c.args.input.now c.args.targets.now c.args.colours.now c.args.count (length (moves c.args.input.now)));
    }

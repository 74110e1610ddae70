-- A plan has at least as many rounds as the quotient.
use Rattle.mig_plan.proofs.Common.{All-map, Because, GoesToTargets, HasNoEmptyRound, InputLists, IsInput, IsPlanOf, List, Needs, Once, PlanFits, Reason, Runs, Shift, Transfers, arith, disk_value, get_or}
use Rattle.mig_plan.proofs.Common.{get_or-range_with_len, length, length-range_with_len, map, needs_disk, obeys, quotient, range_with_len, round_of, scheduled, subst, transfer_graph, ℕ, ◌*◌, ◌<◌, ◌≡◌}
use Rattle.mig_plan.proofs.Common.{◌≤◌}
use Rattle.mig_duplex.proofs.Quotients.{greatest_most}

-- every schedule has at least as many rounds as the quotient
pub needs_quotient : (input : InputLists) → IsInput input → Needs input (quotient (transfer_graph input))
needs_quotient input is rounds round_of scheduled obeys =
    let n = length input.disks in
    greatest_most 0 rounds (map (disk_value (transfer_graph input)) (range_with_len 0 n)) (omega arith)
    (All-map (λ x. x ≤ rounds) (disk_value (transfer_graph input)) (range_with_len 0 n) (λ k d h.
    let v = get_or (range_with_len 0 n) k d in
    let there : v < n = omega (arith, get_or-range_with_len 0 n k d (omega (arith, h, length-range_with_len 0 n)), h, length-range_with_len 0 n) in
    needs_disk input v is there rounds round_of scheduled obeys))

-- what is promised of a plan of at most n rounds
pub plan_made : (input : InputLists) (graph : Transfers) (plan : List (List Shift)) (n : ℕ) → IsInput input → graph ≡ transfer_graph input
    → PlanFits input plan → Runs input plan → Once input plan → GoesToTargets input plan → HasNoEmptyRound plan
    → length plan ≤ n → ((why : Reason) → Because why graph → n ≤ quotient graph) → 2 * n ≤ 3 * quotient graph → IsPlanOf input plan
plan_made input graph plan n is same fits runs once targets filled few tight most =
    let lower = needs_quotient input is in
    let enough = subst (λ (g : Transfers). (why : Reason) → Because why g → n ≤ quotient g) same tight in
    record {
      fits = fits;
      runs = runs;
      once = once;
      targets = targets;
      filled = filled;
      lower = lower;
      tight = λ why holds. omega (arith, few, enough why holds, lower (length plan) (round_of plan) (scheduled input plan once) (obeys input plan is runs once));
      most = omega (arith, few, subst (λ (g : Transfers). 2 * n ≤ 3 * quotient g) same most);
    }

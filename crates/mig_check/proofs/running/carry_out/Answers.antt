use Rattle.mig_check.proofs.Common.{At, IsListOf, List, Spot, after_round, ap, arith, length, subst, suc, sym, ℕ, ◌+◌, ◌∙◌, ◌≡◌}
use Rattle.mig_check.proofs.LayoutLists.{IsListOf-next, items_in_round, length-after_round, round_taken}
use Rattle.mig_check.proofs.running.carry_out.Goals as goal

pub move_items-requires : goal.move_items-requires
move_items-requires c =
    let plan = c.args.plan.now in
    let k = c.loop-round.round-index in
    let round = c.shifts.result.now in
    let at = round_taken plan c.rounds.result.now c.args.rounds k round c.round-item.result c.rounds.ensures c.loop-round-test.true c.shifts.ensures c.round-item.is in
    items_in_round c.args.input.now plan k c.loop-round.spots round c.requires.runs at.0 at.1 c.loop-round.invariant.len

pub loop-round-preserved : goal.loop-round-preserved
loop-round-preserved c =
    let input = c.args.input.now in
    let plan = c.args.plan.now in
    let k = c.loop-round.round-index in
    let spots = c.loop-round.spots in
    let round = c.shifts.result.now in
    let at = round_taken plan c.rounds.result.now c.args.rounds k round c.round-item.result c.rounds.ensures c.loop-round-test.true c.shifts.ensures c.round-item.is in
    let there = items_in_round input plan k spots round c.requires.runs at.0 at.1 c.loop-round.invariant.len in
    let next : IsListOf (At input plan (suc k)) (after_round spots round) = IsListOf-next input plan k spots round at.1 there c.loop-round.invariant.layout in
    let e : suc k ≡ k + 1 = omega arith in
    record {
      layout = subst (λ (s : List Spot). IsListOf (At input plan (k + 1)) s) (sym c.move_items.ensures) (subst (λ (n : ℕ). IsListOf (At input plan n) (after_round spots round)) e next);
      len = ap (λ (s : List Spot). length s) c.move_items.ensures ∙ length-after_round round spots ∙ c.loop-round.invariant.len;
    }

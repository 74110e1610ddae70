use Rattle.mig_check.proofs.Common.{List, Shift, [], ap, arith, count_by, get_or_default, is_of, round_at, suc, ◌∙◌, ◌≡◌}
use Rattle.mig_check.proofs.ItemCounts.{once_in_round, shift_count_more}
use Rattle.mig_check.proofs.moved.count_rounds.Goals as goal

pub loop-round-preserved : goal.loop-round-preserved
loop-round-preserved c =
    let plan = c.args.rounds.now in
    let k = c.loop-round.round-index in
    let there = c.loop-round-test.true in
    let is_round : c.shifts.result.now ≡ round_at plan (suc k) = c.shifts.ensures ∙ c.round-item.is ∙ get_or_default plan k c.round-item.result [] there in
    record {
      counted = λ item h. omega (arith, c.count_round.ensures item h, c.loop-round.invariant.counted item (omega (arith, h, c.count_round.auto.counts)), shift_count_more plan k item there, ap (λ (r : List Shift). count_by (is_of item) r) is_round);
      most = λ item h. omega (arith, c.count_round.ensures item h, c.loop-round.invariant.most item (omega (arith, h, c.count_round.auto.counts)), once_in_round item (round_at plan (suc k)) (c.requires.runs.rounds k there).once, ap (λ (r : List Shift). count_by (is_of item) r) is_round);
    }

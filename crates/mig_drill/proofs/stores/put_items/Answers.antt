use Rattle.mig_drill.proofs.Common.{ChangesOnly, InputLists, IsListedCell, List, Shift, [], ap, arith, get_or, get_or_default, length, round_at, state_of, still_none, subst, suc, then_step, ◌<◌, ◌∙◌}
use Rattle.mig_drill.proofs.Common.{◌≡◌}
use Rattle.mig_drill.proofs.FillLaws.{made_shifted, round_items, rounds_more}
use Rattle.mig_drill.proofs.stores.put_items.Goals as goal

pub put_round-requires-clause-items : goal.put_round-requires-clause-items
put_round-requires-clause-items c =
    let task = c.args.job.now in
    let i = c.loop-round.round-index in
    let here = c.rounds-round-items.ensures ∙ c.plan.ensures.value in
    let rounds = ap (λ (l : List (List Shift)). length l) here in
    let within : i < length task.plan = omega (arith, rounds, c.loop-round-test.true) in
    let is_round : c.shifts.result.now ≡ round_at task.plan (suc i) =
    c.shifts.ensures ∙ c.round-item.is ∙ ap (λ (l : List (List Shift)). get_or l i c.round-item.result) here ∙ get_or_default task.plan i c.round-item.result [] within in
    round_items task c.plan.ensures.valid c.input.result.now c.input.ensures.value i within c.shifts.result.now is_round

pub put_round-requires-clause-none : goal.put_round-requires-clause-none
put_round-requires-clause-none c = still_none (IsListedCell c.args.job.now.input) (state_of c.args.store.now) (state_of c.loop-round.store) c.requires c.loop-round.invariant.change

pub returns-in_err-put_round-clause-change : goal.returns-in_err-put_round-clause-change
returns-in_err-put_round-clause-change c =
    let P = IsListedCell c.args.job.now.input in
    let change = subst (λ (l : InputLists). ChangesOnly (IsListedCell l) (state_of c.loop-round.store) (state_of c.put_round.new.store)) c.input.ensures.value c.put_round.ensures.change in
    then_step P (state_of c.args.store.now) (state_of c.loop-round.store) P (state_of c.put_round.new.store) (λ cell is. is) c.loop-round.invariant.change change

pub loop-round-preserved : goal.loop-round-preserved
loop-round-preserved c =
    let task = c.args.job.now in
    let P = IsListedCell task.input in
    let i = c.loop-round.round-index in
    let here = c.rounds-round-items.ensures ∙ c.plan.ensures.value in
    let rounds = ap (λ (l : List (List Shift)). length l) here in
    let within : i < length task.plan = omega (arith, rounds, c.loop-round-test.true) in
    let is_round : c.shifts.result.now ≡ round_at task.plan (suc i) =
    c.shifts.ensures ∙ c.round-item.is ∙ ap (λ (l : List (List Shift)). get_or l i c.round-item.result) here ∙ get_or_default task.plan i c.round-item.result [] within in
    let change = subst (λ (l : InputLists). ChangesOnly (IsListedCell l) (state_of c.loop-round.store) (state_of c.put_round.new.store)) c.input.ensures.value c.put_round.ensures.change in
    record {
      made = rounds_more task c.plan.ensures.valid c.input.result.now c.input.ensures.value i within c.shifts.result.now is_round (state_of c.loop-round.store).reads (state_of c.put_round.new.store).reads
          c.in_ok-put_round.ensures.kept c.in_ok-put_round.ensures.made c.loop-round.invariant.made;
      change = then_step P (state_of c.args.store.now) (state_of c.loop-round.store) P (state_of c.put_round.new.store) (λ cell is. is) c.loop-round.invariant.change change;
    }

pub returns-clause-made : goal.returns-clause-made
returns-clause-made c =
    let rounds = ap (λ (l : List (List Shift)). length l) (c.rounds-round-items.ensures ∙ c.plan.ensures.value) in
    made_shifted c.args.job.now.input c.args.job.now.plan c.loop-round.round-index (state_of c.loop-round.store).reads (omega (arith, rounds, c.loop-round-test.false)) c.loop-round.invariant.made

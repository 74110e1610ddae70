use Rattle.mig_jobs.proofs.Common.{AreWaypoints, Contains, Contains-get_or, List, Shift, [], ap, arith, get_or, get_or_default, length, round_at, subst, suc, ℕ, ◌+◌, ◌<◌, ◌∙◌, ◌≡◌}
use Rattle.mig_jobs.proofs.StopLaws.{rounds_more}
use Rattle.mig_jobs.proofs.TableSteps.{shifted_item}
use Rattle.mig_jobs.proofs.stops.stops_of.Goals as goal

fewer : (plan : List (List Shift)) (k : ℕ) (rounds : List (List Shift)) → rounds ≡ plan → k < length rounds → k < length plan
fewer plan k rounds same lt = subst (λ (l : List (List Shift)). k < length l) same lt

round_is : (plan : List (List Shift)) (k : ℕ) (rounds : List (List Shift)) → rounds ≡ plan → (round : List Shift) → round ≡ get_or rounds k round → k < length rounds → (shifts : List Shift) → shifts ≡ round → shifts ≡ round_at plan (suc k)
round_is plan k rounds same round is lt shifts are = are ∙ is ∙ ap (λ (l : List (List Shift)). get_or l k round) same ∙ get_or_default plan k round [] (fewer plan k rounds same lt)

pub add_stops-requires : goal.add_stops-requires
add_stops-requires c = λ j d lt.
    let plan = c.args.plan.now in
    let k = c.loop-k.k in
    let shifts : c.shifts.result.now ≡ round_at plan (suc k) = round_is plan k c.rounds-rounds.result.now c.rounds-rounds.ensures c.index-rounds-k.result c.index-rounds-k.is c.loop-k-test.true c.shifts.result.now c.shifts.ensures in
    let s = get_or c.shifts.result.now j d in
    let within = shifted_item c.args.input.now plan c.requires.runs k (fewer plan k c.rounds-rounds.result.now c.rounds-rounds.ensures c.loop-k-test.true) s (subst (λ (l : List Shift). Contains l s) shifts (Contains-get_or c.shifts.result.now j d lt)) in
    omega (arith, within, c.loop-k.invariant.each, c.keeps_rules.ensures.spots_len)

pub loop-k-preserved : goal.loop-k-preserved
loop-k-preserved c =
    let plan = c.args.plan.now in
    let k = c.loop-k.k in
    let shifts : c.shifts.result.now ≡ round_at plan (suc k) = round_is plan k c.rounds-rounds.result.now c.rounds-rounds.ensures c.index-rounds-k.result c.index-rounds-k.is c.loop-k-test.true c.shifts.result.now c.shifts.ensures in
    subst (λ (n : ℕ). AreWaypoints c.args.input.now plan n c.add_stops.new.rows.items) (let e : suc k ≡ k + 1 = omega arith in e)
    (rounds_more c.args.input.now plan k (k + 1) c.shifts.result.now c.loop-k.rows.items c.add_stops.new.rows.items (omega arith) shifts c.in_ok-add_stops.ensures.len c.in_ok-add_stops.ensures.rows c.loop-k.invariant)

use Rattle.mig_check.proofs.Common.{All, At, FirstBlame-after, InputLists, IsLegal, IsListOf, Layout, List, PlanFits, RoundBlame, Shift, ShiftFits, Spot, [], after_round, ap, arith, below_more}
use Rattle.mig_check.proofs.Common.{get_or_default, layout_of, length, round_at, subst, suc, sym, ℕ, ◌+◌, ◌<◌, ◌∙◌, ◌≡◌}
use Rattle.mig_check.proofs.BlameCases.{run_blame}
use Rattle.mig_check.proofs.LayoutLists.{IsListOf-next, items_there, length-after_round}
use Rattle.mig_check.proofs.rounds.check_rounds.Goals as goal

-- the shifts of a round of a plan that fits
fits_at : (input : InputLists) (plan : List (List Shift)) (k : ℕ) (round : List Shift) → PlanFits input plan → ◌<◌ k (length plan) → round ≡ round_at plan (suc k) → All (ShiftFits input) round
fits_at input plan k round fits there is = subst (λ (r : List Shift). All (ShiftFits input) r) (sym is) (fits.shifts k [] there)

pub returns-in-Err-clause-blame : goal.returns-in-Err-clause-blame
returns-in-Err-clause-blame c =
    let input = c.args.input.now in
    let plan = c.args.rounds.now in
    let k = c.loop-k.k in
    let b = c.in-Err.blame in
    let spots = c.loop-k.spots in
    let round = c.shifts.result.now in
    let is_round : round ≡ round_at plan (suc k) = c.shifts.ensures ∙ c.index-rounds-k.is ∙ get_or_default plan k c.index-rounds-k.result [] c.loop-k-test.true in
    let same : layout_of spots ≡ At input plan k = λ j i. c.loop-k.invariant.list i j in
    let blame : RoundBlame input (At input plan k) round (k + 1) b = subst (λ (l : Layout). RoundBlame input l round (k + 1) b) same c.in-Err.ensures.blame in
    run_blame input plan (At input plan k) round (k + 1) b blame
    (λ cert. FirstBlame-after input plan cert k b round c.loop-k-test.true c.loop-k.invariant.run is_round blame)

pub loop-k-preserved : goal.loop-k-preserved
loop-k-preserved c =
    let input = c.args.input.now in
    let plan = c.args.rounds.now in
    let k = c.loop-k.k in
    let spots = c.loop-k.spots in
    let round = c.shifts.result.now in
    let inv = c.loop-k.invariant in
    let step = c.in_default.ensures in
    let is_round : round ≡ round_at plan (suc k) = c.shifts.ensures ∙ c.index-rounds-k.is ∙ get_or_default plan k c.index-rounds-k.result [] c.loop-k-test.true in
    let there = items_there input spots round inv.len (fits_at input plan k round c.requires.fits c.loop-k-test.true is_round) in
    let same : layout_of spots ≡ At input plan k = λ j i. inv.list i j in
    let legal : IsLegal input (At input plan k) round = subst (λ (l : Layout). IsLegal input l round) same step.ok in
    let next : IsListOf (At input plan (suc k)) (after_round spots round) = IsListOf-next input plan k spots round is_round there inv.list in
    let e : suc k ≡ k + 1 = omega arith in
    record {
      run = below_more _ _ inv.run (subst (λ (r : List Shift). IsLegal input (At input plan k) r) is_round legal);
      list = subst (λ (s : List Spot). IsListOf (At input plan (k + 1)) s) (sym step.after) (subst (λ (n : ℕ). IsListOf (At input plan n) (after_round spots round)) e next);
      len = ap (λ (s : List Spot). length s) step.after ∙ length-after_round round spots ∙ inv.len;
      layout = step.layout_after;
      taken = step.taken_after;
      seen_len = step.lens.0;
      seen = step.seen_after;
      counts_len = step.lens.1;
      counts = step.counts_after;
    }

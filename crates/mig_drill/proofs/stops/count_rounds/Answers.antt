use Rattle.mig_drill.proofs.Common.{ap, arith, count_is, is_marked, state_of, suc, sym, ◌+◌, ◌∙◌, ◌≡◌}
use Rattle.mig_drill.proofs.stops.count_rounds.Goals as goal

pub returns-then-not-holds_one-2 : goal.returns-then-not-holds_one-2
returns-then-not-holds_one-2 c =
    let image = (state_of c.args.store.now).reads in
    let n = c.loop-n.n in
    sym (count_is c.args.rounds image c.loop-n.invariant.armed n (record {
      most = omega arith;
      each = c.loop-n.invariant.marked;
      next = λ more. ap (is_marked image) (let e : suc n ≡ n + 1 = omega arith in e) ∙ sym c.holds_one-in-loop-n.ensures ∙ c.if-not-holds_one-2.true;
    }))

pub returns : goal.returns
returns c = sym (count_is c.args.rounds (state_of c.args.store.now).reads c.loop-n.invariant.armed c.args.rounds (record {
  most = omega arith;
  each = λ m low high. c.loop-n.invariant.marked m low (omega arith);
  next = λ more. absurd (omega arith);
}))

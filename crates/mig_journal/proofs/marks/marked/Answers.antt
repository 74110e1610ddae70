use Rattle.mig_journal.proofs.Common.{arith, false, true}
use Rattle.mig_journal.proofs.MarksRead.{one_more, stops, all_set}
use Rattle.mig_journal.proofs.Steps.{looks_then, look_mark, remembers_then}
use Rattle.mig_journal.proofs.marks.marked.Goals as goal

pub returns-in_err-is_set-clause-change : goal.returns-in_err-is_set-clause-change
returns-in_err-is_set-clause-change g c = looks_then (g.S.Store.state c.args.store.now) (g.S.Store.state c.loop-n.store) (g.S.Store.state c.is_set.new.store) c.loop-n.invariant.change c.is_set.ensures.change

pub returns-then-not-branch-clause-change : goal.returns-then-not-branch-clause-change
returns-then-not-branch-clause-change g c = looks_then (g.S.Store.state c.args.store.now) (g.S.Store.state c.loop-n.store) (g.S.Store.state c.is_set.new.store) c.loop-n.invariant.change c.is_set.ensures.change

pub returns-then-not-branch-clause-count : goal.returns-then-not-branch-clause-count
returns-then-not-branch-clause-count g c =
    let first = g.S.Store.state c.args.store.now in
    let now = g.S.Store.state c.loop-n.store in
    stops c.args.rounds c.loop-n.n first.reads now.reads (look_mark first now c.loop-n.invariant.change) c.in_ok-is_set.field-0 c.in_ok-is_set.ensures.set c.loop-n-test.true c.if-not-branch.true c.loop-n.invariant.ones

pub loop-n-preserved : goal.loop-n-preserved
loop-n-preserved g c =
    let first = g.S.Store.state c.args.store.now in
    let now = g.S.Store.state c.loop-n.store in
    record {
      change = looks_then first now (g.S.Store.state c.is_set.new.store) c.loop-n.invariant.change c.is_set.ensures.change;
      later = omega (arith, c.loop-n.invariant.later, c.is_set.ensures.cause.later);
      seen = remembers_then c.loop-n.invariant.seen c.is_set.ensures.seen;
      ones = one_more c.args.rounds c.loop-n.n first.reads now.reads (look_mark first now c.loop-n.invariant.change) c.in_ok-is_set.field-0 c.in_ok-is_set.ensures.set c.loop-n-test.true c.if-not-branch.false c.loop-n.invariant.ones;
    }

pub returns-clause-count : goal.returns-clause-count
returns-clause-count g c = λ told. all_set c.args.rounds (g.S.Store.state c.args.store.now).reads (λ m low high. c.loop-n.invariant.ones told m low (omega arith))

pub returns-in_err-is_set-clause-seen : goal.returns-in_err-is_set-clause-seen
returns-in_err-is_set-clause-seen g c = remembers_then c.loop-n.invariant.seen c.is_set.ensures.seen

pub returns-then-not-branch-clause-seen : goal.returns-then-not-branch-clause-seen
returns-then-not-branch-clause-seen g c = remembers_then c.loop-n.invariant.seen c.is_set.ensures.seen

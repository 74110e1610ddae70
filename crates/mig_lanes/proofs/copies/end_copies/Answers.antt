use Rattle.mig_journal.proofs.Steps.{remembers_then}
use Rattle.mig_lanes.proofs.Common.{arith, ends_then, named, ◌++◌}
use Rattle.mig_lanes.proofs.copies.end_copies.Goals as goal

pub returns-in_err-ended-clause-ends : goal.returns-in_err-ended-clause-ends
returns-in_err-ended-clause-ends g c = (
  c.loop.invariant.ends.0 ++ named (g.S.Store.state c.loop.store) c.ended.result,
  ends_then c.loop.invariant.ends.0 (named (g.S.Store.state c.loop.store) c.ended.result) (g.S.Store.state c.args.store.now) (g.S.Store.state c.loop.store) (g.S.Store.state c.ended.new.self) c.requires c.loop.invariant.ends.1 c.ended.ensures.ends,
)

pub returns-in-None-clause-ends : goal.returns-in-None-clause-ends
returns-in-None-clause-ends g c = (
  c.loop.invariant.ends.0 ++ named (g.S.Store.state c.loop.store) c.ended.result,
  ends_then c.loop.invariant.ends.0 (named (g.S.Store.state c.loop.store) c.ended.result) (g.S.Store.state c.args.store.now) (g.S.Store.state c.loop.store) (g.S.Store.state c.ended.new.self) c.requires c.loop.invariant.ends.1 c.ended.ensures.ends,
)

pub loop-preserved : goal.loop-preserved
loop-preserved g c = record {
  ends = (
    c.loop.invariant.ends.0 ++ named (g.S.Store.state c.loop.store) c.ended.result,
    ends_then c.loop.invariant.ends.0 (named (g.S.Store.state c.loop.store) c.ended.result) (g.S.Store.state c.args.store.now) (g.S.Store.state c.loop.store) (g.S.Store.state c.ended.new.self) c.requires c.loop.invariant.ends.1 c.ended.ensures.ends,
  );
  later = omega (arith, c.loop.invariant.later, c.ended.ensures.cause.later);
  seen = remembers_then c.loop.invariant.seen c.ended.ensures.seen;
}

pub returns-in_err-ended-clause-seen : goal.returns-in_err-ended-clause-seen
returns-in_err-ended-clause-seen g c = remembers_then c.loop.invariant.seen c.ended.ensures.seen

pub returns-in-None-clause-seen : goal.returns-in-None-clause-seen
returns-in-None-clause-seen g c = remembers_then c.loop.invariant.seen c.ended.ensures.seen

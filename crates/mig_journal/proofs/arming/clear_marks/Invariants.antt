use Rattle.mig_journal.proofs.Common.{AreUnmarked, ChangesOnly, IsMark, ◌≤◌}
use Rattle.mig_store.specs.Grounds.{IsNoSlot, Remembers}
use Rattle.mig_journal.proofs.arming.clear_marks.Given as goal

abbrev pub invariant-loop-n : goal.invariant-loop-n
invariant-loop-n g l = record {
  cleared : AreUnmarked l.n (g.S.Store.state l.store).reads;
  change : ChangesOnly (IsMark l.rounds) (g.S.Store.state l.initial.store) (g.S.Store.state l.store);
  later : (g.S.Store.state l.initial.store).faults ≤ (g.S.Store.state l.store).faults;
  seen : Remembers IsNoSlot (g.S.Store.seen l.initial.store) (g.S.Store.seen l.store);
}

use Rattle.mig_journal.proofs.Common.{IsMark, Looks, NoCell, Tells, is_marked, true, ℕ, ◌≡◌, ◌≤◌}
use Rattle.mig_store.specs.Grounds.{Remembers}
use Rattle.mig_journal.proofs.marks.marked.Given as goal

abbrev pub invariant-loop-n : goal.invariant-loop-n
invariant-loop-n g l = record {
  change : Looks (g.S.Store.state l.initial.store) (g.S.Store.state l.store);
  later : (g.S.Store.state l.initial.store).faults ≤ (g.S.Store.state l.store).faults;
  seen : Remembers NoCell (g.S.Store.seen l.initial.store) (g.S.Store.seen l.store);
  ones : Tells (IsMark l.rounds) (g.S.Store.state l.initial.store).reads → (m : ℕ) → 1 ≤ m → m ≤ l.n → is_marked (g.S.Store.state l.initial.store).reads m ≡ true;
}

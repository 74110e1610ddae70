use Rattle.mig_journal.proofs.Steps.{remembers_then}
use Rattle.mig_journal.proofs.ArmingLaws.{unmarked_kept, clear_change, clear_leaves, name_change, name_leaves, gate_change, gate_leaves}
use Rattle.mig_journal.proofs.arming.arm.Goals as goal

pub returns-in_err-clear_marks-clause-change : goal.returns-in_err-clear_marks-clause-change
returns-in_err-clear_marks-clause-change g c = clear_change c.args.rounds c.args.digest.now (g.S.Store.state c.args.store.now) c.requires.idle (g.S.Store.state c.clear_marks.new.store) c.clear_marks.ensures.change

pub returns-in_err-clear_marks-clause-any_moment : goal.returns-in_err-clear_marks-clause-any_moment
returns-in_err-clear_marks-clause-any_moment g c = clear_leaves c.args.rounds c.args.digest.now (g.S.Store.state c.args.store.now) c.requires.idle (g.S.Store.state c.clear_marks.new.store) c.clear_marks.ensures.change

pub returns-in_err-settle-clause-change : goal.returns-in_err-settle-clause-change
returns-in_err-settle-clause-change g c = name_change c.args.rounds c.args.digest.now (g.S.Store.state c.args.store.now) c.requires.idle (g.S.Store.state c.clear_marks.new.store) c.clear_marks.ensures.change (g.S.Store.state c.settle.new.store) c.settle.ensures.change

pub returns-in_err-settle-clause-any_moment : goal.returns-in_err-settle-clause-any_moment
returns-in_err-settle-clause-any_moment g c = name_leaves c.args.rounds c.args.digest.now (g.S.Store.state c.args.store.now) c.requires.idle (g.S.Store.state c.clear_marks.new.store) c.clear_marks.ensures.change (g.S.Store.state c.settle.new.store) c.settle.ensures.change

pub returns-clause-change : goal.returns-clause-change
returns-clause-change g c = gate_change c.args.rounds c.args.digest.now (g.S.Store.state c.args.store.now) c.requires.idle (g.S.Store.state c.clear_marks.new.store) c.clear_marks.ensures.change (g.S.Store.state c.settle.new.store) c.settle.ensures.change
    (g.S.Store.state c.settle-2.new.store) c.settle-2.ensures.change

pub returns-clause-any_moment : goal.returns-clause-any_moment
returns-clause-any_moment g c =
    let cleared = g.S.Store.state c.clear_marks.new.store in
    let named = g.S.Store.state c.settle.new.store in
    gate_leaves c.args.rounds c.args.digest.now (g.S.Store.state c.args.store.now) c.requires.idle cleared c.clear_marks.ensures.change named c.settle.ensures.change
    (g.S.Store.state c.settle-2.new.store) c.settle-2.ensures.change c.in_ok-settle.ensures.settled
    (record { head = c.in_ok-settle.ensures.written; marks = unmarked_kept c.args.rounds cleared.reads named.reads c.settle.ensures.change.told c.in_ok-clear_marks.ensures.cleared })

pub returns-in_err-settle-clause-seen : goal.returns-in_err-settle-clause-seen
returns-in_err-settle-clause-seen g c = remembers_then c.clear_marks.ensures.seen c.settle.ensures.seen

pub returns-clause-seen : goal.returns-clause-seen
returns-clause-seen g c = remembers_then (remembers_then c.clear_marks.ensures.seen c.settle.ensures.seen) c.settle-2.ensures.seen

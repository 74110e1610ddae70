use Rattle.mig_journal.proofs.Steps.{looks_then, remembers_then}
use Rattle.mig_journal.proofs.looking.look.Goals as goal

pub returns-in_err-read-2-clause-change : goal.returns-in_err-read-2-clause-change
returns-in_err-read-2-clause-change g c = looks_then (g.S.Store.state c.args.store.now) (g.S.Store.state c.read.new.self) (g.S.Store.state c.read-2.new.self) c.in_ok-read.ensures.change c.read-2.ensures.change

pub returns-clause-change : goal.returns-clause-change
returns-clause-change g c = looks_then (g.S.Store.state c.args.store.now) (g.S.Store.state c.read.new.self) (g.S.Store.state c.read-2.new.self) c.in_ok-read.ensures.change c.read-2.ensures.change

pub returns-in_err-read-2-clause-seen : goal.returns-in_err-read-2-clause-seen
returns-in_err-read-2-clause-seen g c = remembers_then c.read.ensures.seen c.read-2.ensures.seen

pub returns-clause-seen : goal.returns-clause-seen
returns-clause-seen g c = remembers_then c.read.ensures.seen c.read-2.ensures.seen

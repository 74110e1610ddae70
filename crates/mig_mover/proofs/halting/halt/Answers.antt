use Rattle.mig_mover.proofs.HaltLaws.{change_erased, change_closed, erased_closed, keeps_erased, keeps_closed, ends_closed}
use Rattle.mig_mover.proofs.halting.halt.Goals as goal

pub returns-in_err-erase_free-clause-any_moment : goal.returns-in_err-erase_free-clause-any_moment
returns-in_err-erase_free-clause-any_moment g c =
    keeps_erased c.args.job.now c.erase_free.ensures.valid c.args.found c.requires.most _ _ c.erase_free.ensures.change c.requires.settled
    c.requires.at

pub returns-in_err-erase_free-clause-change : goal.returns-in_err-erase_free-clause-change
returns-in_err-erase_free-clause-change g c =
    change_erased c.args.job.now c.erase_free.ensures.valid c.args.found c.requires.most _ _ c.erase_free.ensures.change

pub returns-in_err-disarm-clause-any_moment : goal.returns-in_err-disarm-clause-any_moment
returns-in_err-disarm-clause-any_moment g c =
    keeps_closed c.args.job.now c.erase_free.ensures.valid c.args.found c.requires.most _ _ c.erase_free.ensures.change
    c.in_ok-erase_free.ensures.erased _ c.disarm.ensures.change c.requires.settled c.in_ok-erase_free.ensures.settled c.requires.at

pub returns-clause-any_moment : goal.returns-clause-any_moment
returns-clause-any_moment g c =
    keeps_closed c.args.job.now c.erase_free.ensures.valid c.args.found c.requires.most _ _ c.erase_free.ensures.change
    c.in_ok-erase_free.ensures.erased _ c.disarm.ensures.change c.requires.settled c.in_ok-erase_free.ensures.settled c.requires.at

pub returns-in_err-disarm-clause-change : goal.returns-in_err-disarm-clause-change
returns-in_err-disarm-clause-change g c =
    change_closed c.args.job.now c.erase_free.ensures.valid c.args.found c.requires.most _ _ c.erase_free.ensures.change
    c.in_ok-erase_free.ensures.erased _ c.disarm.ensures.change

pub returns-clause-change : goal.returns-clause-change
returns-clause-change g c =
    change_closed c.args.job.now c.erase_free.ensures.valid c.args.found c.requires.most _ _ c.erase_free.ensures.change
    c.in_ok-erase_free.ensures.erased _ c.disarm.ensures.change

pub returns-clause-halted : goal.returns-clause-halted
returns-clause-halted g c =
    ends_closed c.args.job.now c.erase_free.ensures.valid c.args.found c.requires.most _ _ c.erase_free.ensures.change
    c.in_ok-erase_free.ensures.erased _ c.disarm.ensures.change c.requires.at c.in_ok-disarm.ensures.closed

pub returns-clause-erased : goal.returns-clause-erased
returns-clause-erased g c =
    erased_closed c.args.job.now c.erase_free.ensures.valid c.args.found c.requires.most _ _ c.erase_free.ensures.change
    c.in_ok-erase_free.ensures.erased _ c.disarm.ensures.change

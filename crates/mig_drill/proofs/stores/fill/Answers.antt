use Rattle.mig_drill.proofs.Common.{IsListedCell, on_ok_is, state_of, still_none, sync_same, told_kept}
use Rattle.mig_drill.proofs.FillLaws.{filled_then}
use Rattle.mig_drill.proofs.stores.fill.Goals as goal

pub returns-clause-filled : goal.returns-clause-filled
returns-clause-filled c =
    let mid = state_of c.clear_all.new.store in
    let put = state_of c.put_items.new.store in
    let last = state_of c.sync.new.self in
    let none = still_none (IsListedCell c.args.job.now.input) mid put c.clear_all.ensures.none c.put_items.ensures.change in
    on_ok_is c.sync.result (filled_then c.args.job.now c.args.cells.now mid.reads put.reads last.reads c.requires.cells c.in_ok-clear_all.ensures.clear c.put_items.ensures.change.told c.in_ok-put_items.ensures.made
    (sync_same put last none c.sync.ensures.ends.0 c.sync.ensures.ends.1))

pub returns-in_err-put_items-clause-told : goal.returns-in_err-put_items-clause-told
returns-in_err-put_items-clause-told c = λ k told. told_kept (IsListedCell c.args.job.now.input) (state_of c.clear_all.new.store).reads (state_of c.put_items.new.store).reads c.put_items.ensures.change.told k (c.clear_all.ensures.told k told)

pub returns-clause-told : goal.returns-clause-told
returns-clause-told c = λ k told. told_kept _ (state_of c.put_items.new.store).reads (state_of c.sync.new.self).reads c.sync.ensures.ends.1.change.told k
    (told_kept (IsListedCell c.args.job.now.input) (state_of c.clear_all.new.store).reads (state_of c.put_items.new.store).reads c.put_items.ensures.change.told k (c.clear_all.ensures.told k told))

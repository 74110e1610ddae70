use Rattle.mig_drill.proofs.Common.{arith, state_of, still_none, told_kept, ◌≡◌}
use Rattle.mig_drill.proofs.FillLaws.{clear_more}
use Rattle.mig_drill.proofs.stores.clear_all.Goals as goal

pub loop-cell-preserved : goal.loop-cell-preserved
loop-cell-preserved c =
    let old = state_of c.loop-cell.store in
    let new = state_of c.clear.new.store in
    let cell = c.cell-item.result in
    record {
      clear = clear_more old.reads new.reads cell c.clear.ensures.change.told c.in_ok-clear.ensures.clear c.args.cells.now c.loop-cell.cell-index c.loop-cell-test.true c.cell-item.is c.loop-cell.invariant.clear;
      none = still_none (λ k. k ≡ cell) old new c.loop-cell.invariant.none c.clear.ensures.change;
      told = λ k told. told_kept (λ k. k ≡ cell) old.reads new.reads c.clear.ensures.change.told k (c.loop-cell.invariant.told k told);
    }

pub returns-clause-clear : goal.returns-clause-clear
returns-clause-clear c = λ k d lt. c.loop-cell.invariant.clear k d (omega arith) (omega (arith, lt, c.loop-cell-test.false))

pub returns-in_err-clear-clause-none : goal.returns-in_err-clear-clause-none
returns-in_err-clear-clause-none c = still_none (λ k. k ≡ c.cell-item.result) (state_of c.loop-cell.store) (state_of c.clear.new.store) c.loop-cell.invariant.none c.clear.ensures.change

pub loop-cell-init : goal.loop-cell-init
loop-cell-init c = record { clear = λ k d low high. absurd (omega arith); none = c.requires; told = λ k told. told }

pub returns-in_err-clear-clause-told : goal.returns-in_err-clear-clause-told
returns-in_err-clear-clause-told c = λ k told. told_kept (λ k. k ≡ c.cell-item.result) (state_of c.loop-cell.store).reads (state_of c.clear.new.store).reads c.clear.ensures.change.told k (c.loop-cell.invariant.told k told)

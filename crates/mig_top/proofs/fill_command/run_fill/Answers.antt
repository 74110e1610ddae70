use Rattle.mig_top.proofs.Common.{[], filled_text, refl, ◌∷◌}
use Rattle.mig_top.proofs.StoreCommands.{fill_done, fill_refused, fill_rest}
use Rattle.mig_top.proofs.EndsOf.{err_is, refused, shown, stopped}
use Rattle.mig_top.proofs.StoreEnds.{unread, untouched}
use Rattle.mig_top.proofs.fill_command.run_fill.Goals as goal

pub returns-in_err-input : goal.returns-in_err-input
returns-in_err-input g c =
    rw (err_is c.from_residual.ensures.1) (stopped _ _ (unread (fill_rest (g.S.Store.state c.args.store.now))
    (λ o h. h) tt (λ o u. c.load_layout.ensures.same) untouched c.in_err-input.ensures.takes))

pub returns-in-Ok : goal.returns-in-Ok
returns-in-Ok g c =
    let input = c.in_ok-input.input in
    let e = c.in-Ok.ensures in
    shown (filled_text input)
    (fill_done c.load_layout.ensures.same input c.in_ok-input.ensures.takes.passes c.fill.ensures.change e.made e.settled e.landed e.idle e.fillable) (rw c.item_count.ensures.count at c.show_parts.ensures)

pub returns : goal.returns
returns g c =
    let input = c.in_ok-input.input in
    refused (g.K.Sink.state c.args.out.now) c.fault_ending.result input input c.in-Err.fault (c.fault_ending.ensures (c.args.disks.now ∷ c.args.now.now ∷ [])) refl
    (fill_refused c.load_layout.ensures.same input c.in_ok-input.ensures.takes.passes c.fill.ensures.change c.in-Err.fault c.in-Err.ensures.fault)

use Rattle.mig_mover.proofs.ReadyKept.{made_not_zeros, none_cause}
use Rattle.mig_mover.proofs.Common.{subst, sym}
use Rattle.mig_mover.proofs.FillSteps.{listed, put_change, put_made}
use Rattle.mig_mover.proofs.filling.put_item.Goals as goal

pub write-requires-clause-asked : goal.write-requires-clause-asked
write-requires-clause-asked g c = λ slot. subst g.S.Store.asked (sym (listed c.args.input.now c.args.item c.now.result.now c.now.ensures.value c.spot_cell.result c.spot_cell.ensures)) c.requires.asked

pub returns-clause-made : goal.returns-clause-made
returns-clause-made g c = put_made c.args.input.now c.args.item c.now.result.now c.now.ensures.value c.spot_cell.result c.spot_cell.ensures c.requires.item c.items.result.now c.items.ensures.value
    c.index-items-item.result c.index-items-item.is c.made.result c.made.ensures (g.S.Store.state c.write.new.self).reads c.write.result c.write.ensures.written

pub returns-clause-change : goal.returns-clause-change
returns-clause-change g c = put_change c.args.input.now c.args.item c.now.result.now c.now.ensures.value c.spot_cell.result c.spot_cell.ensures (g.S.Store.state c.args.store.now) (g.S.Store.state c.write.new.self) c.write.ensures.change

pub returns-clause-cause : goal.returns-clause-cause
returns-clause-cause g c = none_cause c.write.result (λ why. made_not_zeros c.made.result _ c.made.ensures why.0.zeros) c.write.ensures.cause

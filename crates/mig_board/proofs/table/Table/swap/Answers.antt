use Rattle.mig_board.proofs.Common.{Entries, ap, with_entry, ◌∙◌}
use Rattle.mig_board.proofs.TableFacts.{swapped_now}
use Rattle.mig_board.proofs.table.Table.swap.Goals as goal

pub returns-clause-swapped : goal.returns-clause-swapped
returns-clause-swapped c =
    c.put-2.ensures ∙ ap (λ (t : Entries). with_entry t c.args.node c.args.two c.index-first.result.now) c.put.ensures ∙
    swapped_now c.self.inside c.self.invariant _ c.self.view_is _ _ _ c.requires.node c.requires.one c.requires.two _ _ _ _ c.place.ensures c.place-2.ensures c.index-first.ensures c.index-second.ensures

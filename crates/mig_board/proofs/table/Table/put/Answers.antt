use Rattle.mig_board.proofs.TableFacts.{is_put, put_same, put_turned}
use Rattle.mig_board.proofs.table.Table.put.Goals as goal

pub invariant_of-self : goal.invariant_of-self
invariant_of-self c =
    let p = is_put c.self.inside c.self.invariant _ c.self.view_is _ _ c.requires.node c.requires.colour _ c.place-here.ensures _ c.index.ensures in
    put_turned _ _ _ _ _ c.args.entry p c.is_none-was_free.result c.is_none.result c.is_none-was_free.ensures c.is_none.ensures c.if-is_none-was_free.true _ c.words_for.ensures _ _ c.deref_mut.ensures.value c.turn_bit.ensures

pub invariant_of-self-else-is_none-was_free : goal.invariant_of-self-else-is_none-was_free
invariant_of-self-else-is_none-was_free c =
    let p = is_put c.self.inside c.self.invariant _ c.self.view_is _ _ c.requires.node c.requires.colour _ c.place-here.ensures _ c.index.ensures in
    put_same _ _ _ _ _ c.args.entry p c.is_none-was_free.result c.is_none.result c.is_none-was_free.ensures c.is_none.ensures c.if-is_none-was_free.false

use Rattle.mig_calls.proofs.Common.{arith, length, length-take, ◌∙◌}
use Rattle.mig_calls.proofs.FilesSteps.{change_then, change_within, look_change, touches_then, touches_of, within_more}
use Rattle.mig_calls.proofs.memory.MemCallsCalls.write_at.Goals as goal

pub returns-in_err-open-clause-change : goal.returns-in_err-open-clause-change
returns-in_err-open-clause-change c = look_change c.open.ensures.look

pub returns-in_err-made-clause-flags : goal.returns-in_err-made-clause-flags
returns-in_err-made-clause-flags c = touches_of c.args.place.now (c.make.ensures.flushed ∙ c.open.ensures.flags.flushed)

pub returns-in_err-made-clause-change : goal.returns-in_err-made-clause-change
returns-in_err-made-clause-change c = look_change (change_then c.open.ensures.look c.make.ensures.look)

pub returns-in_err-put-clause-flags : goal.returns-in_err-put-clause-flags
returns-in_err-put-clause-flags c =
    touches_then (touches_of c.args.place.now (c.make.ensures.flushed ∙ c.open.ensures.flags.flushed))
    c.put.ensures.flags

pub returns-in_err-put-clause-change : goal.returns-in_err-put-clause-change
returns-in_err-put-clause-change c =
    change_then (look_change (change_then c.open.ensures.look c.make.ensures.look))
    (change_within (within_more c.args.place.now c.args.offset _ (length c.args.bytes.now)
    (omega (arith, length-take c.most-count.result c.args.bytes.now))) c.put.ensures.change)

pub returns-clause-flags : goal.returns-clause-flags
returns-clause-flags c =
    touches_then (touches_of c.args.place.now (c.make.ensures.flushed ∙ c.open.ensures.flags.flushed))
    c.put.ensures.flags

pub returns-clause-change : goal.returns-clause-change
returns-clause-change c =
    change_then (look_change (change_then c.open.ensures.look c.make.ensures.look))
    (change_within (within_more c.args.place.now c.args.offset _ (length c.args.bytes.now)
    (omega (arith, length-take c.most-count.result c.args.bytes.now))) c.put.ensures.change)

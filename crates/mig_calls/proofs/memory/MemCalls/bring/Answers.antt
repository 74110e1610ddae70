use Rattle.mig_calls.proofs.Common.{FileMoment, NoByte, Synced, ap}
use Rattle.std.proofs.lemmas.Result.{on_ok_weaker}
use Rattle.mig_calls.proofs.FilesSteps.{either, change_then, touches_then, touches_of}
use Rattle.mig_calls.proofs.MemorySteps.{kept_change, kept_touches, touches, synced_look, file_here}
use Rattle.mig_calls.proofs.memory.MemCalls.bring.Goals as goal

pub returns-clause-brought : goal.returns-clause-brought
returns-clause-brought c = on_ok_weaker c.change.result
    (λ is. ap (λ (f : FileMoment). f.flushed) (file_here c.open.new.self c.change.new.self c.args.place.now Synced is)) c.change.ensures.done

pub returns-clause-flags : goal.returns-clause-flags
returns-clause-flags c =
    touches_then (touches_of c.args.place.now c.open.ensures.flags.flushed)
    (either c.change.result c.change.ensures.done c.change.ensures.nothing
    (λ is. touches c.open.new.self c.change.new.self c.args.place.now Synced is)
    (λ is. kept_touches c.args.place.now c.open.new.self c.change.new.self is))

pub returns-clause-look : goal.returns-clause-look
returns-clause-look c =
    change_then c.open.ensures.look
    (either c.change.result c.change.ensures.done c.change.ensures.nothing
    (λ is. synced_look c.open.new.self c.change.new.self c.args.place.now is c.change.ensures.refused)
    (λ is. kept_change NoByte c.open.new.self c.change.new.self is c.change.ensures.refused))

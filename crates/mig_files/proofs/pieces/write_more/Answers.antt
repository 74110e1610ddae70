use Rattle.mig_files.proofs.Common.{arith}
use Rattle.mig_files.proofs.FilesSteps.{told_before, bytes_after}
use Rattle.mig_files.proofs.TrackingSteps.{write_step_then, step_is_write, cause_of}
use Rattle.mig_files.proofs.RestSteps.{rest_step, rest_still, rest_written}
use Rattle.mig_files.proofs.pieces.write_more.Goals as goal

pub returns-in-Ok-clause-step : goal.returns-in-Ok-clause-step
returns-in-Ok-clause-step g c = rw c.keep_open.ensures.notes (rest_step c.args.bytes.now c.args.done (omega arith) c.try_write.ensures.step)

pub returns-in-Ok-clause-kept : goal.returns-in-Ok-clause-kept
returns-in-Ok-clause-kept g c = rw c.keep_open.ensures.notes c.try_write.ensures.kept

pub returns-in-Ok-clause-written : goal.returns-in-Ok-clause-written
returns-in-Ok-clause-written g c = rest_written c.args.offset c.args.bytes.now c.args.done _ c.try_write.ensures.step c.requires.written c.in-Ok.ensures.count (omega arith) c.in-Ok.ensures.written

pub returns-in-Err-Interrupted-clause-step : goal.returns-in-Err-Interrupted-clause-step
returns-in-Err-Interrupted-clause-step g c = rest_step c.args.bytes.now c.args.done (omega arith) c.try_write.ensures.step

pub returns-in-Err-Interrupted-clause-written : goal.returns-in-Err-Interrupted-clause-written
returns-in-Err-Interrupted-clause-written g c = rest_still c.args.offset c.args.bytes.now c.args.done c.try_write.ensures.step c.requires.written

pub returns-in-Err-Failed-clause-step : goal.returns-in-Err-Failed-clause-step
returns-in-Err-Failed-clause-step g c = rest_step c.args.bytes.now c.args.done (omega arith) c.try_write.ensures.step

pub returns-in_ok-make_way-in-Err-Full-clause-step : goal.returns-in_ok-make_way-in-Err-Full-clause-step
returns-in_ok-make_way-in-Err-Full-clause-step g c = write_step_then (rest_step c.args.bytes.now c.args.done (omega arith) c.try_write.ensures.step) (step_is_write c.make_way.ensures.step)

pub returns-in_err-make_way-in-Err-Full-clause-step : goal.returns-in_err-make_way-in-Err-Full-clause-step
returns-in_err-make_way-in-Err-Full-clause-step g c = write_step_then (rest_step c.args.bytes.now c.args.done (omega arith) c.try_write.ensures.step) (step_is_write c.make_way.ensures.step)

pub returns-in_ok-make_way-in-Err-Full-clause-written : goal.returns-in_ok-make_way-in-Err-Full-clause-written
returns-in_ok-make_way-in-Err-Full-clause-written g c told =
    let look = c.make_way.ensures.step.change in
    bytes_after look c.args.place.now c.args.offset c.args.done c.args.bytes.now
    (rest_still c.args.offset c.args.bytes.now c.args.done c.try_write.ensures.step c.requires.written (told_before look c.args.place.now told))

pub returns-in-Err-Interrupted-clause-progress : goal.returns-in-Err-Interrupted-clause-progress
returns-in-Err-Interrupted-clause-progress g c = omega (arith, cause_of c.in-Err-Interrupted.field-0-is c.in-Err-Interrupted.ensures.cause)

pub returns-in-Err-Failed-clause-cause : goal.returns-in-Err-Failed-clause-cause
returns-in-Err-Failed-clause-cause g c = cause_of c.in-Err-Failed.field-0-is c.in-Err-Failed.ensures.cause

pub make_way-requires-clause-full : goal.make_way-requires-clause-full
make_way-requires-clause-full g c = omega (arith, cause_of c.in-Err-Full.field-0-is c.in-Err-Full.ensures.cause)

pub returns-in_ok-make_way-in-Err-Full-clause-progress : goal.returns-in_ok-make_way-in-Err-Full-clause-progress
returns-in_ok-make_way-in-Err-Full-clause-progress g c = omega (arith, cause_of c.in-Err-Full.field-0-is c.in-Err-Full.ensures.cause, c.make_way.ensures.step.more)

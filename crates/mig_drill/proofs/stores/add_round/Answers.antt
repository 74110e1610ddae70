use Rattle.mig_drill.proofs.Common.{Flight, arith, flight_of, flights_of, length-map, round_at}
use Rattle.mig_drill.proofs.JobCells.{none_before, ends_more, ends_all}
use Rattle.mig_drill.proofs.stores.add_round.Goals as goal

pub loop-place-init : goal.loop-place-init
loop-place-init c = none_before (flights_of c.args.job.now.input (round_at c.args.job.now.plan c.args.round)) c.args.cells.now.keys

pub loop-place-preserved : goal.loop-place-preserved
loop-place-preserved c =
    let f : Flight = record { from = c.copy-from.result.0; to = c.copy-from.result.1 } in
    ends_more (flights_of c.args.job.now.input (round_at c.args.job.now.plan c.args.round)) c.loop-place.place f c.copy-from.ensures c.args.cells.now.keys c.loop-place.cells.keys c.insert.new.self.keys c.insert-in-loop-place.new.self.keys
    c.in_ok-insert.ensures.keys c.in_ok-insert-2.ensures.keys c.loop-place.invariant

pub returns : goal.returns
returns c =
    let round = round_at c.args.job.now.plan c.args.round in
    ends_all (flights_of c.args.job.now.input round) c.loop-place.place (omega (arith, c.loop-place-test.false, c.round_len-place-end.ensures.count, length-map round (flight_of c.args.job.now.input))) c.args.cells.now.keys c.loop-place.cells.keys
    c.loop-place.invariant

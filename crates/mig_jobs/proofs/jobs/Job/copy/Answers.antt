use Rattle.mig_jobs.proofs.JobRounds.{shift_on_disks, copy_is}
use Rattle.mig_jobs.proofs.jobs.Job.copy.Goals as goal

pub spot_cell-requires : goal.spot_cell-requires
spot_cell-requires c = (shift_on_disks c.args.self.now c.round.ensures.valid c.args.round c.args.place c.requires.from c.requires.to c.requires.place c.round.result.now c.round.ensures.shifts c.input-input.result.now c.input-input.ensures.value).0

pub spot_cell-requires-2 : goal.spot_cell-requires-2
spot_cell-requires-2 c = (shift_on_disks c.args.self.now c.round.ensures.valid c.args.round c.args.place c.requires.from c.requires.to c.requires.place c.round.result.now c.round.ensures.shifts c.input-input.result.now c.input-input.ensures.value).1

pub returns : goal.returns
returns c = copy_is c.args.self.now c.round.ensures.valid c.args.round c.args.place c.requires.from c.requires.to c.requires.place c.round.result.now c.round.ensures.shifts c.input-input.result.now c.input-input.ensures.value
    c.spot_cell.result c.spot_cell-2.result c.spot_cell.ensures c.spot_cell-2.ensures

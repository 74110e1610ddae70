use Rattle.mig_jobs.proofs.Common.{InputLists, layout_at, length, subst, sym, ◌<◌}
use Rattle.mig_jobs.proofs.jobs.Job.cell_of.Goals as goal

pub spot_cell-requires : goal.spot_cell-requires
spot_cell-requires c = subst (λ (i : InputLists). c.spot_after.result.disk.0 < length i.disks) (sym c.input.ensures.value)
    ((layout_at c.args.self.now.input c.keeps_rules.ensures.valid c.args.self.now.plan c.keeps_rules.ensures.runs c.args.marked c.requires.marked).on_disks c.args.item.0 c.spot_after.result c.spot_after.ensures)

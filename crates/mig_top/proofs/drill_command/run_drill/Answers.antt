use Rattle.mig_top.proofs.Common.{DrillFault, IsDrillFault, Rose, arith, begins, drill_text, inl, inr, refl, subst, ◌≡◌}
use Rattle.mig_words.specs.declared.endings.CommandError.TheVariants as ending
use Rattle.mig_top.proofs.EndsOf.{shown, stopped_from}
use Rattle.mig_top.proofs.drill_command.run_drill.Goals as goal

pub returns-in-Ok : goal.returns-in-Ok
returns-in-Ok g c =
    let text = drill_text c.in_ok-job.job.plan in
    let put = c.in-Ok.ensures.text in
    shown text (record { cause = c.in_ok-job.ensures.takes.passes; leaves = c.load_small_job.ensures.same })
    (record { status = inl refl; begun = begins text (g.K.Sink.state c.args.out.now) (g.K.Sink.state c.drill.new.out) put; done = λ zero. put; later = c.drill.ensures.later })

pub returns-in-Err-Sink : goal.returns-in-Err-Sink
returns-in-Err-Sink g c =
    let old = g.K.Sink.state c.args.out.now in
    let new = g.K.Sink.state c.drill.new.out in
    let failed : Rose old.faults new.faults = subst (λ (f : DrillFault). IsDrillFault old new f) c.in-Err-Sink.field-0-is c.in-Err-Sink.ensures.fault in
    shown (drill_text c.in_ok-job.job.plan) (record { cause = c.in_ok-job.ensures.takes.passes; leaves = c.load_small_job.ensures.same })
    (record { status = inr (refl, failed); begun = c.in-Err-Sink.ensures.in_part; done = λ zero. absurd (omega (arith, zero)); later = c.drill.ensures.later })

pub returns : goal.returns
returns g c =
    let old = g.K.Sink.state c.args.out.now in
    let mid = g.K.Sink.state c.drill.new.out in
    let same : mid ≡ old = subst (λ (f : DrillFault). IsDrillFault old mid f) c.in-Err-Memory.field-0-is c.in-Err-Memory.ensures.fault in
    stopped_from old mid same ending.Memory (record { cause = tt; leaves = c.load_small_job.ensures.same })

use Rattle.mig_live.proofs.Common.{IsSession, IsTask, Session, arith, inl, length, subst, ◌-◌}
use Rattle.mig_live.proofs.SessionLaws.{marks_by_left, marks_counted}
use Rattle.mig_live.proofs.live.Live.marks_follow_steps.Goals as goal

pub returns : goal.returns
returns c =
    let live = c.args.self.now in
    let keeps = subst IsSession c.self.view_is (record {
      most = c.self.invariant.0;
      low = omega (arith, c.self.invariant.1);
      high = omega (arith, c.self.invariant.1, c.self.invariant.2);
    }) in record {
      rules = subst (λ (l : Session). IsTask l.task) c.self.view_is c.keeps_rules.ensures;
      session = keeps;
      round = marks_by_left live keeps;
      count = λ found steps most left. marks_counted live keeps (length live.task.plan - found) found steps (omega (arith, most)) (inl left);
    }

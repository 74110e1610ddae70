use Rattle.mig_live.proofs.ActionLaws.{left_mark, makes}
use Rattle.mig_live.proofs.Common.{SetMark, arith, flights_same, length, on_ok_is, steps_in, suc, ◌+◌, ◌∙◌, ◌≡◌, ◌≤◌}
use Rattle.mig_live.proofs.SeenSteps.{seen_marked}
use Rattle.mig_live.proofs.StepLaws.{leaves_mark, after_mark, on_ok_both}
use Rattle.mig_live.proofs.steps.mark_next.Goals as goal

pub returns : goal.returns
returns g c =
    let job = c.args.job.now in
    let is = c.keeps_rules.ensures in
    let k = c.args.k in
    let more = c.requires.more in
    let most : k ≤ length job.plan = omega (arith, c.requires.more) in
    let next : k + 1 ≡ suc k = omega arith in
    let old = g.S.Store.state c.args.store.now in
    let new = g.S.Store.state c.mark.new.store in
    let did = c.mark.ensures in record {
      any_moment = λ asked contents at. leaves_mark job is k most asked contents more old new (k + 1) next did.change at;
      done = on_ok_both c.mark.result (λ marked settled asked contents at.
          after_mark job is k most asked contents more old new (k + 1) next did.change marked settled at) did.marked did.settled;
      first = makes c.mark.result _ _ (SetMark (k + 1)) old new (left_mark job k more (steps_in job.plan k) (k + 1) (omega arith) next) 0 did.change
          (on_ok_both c.mark.result (λ marked settled. record { change = did.change; leaves = (marked, settled) }) did.marked did.settled);
      landed = on_ok_is c.mark.result (flights_same old new did.change.events ∙ c.requires.none);
      seen = on_ok_is c.mark.result (λ refuses sight. seen_marked job is k most more (g.S.Store.seen c.args.store.now) old.reads
          (λ slot item name was. g.met.S.Store.holds_seen c.args.store.now slot item refuses name was) sight (k + 1) next
          (g.S.Store.seen c.mark.new.store) did.seen new.reads did.change.told);
      cause = did.cause;
    }

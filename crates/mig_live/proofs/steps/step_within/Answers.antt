use Rattle.mig_live.proofs.ActionLaws.{makes, makes_same, past_erasures, syncs_next}
use Rattle.mig_live.proofs.Common.{Action, List, Sync, ap, arith, ends_are_quiet, on_ok_is, on_ok_weaker, round_size, subst, suc, sym}
use Rattle.mig_live.proofs.Common.{◌+◌, ◌-◌, ◌<◌, ◌∙◌, ◌∷◌, ◌≡◌, ◌≤◌}
use Rattle.mig_live.proofs.SeenSteps.{seen_early, seen_synced}
use Rattle.mig_live.proofs.StepLaws.{before_erase, after_erase, before_copy, after_copy, sync_leaves, after_sync}
use Rattle.mig_live.specs.Sessions.{IsSeenAtStep}
use Rattle.mig_mover.proofs.SeenSlots.{cause_ground, ground_to}
use Rattle.mig_live.proofs.steps.step_within.Goals as goal

pub returns-then-p-erasures : goal.returns-then-p-erasures
returns-then-p-erasures g c =
    let job = c.args.job.now in
    let is = c.keeps_rules.ensures in
    let p = c.args.p in
    let lt : p < round_size job.plan c.args.k = omega (arith, c.if-p-erasures.true, c.shifts_of_round-erasures.ensures.count) in
    let old = g.S.Store.state c.args.store.now in
    let new = g.S.Store.state c.erase_next.new.store in
    let did = c.erase_next.ensures in record {
      any_moment = λ asked contents at. did.any_moment asked contents (before_erase job is c.args.k c.requires.most asked contents p lt old at);
      done = on_ok_weaker c.erase_next.result (λ done asked contents at. after_erase job is c.args.k c.requires.most asked contents p lt new
          (done asked contents (before_erase job is c.args.k c.requires.most asked contents p lt old at))) did.done;
      first = did.first;
      landed = did.landed;
      seen = on_ok_weaker c.erase_next.result (λ go refuses sight. seen_early job c.args.k (p + 1) (omega (arith, lt))
          (g.S.Store.seen c.erase_next.new.store) new.reads (go sight.items)) did.seen;
      cause = ground_to c.erase_next.result (λ not sight. not sight.items) did.cause;
    }

pub returns-then-p-erasures-2 : goal.returns-then-p-erasures-2
returns-then-p-erasures-2 g c =
    let job = c.args.job.now in
    let is = c.keeps_rules.ensures in
    let k = c.args.k in
    let p = c.args.p in
    let first = round_size job.plan k in
    let erasures = c.shifts_of_round-erasures.ensures.count in
    let low : first ≤ p = omega (arith, c.if-p-erasures.false, erasures) in
    let place = p - c.shifts_of_round-erasures.result in
    let here : p ≡ first + place = omega (arith, low, erasures) in
    let same : p - first ≡ place = omega (arith, here) in
    let next : round_size job.plan (k + 1) ≡ round_size job.plan (suc k) = ap (round_size job.plan) (let e : k + 1 ≡ suc k = omega arith in e) in
    let lt : place < round_size job.plan (suc k) = omega (arith, c.if-p-erasures-2.true, c.shifts_of_round-copies.ensures.count, next) in
    let old = g.S.Store.state c.args.store.now in
    let new = g.S.Store.state c.copy_next.new.store in
    let did = c.copy_next.ensures in record {
      any_moment = λ asked contents at. did.any_moment asked contents p (before_copy job is k c.requires.most asked contents p place same old at);
      done = on_ok_weaker c.copy_next.result (λ done asked contents at. after_copy job is k c.requires.most asked contents p place same low lt new
          (done asked contents p (before_copy job is k c.requires.most asked contents p place same old at))) did.done;
      first = makes_same c.copy_next.result _ _ _ _ old new (past_erasures job k p place here)
          (past_erasures job k (p + 1) (place + 1) (omega (arith, here))) did.first;
      landed = did.landed;
      seen = on_ok_weaker c.copy_next.result (λ go refuses sight. subst (IsSeenAtStep job (g.S.Store.seen c.copy_next.new.store) new.reads k)
          (let e : first + place + 1 ≡ p + 1 = omega (arith, here) in e)
          (go refuses (subst (IsSeenAtStep job (g.S.Store.seen c.args.store.now) old.reads k) here sight))) did.seen;
      cause = ground_to c.copy_next.result (λ not sight. not sight.items) did.cause;
    }

pub returns : goal.returns
returns g c =
    let job = c.args.job.now in
    let is = c.keeps_rules.ensures in
    let k = c.args.k in
    let p = c.args.p in
    let place = p - round_size job.plan k in
    let erasures = c.shifts_of_round-erasures.ensures.count in
    let next : round_size job.plan (k + 1) ≡ round_size job.plan (suc k) = ap (round_size job.plan) (let e : k + 1 ≡ suc k = omega arith in e) in
    let low : round_size job.plan k ≤ p = omega (arith, c.if-p-erasures.false, erasures) in
    let high : round_size job.plan (suc k) ≤ place = omega (arith, c.if-p-erasures-2.false, erasures, c.shifts_of_round-copies.ensures.count, next) in
    let old = g.S.Store.state c.args.store.now in
    let new = g.S.Store.state c.sync.new.self in
    let did = c.sync.ensures in
    let change = ends_are_quiet old new c.requires.none did.ends.0 did.ends.1 in record {
      any_moment = λ asked contents at. sync_leaves job is k c.requires.most asked contents p low high old new change
          (g.met.S.Store.is_state c.args.store.now);
      done = on_ok_weaker c.sync.result (λ settled asked contents at.
          after_sync job is k c.requires.most asked contents p low high old new change settled at) did.settled;
      first = makes c.sync.result _ _ Sync old new
          (past_erasures job k p place (omega (arith, low)) ∙ syncs_next job k place (omega (arith, low, high, c.requires.place))
          ∙ ap (λ (l : List Action). Sync ∷ l) (sym (past_erasures job k (p + 1) (place + 1) (omega (arith, low))))) 0 change
          (on_ok_weaker c.sync.result (λ settled. record { change = change; leaves = settled }) did.settled);
      landed = did.landed;
      seen = on_ok_is c.sync.result (λ refuses sight. seen_synced job is k c.requires.most p high (g.S.Store.seen c.args.store.now)
          (g.S.Store.seen c.sync.new.self) did.seen old.reads new.reads change.told sight);
      cause = cause_ground c.sync.result did.cause;
    }

use Rattle.mig_live.proofs.ActionLaws.{made_many, made_none, made_up_to}
use Rattle.mig_live.proofs.Common.{Action, All, AreCutOff, AreMade, ArePut, IfErr, IsOrder, List, Order, Task, [], actions_left, all_steps, ap, arith}
use Rattle.mig_live.proofs.Common.{drop, drop-drop, get_or, inl, refl, slice_get-get_or, steps_of, subst, sym, take, take_all, ℕ, ◌∙◌}
use Rattle.mig_live.proofs.SeenSessions.{others_kept, seen_one}
use Rattle.mig_live.specs.Replies.{AreMadeUpTo, IsServeFault}
use Rattle.mig_live.specs.Sessions.{AreOthersKept, InSightFor}
use Rattle.mig_live.proofs.ReplyLaws.{extends_nothing, fault_since, handed, no_order, served_more, served_stops, steps_one_more}
use Rattle.mig_live.proofs.SessionLaws.{fault_leaves, more_steps}
use Rattle.mig_mover.specs.Erasures.{AreAsked}
use Rattle.mig_live.proofs.serving.serve.Goals as goal

pub returns-in_err-after-clause-any_moment : goal.returns-in_err-after-clause-any_moment
returns-in_err-after-clause-any_moment g c = more_steps c.args.live c.loop-order.after c.loop-order.invariant.task _ _ _
    c.loop-order.invariant.any_moment c.loop-order.invariant.in_step c.carry_out.ensures.any_moment

pub returns-in_err-after-clause-cut_off : goal.returns-in_err-after-clause-cut_off
returns-in_err-after-clause-cut_off g c =
    let old = g.S.Store.state c.args.store.now in
    let mid = g.S.Store.state c.loop-order.store in
    let now = g.S.Store.state c.carry_out.new.store in
    let first = g.K.Sink.state c.args.out.now in
    let between = g.K.Sink.state c.loop-order.out in
    let last = g.K.Sink.state c.carry_out.new.out in
    let i = c.loop-order.order-index in
    let this = get_or c.args.orders.now i no_order in
    let fault = c.in_err-after.field-0.0 in
    let before = take (all_steps (take i c.args.orders.now)) (actions_left c.args.live) in
    let made = subst (λ (l : List Action). AreMadeUpTo [] (take (steps_of this) l) mid now fault) c.loop-order.invariant.rest c.in_err-after.ensures.part in
    handed (λ r. IfErr r (AreCutOff c.args.live old now c.args.orders.now first last)) c.from_residual.result fault c.from_residual.ensures.1 (record {
      whole = i;
      order = this;
      at = slice_get-get_or c.args.orders.now i no_order c.loop-order-test.true;
      put = served_stops c.args.live c.loop-order.after c.loop-order.invariant.task old mid c.loop-order.invariant.in_step c.args.orders.now i no_order
          c.loop-order-test.true first between last c.loop-order.invariant.served fault c.in_err-after.ensures.put;
      made = made_up_to before (take (steps_of this) (drop (all_steps (take i c.args.orders.now)) (actions_left c.args.live))) old mid now fault c.loop-order.invariant.made
          made;
      leaves = fault_leaves c.args.live c.loop-order.after c.loop-order.invariant.task (all_steps (take i c.args.orders.now)) c.loop-order.invariant.left c.loop-order.invariant.rest
          c.marks_follow_steps.ensures.session old mid c.loop-order.invariant.in_step (take (steps_of this) (drop (all_steps (take i c.args.orders.now)) (actions_left c.args.live))) now fault made;
    })

pub loop-order-init : goal.loop-order-init
loop-order-init g c = record {
  task = refl;
  left = omega arith;
  rest = refl;
  made = made_none (g.S.Store.state c.args.store.now);
  served = ([], λ asked contents at. refl, extends_nothing (g.K.Sink.state c.args.out.now));
  in_step = λ asked contents at. at;
  any_moment = λ asked contents at. record { later = omega arith; since = λ t image le left. inl left };
  landed = c.requires.none;
  later = omega arith;
  sink_later = omega arith;
  seen = λ refuses sight. sight;
}

pub loop-order-preserved : goal.loop-order-preserved
loop-order-preserved g c = record {
  task = c.in_ok-after.ensures.task ∙ c.loop-order.invariant.task;
  left = omega (arith, c.in_ok-after.ensures.left, c.loop-order.invariant.left, steps_one_more c.args.orders.now c.loop-order.order-index no_order c.loop-order-test.true);
  rest = c.in_ok-after.ensures.rest ∙ ap (λ (l : List Action). drop (steps_of (get_or c.args.orders.now c.loop-order.order-index no_order)) l) c.loop-order.invariant.rest
      ∙ drop-drop (steps_of (get_or c.args.orders.now c.loop-order.order-index no_order)) (all_steps (take c.loop-order.order-index c.args.orders.now)) (actions_left c.args.live)
      ∙ ap (λ (n : ℕ). drop n (actions_left c.args.live)) (sym (steps_one_more c.args.orders.now c.loop-order.order-index no_order c.loop-order-test.true));
  made = subst (λ (n : ℕ). AreMade (take n (actions_left c.args.live)) (g.S.Store.state c.args.store.now) (g.S.Store.state c.carry_out.new.store))
      (sym (steps_one_more c.args.orders.now c.loop-order.order-index no_order c.loop-order-test.true))
      (made_many (all_steps (take c.loop-order.order-index c.args.orders.now)) (steps_of (get_or c.args.orders.now c.loop-order.order-index no_order)) (actions_left c.args.live)
      (g.S.Store.state c.args.store.now) (g.S.Store.state c.loop-order.store) (g.S.Store.state c.carry_out.new.store) c.loop-order.invariant.made
      (subst (λ (l : List Action). AreMade (take (steps_of (get_or c.args.orders.now c.loop-order.order-index no_order)) l) (g.S.Store.state c.loop-order.store) (g.S.Store.state c.carry_out.new.store))
      c.loop-order.invariant.rest c.in_ok-after.ensures.made));
  served = served_more c.args.live c.loop-order.after c.loop-order.invariant.task (g.S.Store.state c.args.store.now) (g.S.Store.state c.loop-order.store) c.loop-order.invariant.in_step c.args.orders.now
      c.loop-order.order-index no_order c.loop-order-test.true (g.K.Sink.state c.args.out.now) (g.K.Sink.state c.loop-order.out) (g.K.Sink.state c.carry_out.new.out) c.loop-order.invariant.served c.in_ok-after.ensures.served;
  in_step = λ asked contents at. c.in_ok-after.ensures.in_step asked contents (c.loop-order.invariant.in_step asked contents at);
  any_moment = more_steps c.args.live c.loop-order.after c.loop-order.invariant.task _ _ _ c.loop-order.invariant.any_moment
      c.loop-order.invariant.in_step c.carry_out.ensures.any_moment;
  landed = c.in_ok-after.ensures.landed;
  later = omega (arith, c.loop-order.invariant.later, c.carry_out.ensures.later);
  sink_later = omega (arith, c.loop-order.invariant.sink_later, c.carry_out.ensures.sink_later);
  seen = λ refuses sight.
      (let now = c.loop-order.invariant.seen refuses sight in
      let orders = c.args.orders.now in
      let count = steps_of (get_or orders c.loop-order.order-index no_order) in
      let mid = g.S.Store.state c.loop-order.store in
      let new = g.S.Store.state c.carry_out.new.store in
      let laws = c.marks_follow_steps.ensures in
      record {
        steps = c.in_ok-after.ensures.seen refuses now.steps;
        others = subst (λ (t : Task). AreOthersKept t new.reads orders) (sym c.in_ok-after.ensures.task)
            (others_kept c.loop-order.after laws.rules laws.session.most orders
            (subst (λ (t : Task). All (IsOrder t.input) orders) (sym c.loop-order.invariant.task) c.requires.orders) count mid new
            c.in_ok-after.ensures.made now.others);
      });
}

pub returns-clause-served : goal.returns-clause-served
returns-clause-served g c =
    subst (λ (orders : List Order). ArePut c.args.live (g.S.Store.state c.args.store.now) orders (g.K.Sink.state c.args.out.now) (g.K.Sink.state c.loop-order.out))
    (take_all c.loop-order.order-index c.args.orders.now (omega (arith, c.loop-order-test.false))) c.loop-order.invariant.served

pub returns-clause-made : goal.returns-clause-made
returns-clause-made g c =
    subst (λ (orders : List Order). AreMade (take (all_steps orders) (actions_left c.args.live)) (g.S.Store.state c.args.store.now) (g.S.Store.state c.loop-order.store))
    (take_all c.loop-order.order-index c.args.orders.now (omega (arith, c.loop-order-test.false))) c.loop-order.invariant.made

pub carry_out-requires-clause-asked : goal.carry_out-requires-clause-asked
carry_out-requires-clause-asked g c = subst (AreAsked g.S.Store.asked) (sym c.loop-order.invariant.task) c.requires.asked

pub returns-in_err-after-clause-fault : goal.returns-in_err-after-clause-fault
returns-in_err-after-clause-fault g c =
    let old = g.S.Store.state c.args.store.now in
    let mid = g.S.Store.state c.loop-order.store in
    let now = g.S.Store.state c.carry_out.new.store in
    let first = g.K.Sink.state c.args.out.now in
    let last = g.K.Sink.state c.carry_out.new.out in
    let orders = c.args.orders.now in
    let i = c.loop-order.order-index in
    let so_far = c.loop-order.invariant in
    let fault = c.in_err-after.field-0.0 in
    let seen = g.S.Store.seen c.args.store.now in
    handed (λ r. IfErr r (IsServeFault (g.S.Store.refuses × ¬ InSightFor c.args.live orders seen old.reads) old now first last))
    c.from_residual.result fault c.from_residual.ensures.1
    (fault_since old mid now first (g.K.Sink.state c.loop-order.out) last so_far.later so_far.sink_later (λ why. (
      why.0,
      λ sight. why.1
          (seen_one c.loop-order.after orders i no_order c.loop-order-test.true (g.S.Store.seen c.loop-order.store) mid.reads (so_far.seen why.0 sight)),
    ))
    fault c.in_err-after.ensures.fault)

use Rattle.mig_live.proofs.ActionLaws.{made_quiet, none_up_to}
use Rattle.mig_live.proofs.Common.{AreMade, ArePut, ArePutUpTo, IsSound, NoCell, Order, [], actions_left, arith, drop, look_quiet, quiet_leaves, refl}
use Rattle.mig_live.proofs.Common.{steps_of, subst, sym, take, ◌∷◌, ◌≡◌}
use Rattle.mig_live.specs.Replies.{IsServeFault}
use Rattle.mig_live.specs.Sessions.{InSightFor}
use Rattle.mig_mover.proofs.SeenSlots.{rose_after}
use Rattle.mig_live.proofs.serving.carry_out.Goals as goal

pub returns-in-Ok-clause-served : goal.returns-in-Ok-clause-served
returns-in-Ok-clause-served g c =
    subst (λ (o : Order). ArePut c.args.live (g.S.Store.state c.args.store.now) (o ∷ []) (g.K.Sink.state c.args.out.now) (g.K.Sink.state c.reply.new.out)) (sym c.in-Read.is) c.in-Ok.ensures.served

pub returns-in-Ok-clause-any_moment : goal.returns-in-Ok-clause-any_moment
returns-in-Ok-clause-any_moment g c = λ asked contents at. quiet_leaves (IsSound asked c.args.live.task.input c.args.live.task.plan c.args.live.task.digest contents) NoCell [] (g.S.Store.state c.args.store.now) (g.S.Store.state c.reply.new.store)
    (g.met.S.Store.is_state c.args.store.now) (look_quiet (g.S.Store.state c.args.store.now) (g.S.Store.state c.reply.new.store) c.requires.none c.reply.ensures.change)

pub returns-in-Ok-clause-rest : goal.returns-in-Ok-clause-rest
returns-in-Ok-clause-rest g c = subst (λ (o : Order). actions_left c.args.live ≡ drop (steps_of o) (actions_left c.args.live)) (sym c.in-Read.is) refl

pub returns-in-Ok-clause-made : goal.returns-in-Ok-clause-made
returns-in-Ok-clause-made g c =
    let old = g.S.Store.state c.args.store.now in
    let new = g.S.Store.state c.reply.new.store in
    subst (λ (o : Order). AreMade (take (steps_of o) (actions_left c.args.live)) old new) (sym c.in-Read.is)
    (made_quiet old new (look_quiet old new c.requires.none c.reply.ensures.change))

pub returns-in-Err-clause-put : goal.returns-in-Err-clause-put
returns-in-Err-clause-put g c =
    subst (λ (o : Order). ArePutUpTo c.args.live (g.S.Store.state c.args.store.now) [] o (g.K.Sink.state c.args.out.now) (g.K.Sink.state c.reply.new.out) c.in-Err.fault) (sym c.in-Read.is) c.in-Err.ensures.put

pub returns-in-Err-clause-part : goal.returns-in-Err-clause-part
returns-in-Err-clause-part g c = none_up_to _ _ _ c.in-Err.fault (made_quiet _ _ (look_quiet _ _ c.requires.none c.reply.ensures.change))

pub returns-in-Err-clause-any_moment : goal.returns-in-Err-clause-any_moment
returns-in-Err-clause-any_moment g c = λ asked contents at. quiet_leaves (IsSound asked c.args.live.task.input c.args.live.task.plan c.args.live.task.digest contents) NoCell [] (g.S.Store.state c.args.store.now) (g.S.Store.state c.reply.new.store)
    (g.met.S.Store.is_state c.args.store.now) (look_quiet (g.S.Store.state c.args.store.now) (g.S.Store.state c.reply.new.store) c.requires.none c.reply.ensures.change)

pub returns-in-Ok-clause-seen : goal.returns-in-Ok-clause-seen
returns-in-Ok-clause-seen g c = λ refuses. c.in-Ok.ensures.seen

pub returns-in-Err-clause-fault : goal.returns-in-Err-clause-fault
returns-in-Err-clause-fault g c =
    let old = g.S.Store.state c.args.store.now in
    let new = g.S.Store.state c.reply.new.store in
    let seen = g.S.Store.seen c.args.store.now in
    subst (λ (o : Order). IsServeFault (g.S.Store.refuses × ¬ InSightFor c.args.live (o ∷ []) seen old.reads) old new (g.K.Sink.state c.args.out.now)
    (g.K.Sink.state c.reply.new.out) c.in-Err.fault) (sym c.in-Read.is) c.in-Err.ensures.fault

pub returns-in-Err-advance-clause-fault : goal.returns-in-Err-advance-clause-fault
returns-in-Err-advance-clause-fault g c = rose_after (omega arith) (λ not sight. not sight.steps) c.in-Err-advance.ensures.cause.failed

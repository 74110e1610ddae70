use Rattle.mig_live.proofs.Common.{ArePutUpTo, IfErr, InputLists, Read, Task, [], ap, arith, item_name, ◌∙◌, ◌∷◌, ◌≡◌}
use Rattle.mig_live.proofs.ReplyLaws.{handed, part_put, reply_is}
use Rattle.mig_live.proofs.SeenSessions.{not_lacking}
use Rattle.mig_live.specs.Replies.{IsServeFault}
use Rattle.mig_live.specs.Sessions.{InSightFor}
use Rattle.mig_mover.proofs.SeenSlots.{name_is, rose_with}
use Rattle.mig_live.specs.declared.serving.ServeFault.TheVariants as serve_fault
use Rattle.mig_live.proofs.serving.reply.Given as given
use Rattle.mig_live.proofs.serving.reply.Goals as goal
use Rattle.mig_live.proofs.serving.reply.Goals.{After-put_reply}

-- the name that is found is the item's
named : (g : given.Over) (c : goal.After-put_reply g) → c.index-items-item.result ≡ item_name c.args.live.now.task.input c.args.item.0
named g c =
    let input = c.input.ensures.value ∙ ap (λ (t : Task). t.input) c.job.ensures in
    name_is c.args.live.now.task.input c.args.item.0 c.requires.item c.items.result.now (c.items.ensures.value ∙ ap (λ (l : InputLists). l.items) input)
    c.index-items-item.result c.index-items-item.is

pub returns-in_err-put_reply-clause-put : goal.returns-in_err-put_reply-clause-put
returns-in_err-put_reply-clause-put g c =
    let live = c.args.live.now in
    let store = g.S.Store.state c.args.store.now in
    let first = g.K.Sink.state c.args.out.now in
    let last = g.K.Sink.state c.put_reply.new.out in
    let its = named g (goal.at.returns-in_err-put_reply-clause-put g c).After-put_reply in
    handed (λ r. IfErr r (ArePutUpTo live store [] (Read c.args.item) first last)) c.from_residual-in_err-put_reply.result serve_fault.Sink c.from_residual-in_err-put_reply.ensures.1
    (part_put live store c.args.item _ first last
    (λ asked contents at. reply_is live.task.input contents c.args.item c.index-items-item.result c.digest_of-digest.result _ its c.digest_of-digest.ensures (c.in_ok-read.ensures.bytes asked contents at))
    c.in_err-put_reply.ensures.in_part)

pub returns-clause-served : goal.returns-clause-served
returns-clause-served g c =
    let live = c.args.live.now in
    let its = named g (goal.at.returns-clause-served g c).After-put_reply in (
      _,
      λ asked contents at. reply_is live.task.input contents c.args.item c.index-items-item.result c.digest_of-digest.result _ its c.digest_of-digest.ensures (c.in_ok-read.ensures.bytes asked contents at),
      c.in_ok-put_reply.ensures.extended,
    )

pub returns-in_err-read-clause-fault : goal.returns-in_err-read-clause-fault
returns-in_err-read-clause-fault g c =
    let live = c.args.live.now in
    let old = g.S.Store.state c.args.store.now in
    let new = g.S.Store.state c.read.new.store in
    let sink = g.K.Sink.state c.args.out.now in
    let seen = g.S.Store.seen c.args.store.now in
    let laws = c.marks_follow_steps.ensures in
    handed (λ r. IfErr r (IsServeFault (g.S.Store.refuses × ¬ InSightFor live (Read c.args.item ∷ []) seen old.reads) old new sink sink))
    c.from_residual.result serve_fault.Store c.from_residual.ensures.1
    (rose_with (omega arith) (λ refuses lacks sight. not_lacking live laws.rules laws.session.most c.args.item c.requires.item seen old.reads
    (λ slot item name was. g.met.S.Store.holds_seen c.args.store.now slot item refuses name was) lacks sight) c.in_err-read.ensures.cause.failed)

pub returns-clause-seen : goal.returns-clause-seen
returns-clause-seen g c = c.in_ok-read.ensures.seen c.requires.none

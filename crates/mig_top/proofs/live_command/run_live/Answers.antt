use Rattle.mig_top.proofs.Common.{Shows, [], all_steps, ap, four_and, left_text, names_in, scripted_read, subst, true, ℕ, ◌-◌, ◌∙◌, ◌∷◌}
use Rattle.mig_live.specs.Replies.{AreCutOff, IsServeFault}
use Rattle.mig_live.specs.Sessions.{InSightFor}
use Rattle.mig_live.specs.declared.serving.ServeFault.{ServeFault}
use Rattle.mig_top.proofs.EndsOf.{err_is, refused, stopped}
use Rattle.mig_top.proofs.LiveCommand.{live_done, live_failed, live_refused, live_rest, live_unput, went_on}
use Rattle.mig_top.proofs.StoreEnds.{unread, untouched}
use Rattle.mig_top.proofs.live_command.run_live.Goals as goal

pub returns-in_err-read : goal.returns-in_err-read
returns-in_err-read g c =
    rw (err_is c.from_residual.ensures.1) (stopped _ _ (unread (live_rest (g.S.Store.state c.args.store.now))
    (λ o h. h) tt (λ o u. c.load_scripted.ensures.same) untouched c.in_err-read.ensures.takes))

pub returns-in-Err : goal.returns-in-Err
returns-in-Err g c =
    let read = scripted_read c.in_ok-read.read in
    let names = four_and (names_in c.args.files) (c.args.script.now ∷ []) in
    let bad = c.in-Err.ensures in
    refused (g.K.Sink.state c.args.out.now) c.fault_ending.result c.input.result.now read.task.input c.in-Err.fault (c.fault_ending.ensures names) c.input.ensures.value
    (live_refused _ (names_in c.args.files) c.args.script.now c.load_scripted.ensures.same read c.in_ok-read.ensures.takes.passes c.keeps_rules.ensures.valid c.keeps_rules.ensures.runs
    c.enter.ensures.keeps c.enter.ensures.armed c.enter.ensures.part c.in-Err.fault bad.fault bad.kind)

pub returns-in-Ok-serve : goal.returns-in-Ok-serve
returns-in-Ok-serve g c =
    let read = scripted_read c.in_ok-read.read in
    let live = c.in-Ok.live in
    let after = c.in-Ok-serve.after in
    let en = c.in-Ok.ensures in
    let ok = c.in-Ok-serve.ensures in
    let left = rw c.orders.ensures at ok.left in
    live_done _ (names_in c.args.files) c.args.script.now c.load_scripted.ensures.same read c.in_ok-read.ensures.takes.passes c.keeps_rules.ensures.valid c.keeps_rules.ensures.runs
    (g.S.Store.state c.enter.new.store) live en.task en.left c.enter.ensures.keeps c.enter.ensures.armed en.enters.armed en.ended en.enters.landed (record { most = en.enters.most; found = en.enters.found })
    en.in_step c.serve.ensures.any_moment c.serve.ensures.later (g.K.Sink.state c.serve.new.out) c.serve.ensures.sink_later
    (record { most = en.enters.most; found = en.enters.found; ours = en.ours; ready = en.enters.ready })
    (λ contents at. went_on read live after en.task ok.task en.left left en.enters.most c.marks_follow_steps.ensures.session c.keeps_rules.ensures.valid c.keeps_rules.ensures.runs
    contents (g.S.Store.state c.serve.new.store) (ok.in_step true contents at))
    (rw c.orders.ensures at ok.made) (rw c.orders.ensures at ok.served)
    (subst (λ (n : ℕ). Shows (left_text n) (g.K.Sink.state c.serve.new.out) (g.K.Sink.state c.show_parts.new.out) c.show_parts.result)
    (c.left.ensures ∙ left ∙ ap (λ (n : ℕ). n - all_steps read.orders) en.left) c.show_parts.ensures)

pub returns-in-Err-Sink : goal.returns-in-Err-Sink
returns-in-Err-Sink g c =
    let read = scripted_read c.in_ok-read.read in
    let en = c.in-Ok.ensures in
    let old = g.S.Store.state c.enter.new.store in
    let new = g.S.Store.state c.serve.new.store in
    let first = g.K.Sink.state c.args.out.now in
    let last = g.K.Sink.state c.serve.new.out in
    let bad = c.in-Err-Sink.ensures in
    let Refused = g.S.Store.refuses × ¬ InSightFor c.in-Ok.live read.orders (g.S.Store.seen c.enter.new.store) old.reads in
    live_unput _ (names_in c.args.files) c.args.script.now c.load_scripted.ensures.same read c.in_ok-read.ensures.takes.passes c.keeps_rules.ensures.valid c.keeps_rules.ensures.runs
    old c.in-Ok.live en.task en.left c.enter.ensures.keeps c.enter.ensures.armed en.enters.armed en.ended en.enters.landed (record { most = en.enters.most; found = en.enters.found })
    en.in_step c.serve.ensures.any_moment c.serve.ensures.later
    (subst (λ (f : ServeFault). AreCutOff c.in-Ok.live old new read.orders first last f) c.in-Err-Sink.field-0-is (rw c.orders.ensures at bad.cut_off))
    (subst (λ (f : ServeFault). IsServeFault Refused old new first last f) c.in-Err-Sink.field-0-is (rw c.orders.ensures at bad.fault))

pub returns : goal.returns
returns g c =
    let read = scripted_read c.in_ok-read.read in
    let en = c.in-Ok.ensures in
    let old = g.S.Store.state c.enter.new.store in
    let new = g.S.Store.state c.serve.new.store in
    let first = g.K.Sink.state c.args.out.now in
    let last = g.K.Sink.state c.serve.new.out in
    let bad = c.in-Err-Store.ensures in
    let seen = g.S.Store.seen c.enter.new.store in
    let Refused = g.S.Store.refuses × ¬ InSightFor c.in-Ok.live read.orders seen old.reads in
    let failed = subst (λ (f : ServeFault). IsServeFault Refused old new first last f) c.in-Err-Store.field-0-is (rw c.orders.ensures at bad.fault) in
    live_failed _ (names_in c.args.files) c.args.script.now c.load_scripted.ensures.same read c.in_ok-read.ensures.takes.passes c.keeps_rules.ensures.valid c.keeps_rules.ensures.runs
    old c.in-Ok.live en.task en.left c.enter.ensures.keeps c.enter.ensures.armed en.enters.armed en.ended en.enters.landed (record { most = en.enters.most; found = en.enters.found })
    en.in_step c.serve.ensures.any_moment c.serve.ensures.later c.serve.ensures.sink_later
    (subst (λ (f : ServeFault). AreCutOff c.in-Ok.live old new read.orders first last f) c.in-Err-Store.field-0-is (rw c.orders.ensures at bad.cut_off))
    c.keeps_rules.ensures c.in_ok-read.ensures.fits seen en.seen failed

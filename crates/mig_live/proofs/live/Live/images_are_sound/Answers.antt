use Rattle.mig_live.proofs.Middle.{sound_images}
use Rattle.mig_live.proofs.live.Live.images_are_sound.Goals as goal

pub returns : goal.returns
returns g c = λ asked contents at image left.
    let live = c.args.self.now in
    let laws = c.marks_follow_steps.ensures in
    sound_images live.task.input laws.rules.valid live.task.plan laws.rules.runs live.task.digest contents live.marked laws.session.most asked
    (g.S.Store.state c.args.store.now) _ _ at.underway image left

use Rattle.mig_live.proofs.Common.{refl, true}
use Rattle.mig_live.proofs.SessionLaws.{last_reached, last_settled}
use Rattle.mig_live.proofs.live.Live.target_is_reached.Goals as goal

pub returns : goal.returns
returns g c =
    let live = c.args.self.now in
    let laws = c.marks_follow_steps.ensures in
    let s = g.S.Store.state c.args.store.now in record {
      reached = λ none contents at. last_reached live laws.rules.valid laws.rules.runs laws.session none true contents s at refl;
      settled = λ none asked contents at. last_settled live laws.rules.valid laws.rules.runs laws.session none asked contents s at;
    }

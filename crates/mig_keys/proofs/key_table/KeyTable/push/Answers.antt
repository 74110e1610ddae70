use Rattle.mig_keys.proofs.Common.{◌∙◌}
use Rattle.mig_keys.proofs.KeyLists.{different_keys, insert_key-new}
use Rattle.mig_keys.proofs.key_table.KeyTable.push.Goals as goal
use Rattle.mig_keys.proofs.key_table.KeyTable.push.Goals.{in-Ok, in-Err}

pub invariant_of-self : goal.invariant_of-self
invariant_of-self g c = different_keys g.met.K.Eq.laws g.met.K.Exact.same c.insert.new.self c.insert.ensures.unique

pub returns-clause-ok : goal.returns-clause-ok
returns-clause-ok g c =
    let new = rw (← c.self.view_is) at c.requires in
    elim c.match-insert.branch [
      | in-Ok w ↦ rw (w.result-is, ← c.self.view_is) (w.in-Ok.ensures.keys ∙ insert_key-new g.met.K.Eq.laws g.met.K.Exact.same c.self.inside.keys.keys c.args.key new)
      | in-Err w ↦ rw w.result-is tt
    ]

use Rattle.mig_keys.proofs.KeyLists.{found_key}
use Rattle.mig_keys.proofs.key_table.KeyTable.find.Goals as goal

pub returns-clause-found : goal.returns-clause-found
returns-clause-found g c = rw (← c.self.view_is) (found_key g.met.K.Eq.laws g.met.K.Exact.same c.self.inside.keys.keys c.args.key.now c.get_index_of.result c.get_index_of.ensures.index c.get_index_of.ensures.found)

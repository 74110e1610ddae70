use Rattle.mig_keys.proofs.Common.{Contains-from_any, list_any-from_Contains}
use Rattle.mig_keys.proofs.key_table.KeyTable.contains.Goals as goal

pub returns : goal.returns
returns g c =
    let keys = c.self.inside.keys.keys in
    rw (← c.self.view_is, c.contains.ensures) (Contains-from_any g.met.K.Exact.same c.args.key.now keys, list_any-from_Contains g.met.K.Eq.laws c.args.key.now keys)

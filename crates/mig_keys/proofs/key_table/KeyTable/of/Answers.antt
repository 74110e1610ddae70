use Rattle.mig_keys.proofs.Common.{Contains, subst}
use Rattle.mig_keys.proofs.KeyLists.{not_before}
use Rattle.mig_keys.proofs.key_table.KeyTable.of.Goals as goal

pub push-requires : goal.push-requires
push-requires g c = λ has.
    not_before c.args.keys.now c.loop-key.key-index c.key-item.result c.requires c.loop-key-test.true c.key-item.is
    (subst (λ xs. Contains xs c.key-item.result) c.loop-key.invariant has)

use Rattle.mig_cert.proofs.Common.{arith}
use Rattle.mig_cert.proofs.CertPlaces.{few_in_set}
use Rattle.mig_cert.proofs.cert_print.push_bound.Goals as goal

pub overflow_cast-ids : goal.overflow_cast-ids
overflow_cast-ids c =
    let few = few_in_set c.args.input.now c.keeps_rules.ensures c.in-OfSet.disks c.ids-ids.ensures.increasing (rw c.in-OfSet.is at c.requires) in
    rw c.ids-ids.ensures.value (omega (arith, few))

use Rattle.mig_gen.proofs.Common.{IsName, arith, common_steps, subst}
use Rattle.mig_gen.proofs.MadeNames.{numbered_is_name}
use Rattle.mig_gen.proofs.lists.numbered.Goals as goal

pub name_of-requires : goal.name_of-requires
name_of-requires c = subst IsName (grind (arith, common_steps)) (numbered_is_name c.args.letter c.args.number c.requires (omega arith))

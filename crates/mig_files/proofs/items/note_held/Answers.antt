use Rattle.mig_files.proofs.Common.{arith, len_of}
use Rattle.mig_files.proofs.items.note_held.Goals as goal

pub refuse_with-requires-clause-cause : goal.refuse_with-requires-clause-cause
refuse_with-requires-clause-cause g c = λ told. (len_of c.args.found.now, omega arith, c.requires.end told)

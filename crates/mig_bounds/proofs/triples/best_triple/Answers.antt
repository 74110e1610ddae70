use Rattle.mig_bounds.proofs.Common.{rules}
use Rattle.mig_bounds.proofs.triples.best_triple.Goals as goal

pub returns : goal.returns
returns c = search rules

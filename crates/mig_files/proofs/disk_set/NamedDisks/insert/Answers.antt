use Rattle.mig_files.proofs.Common.{Contains, List, subst, sym, ℕ}
use Rattle.mig_files.proofs.DiskLists.{inserted}
use Rattle.mig_files.proofs.disk_set.NamedDisks.insert.Goals as goal
use Rattle.mig_files.proofs.disk_set.NamedDisks.insert.Goals.{in-Ok, in-Err}

pub returns-clause-noted : goal.returns-clause-noted
returns-clause-noted c = elim c.match-insert.branch [
  | in-Ok w ↦ rw w.result-is (subst (λ (l : List (List ℕ)). Contains l c.args.name.now) (sym w.in-Ok.ensures.keys) (inserted c.self.inside.names.keys c.args.name.now))
  | in-Err w ↦ rw w.result-is tt
]

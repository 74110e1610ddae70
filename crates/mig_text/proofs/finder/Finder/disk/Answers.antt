use Rattle.mig_text.proofs.Common.{arith}
use Rattle.mig_text.proofs.Tables.{are_names, not_found, found}
use Rattle.mig_text.proofs.finder.Finder.disk.Goals as goal

pub place-requires : goal.place-requires
place-requires c = rw c.self.invariant.disk_names (are_names c.self.inside.input.now c.self.invariant.valid)

pub returns-in_err-k-clause-found : goal.returns-in_err-k-clause-found
returns-in_err-k-clause-found c =
    rw (c.from_residual.ensures, ← c.self.view_is) (not_found c.self.inside.input.now c.self.invariant.valid c.args.word.now (rw c.self.invariant.disk_names at c.in_err-k.ensures))

pub overflow_cast-result : goal.overflow_cast-result
overflow_cast-result c =
    let at = found c.self.inside.input.now c.self.invariant.valid c.args.word.now c.in_ok-k.k (rw c.self.invariant.disk_names at c.in_ok-k.ensures) in
    omega (arith, at.0, c.self.invariant.valid.few_disks)

pub returns-clause-found : goal.returns-clause-found
returns-clause-found c = rw (← c.self.view_is) (found c.self.inside.input.now c.self.invariant.valid c.args.word.now c.in_ok-k.k (rw c.self.invariant.disk_names at c.in_ok-k.ensures))

use Rattle.std.proofs.Common.{ℕ, ◌<◌, IfSome, slice_get}
use Rattle.mig_host.specs.Systems.{Finds, Goes, Led, disk_path}
use Rattle.mig_host.proofs.disks.check_names.Given as goal

abbrev pub invariant-each : goal.invariant-each
invariant-each g l = Goes (g.S.System.state l.fn.sys) (g.S.System.state l.sys)
    × ((i : ℕ) → i < l.k → IfSome (slice_get l.files.entries i) (λ e. Finds (g.S.System.state l.fn.sys) (g.S.System.state l.sys) (Led (disk_path e.0) e.1)))

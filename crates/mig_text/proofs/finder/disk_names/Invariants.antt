use Rattle.mig_text.proofs.Common.{drop, listed_names, ◌++◌, ◌≡◌}
use Rattle.mig_text.proofs.finder.disk_names.Given as goal

abbrev pub invariant-loop-disk : goal.invariant-loop-disk
invariant-loop-disk l = l.table ++ listed_names (drop l.disk-index l.disks) ≡ listed_names l.disks

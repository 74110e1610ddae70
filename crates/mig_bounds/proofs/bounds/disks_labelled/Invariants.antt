use Rattle.mig_bounds.proofs.Common.{filter, numbers, range_with_len, slice_index, ◌==◌, ◌≡◌}
use Rattle.mig_bounds.proofs.bounds.disks_labelled.Given as goal

abbrev pub invariant-loop-disk : goal.invariant-loop-disk
invariant-loop-disk l = numbers l.disks.items ≡ filter (λ v. slice_index l.labels v == l.root) (range_with_len 0 l.disk)

use Rattle.mig_check.proofs.Common.{false, get_or, has, length, numbers, take, ℕ, ◌<◌, ◌≡◌}
use Rattle.mig_check.proofs.counted.mark.Given as goal

abbrev pub invariant-loop-disk : goal.invariant-loop-disk
invariant-loop-disk l = (v : ℕ) → v < length l.members → get_or l.members v false ≡ has (numbers (take l.disk-index l.ids)) v

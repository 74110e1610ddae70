use Rattle.mig_base.proofs.Common.{number_of, take, ◌<◌, ◌^◌, ◌≡◌}
use Rattle.mig_base.proofs.digits.digits_value.Given as goal

abbrev pub invariant-loop-c : goal.invariant-loop-c
invariant-loop-c l = record { value : l.n ≡ number_of (take l.c-index l.digits); small : l.n < 10 ^ l.c-index }

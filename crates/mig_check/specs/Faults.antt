-- What each part of the checker blames.
use Rattle.std.specs.Prelude.{◌≡◌, ◌≢◌, List, length}
use Rattle.mig_base.specs.declared.ids.Shift.{Shift}
use Rattle.mig_base.specs.declared.certs.Cert.{Cert}
use Rattle.mig_base.specs.declared.blames.Blame.{Blame}
use Rattle.mig_base.specs.declared.blames.Blame.TheVariants.{MovedTooOften, RoundsDiffer, QuotientDiffers, ClassDiffers, LoadDiffers, ValueDiffers, Memory}
use Rattle.mig_base.specs.InputLists.{InputLists}
use Rattle.mig_base.specs.Transfers.{transfer_graph}
use Rattle.mig_base.specs.Bounding.{bound_value, class_of, counted_load, counted_value, quotient, stated_load}
use Rattle.mig_base.specs.Running.{shift_count}
use Rattle.mig_base.specs.Judging.{Differ, IsLeast, IsMovedTooOften}
use Rattle.mig_check.specs.declared.counted.BoundNumbers.{BoundNumbers}

-- what is wrong behind that: an item that is moved too often
abbrev pub IsOnceBlame : InputLists → List (List Shift) → Blame → Type 0
IsOnceBlame input plan (MovedTooOften item count) = IsLeast (IsMovedTooOften input plan) item.0 × (count ≡ shift_count plan item.0)
IsOnceBlame input plan Memory = Unit {0}
IsOnceBlame input plan _ = ⊥

-- what is wrong with a certificate: the first number that isn't the one that is counted
abbrev pub IsCertBlame : InputLists → List (List Shift) → Cert → Blame → Type 0
IsCertBlame input plan cert (RoundsDiffer kept counted) = Differ cert.rounds (length plan) kept counted
IsCertBlame input plan cert (QuotientDiffers kept counted) = (cert.rounds ≡ length plan) × Differ cert.quotient (quotient (transfer_graph input)) kept counted
IsCertBlame input plan cert ClassDiffers = (cert.rounds ≡ length plan) × (cert.quotient ≡ quotient (transfer_graph input)) × (cert.class ≢ class_of (transfer_graph input))
IsCertBlame input plan cert (LoadDiffers kept counted) = (cert.rounds ≡ length plan) × (cert.quotient ≡ quotient (transfer_graph input)) × (cert.class ≡ class_of (transfer_graph input))
    × Differ (stated_load cert.bound) (counted_load (transfer_graph input) cert.bound) kept counted
IsCertBlame input plan cert (ValueDiffers kept counted) = (cert.rounds ≡ length plan) × (cert.quotient ≡ quotient (transfer_graph input)) × (cert.class ≡ class_of (transfer_graph input))
    × (stated_load cert.bound ≡ counted_load (transfer_graph input) cert.bound) × Differ (bound_value cert.bound) (counted_value (transfer_graph input) cert.bound) kept counted
IsCertBlame input plan cert Memory = Unit {0}
IsCertBlame input plan cert _ = ⊥

-- what is wrong with a bound, beside what is counted
abbrev pub IsShownBlame : BoundNumbers → BoundNumbers → Blame → Type 0
IsShownBlame stated counted (LoadDiffers kept count) = Differ stated.load counted.load kept count
IsShownBlame stated counted (ValueDiffers kept count) = (stated.load ≡ counted.load) × Differ stated.value counted.value kept count
IsShownBlame stated counted _ = ⊥

-- The numbers of a row of the disks file.
use Rattle.std.specs.Prelude.{◌≡◌, ◌≤◌, Bool, true, false, ℕ, List}
use Rattle.mig_base.specs.Digits.{number_of}
use Rattle.mig_base.specs.InputLists.{IsLimit}
use Rattle.mig_base.specs.Rows.{Row, fourth, second, third}
use Rattle.mig_base.specs.declared.inputs.Limits.{Limits}
use Rattle.mig_base.specs.declared.inputs.Limits.TheVariants.{Joint, Split}
use Rattle.mig_base.specs.declared.limits.TheConstants.{MAX_SLOTS}
use Rattle.mig_csv.specs.declared.disks.Numbers.{Numbers}

-- they are those that the row's fields spell
pub record AreSpelt (outgoing incoming slots : List ℕ) (n : Numbers) : Type 0 where
  pub outgoing_is : n.outgoing ≡ number_of outgoing
  pub incoming_is : n.incoming ≡ number_of incoming
  pub slots_is : n.slots ≡ number_of slots

abbrev pub AreNumbersOf : Bool → Row → Numbers → Type 0
AreNumbersOf false r n = AreSpelt (second r) (second r) (third r) n
AreNumbersOf true r n = AreSpelt (second r) (third r) (fourth r) n

-- they are in range
abbrev pub AreInRange : Numbers → Type 0
AreInRange n = IsLimit n.outgoing × IsLimit n.incoming × (1 ≤ n.slots) × (n.slots ≤ MAX_SLOTS)

-- the limits that they give
abbrev pub limits_by : Bool → Numbers → Limits
limits_by false n = Joint n.outgoing
limits_by true n = Split n.outgoing n.incoming

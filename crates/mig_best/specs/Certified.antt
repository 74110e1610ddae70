-- A plan and its certificate.
use Rattle.std.specs.Prelude.{◌≡◌, ℕ, List}
use Rattle.mig_base.specs.InputLists.{InputLists}
use Rattle.mig_base.specs.Transfers.{transfer_graph}
use Rattle.mig_base.specs.Bounding.{Best, bound_value, quotient}
use Rattle.mig_base.specs.Schedules.{Needs}
use Rattle.mig_base.specs.Certificates.{CertHolds}
use Rattle.mig_base.specs.MadePlans.{Because, IsPlanOf, IsWithinLowered, Reason}
use Rattle.mig_base.specs.declared.certs.Bound.{Bound}
use Rattle.mig_base.specs.declared.certs.Bound.TheVariants.{Nothing, OfDisk, OfSide, OfSet}
use Rattle.mig_base.specs.declared.certs.Cert.{Cert}
use Rattle.mig_base.specs.declared.ids.Shift.{Shift}

-- the bound is a disk or a side of one with this value, or nothing where that is 0
abbrev pub IsDiskBound : Bound → ℕ → Type 0
IsDiskBound Nothing q = q ≡ 0
IsDiskBound (OfDisk disk l x) q = x ≡ q
IsDiskBound (OfSide disk side l x) q = x ≡ q
IsDiskBound (OfSet set i x) q = ⊥

-- a plan for the input, as is promised of the best one, and its certificate, whose bound is the first best one: every schedule needs its value,
-- and where there is a reason why the plan has no more rounds than the quotient it is a disk or a side that shows the plan to be optimal
pub record IsCertified (input : InputLists) (rounds : List (List Shift)) (certificate : Cert) : Type 0 where
  pub planned : IsPlanOf input rounds
  pub lowered : IsWithinLowered input rounds
  pub holds : CertHolds input rounds certificate
  pub best : Best (transfer_graph input) certificate.bound
  pub needs : Needs input (bound_value certificate.bound)
  pub shown : (why : Reason) → Because why (transfer_graph input) → IsDiskBound certificate.bound (quotient (transfer_graph input))

-- What the reading of a set's disks says.
use Rattle.std.specs.Prelude.{◌≡◌, ℕ, ◌+◌, ◌<◌, List, All, length}
use Rattle.mig_base.specs.declared.ids.DiskId.{DiskId}
use Rattle.mig_base.specs.DiskNumbers.{IsDiskSet}
use Rattle.mig_base.specs.InputLists.{InputLists}
use Rattle.mig_base.specs.Misfits.{FitsAlong}
use Rattle.mig_base.specs.CertLines.{before_members, CertNext}
use Rattle.mig_text.specs.Reads.{Left, TookAll}
use Rattle.mig_cert.specs.Prints.{member_lines}

-- the names of so many disks were taken, in the order of the input and none twice
pub record AreMembersRead (input : InputLists) (count : ℕ) (ids : List DiskId) (old new : Left) : Type 0 where
  pub all : length ids ≡ count
  pub below : All (λ (d : DiskId). d.0 < length input.disks) ids
  pub increasing : IsDiskSet ids
  pub took : TookAll old (member_lines input ids) new

-- the same of the first of them, where the next disk is numbered `from` or later
pub record AreMembersPart (input : InputLists) (count from : ℕ) (ids : List DiskId) (old new : Left) : Type 0 where
  pub read : AreMembersRead input count ids old new
  pub before : All (λ (d : DiskId). d.0 < from) ids
  pub leads : (more : ℕ) → FitsAlong (CertNext input) (before_members (count + more) 0) (member_lines input ids) (before_members more from)

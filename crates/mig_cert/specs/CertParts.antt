-- What the reading of a certificate's parts says.
use Rattle.std.specs.Prelude.{◌≡◌, ℕ, ◌<◌, ◌^◌, List, [], ◌∷◌, All, length, codes}
use Rattle.mig_base.specs.declared.ids.DiskId.{DiskId}
use Rattle.mig_base.specs.declared.certs.Class.{Class}
use Rattle.mig_base.specs.declared.certs.Bound.{Bound}
use Rattle.mig_base.specs.DiskNumbers.{IsDiskSet}
use Rattle.mig_base.specs.InputLists.{InputLists, is_duplex}
use Rattle.mig_base.specs.Certificates.{is_duplex_class}
use Rattle.mig_base.specs.Texts.{words, cert_title, class_word, line_of, bound_set, bound_lines}
use Rattle.mig_base.specs.CertLines.{FitsLine}
use Rattle.mig_text.specs.Reads.{Left, TookAll}
use Rattle.mig_cert.specs.Prints.{opening_lines}

-- the piece is the line of a class of the kind of the input's limits
abbrev pub IsClassLine : InputLists → List ℕ → Type 0
IsClassLine input piece = (k : Class) × ((is_duplex_class k ≡ is_duplex input.disks) × (piece ≡ words (codes "class" ∷ class_word k ∷ [])))

-- the first four lines were taken, and say this
pub record IsCertOpened (input : InputLists) (rounds quotient : ℕ) (k : Class) (old new : Left) : Type 0 where
  pub few : rounds < 2 ^ 32
  pub small : quotient < 2 ^ 32
  pub kind : is_duplex_class k ≡ is_duplex input.disks
  pub took : TookAll old (opening_lines (cert_title input) rounds quotient (class_word k)) new

-- the lines of this bound were taken
pub record IsBoundRead (input : InputLists) (b : Bound) (old new : Left) : Type 0 where
  pub line : FitsLine input (line_of b)
  pub members : All (λ (d : DiskId). d.0 < length input.disks) (bound_set b)
  pub increasing : IsDiskSet (bound_set b)
  pub took : TookAll old (bound_lines input b) new

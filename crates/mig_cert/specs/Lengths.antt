-- How long the text of a certificate is.
use Rattle.std.specs.Prelude.{ℕ, ◌≤◌, List, length}
use Rattle.mig_base.specs.declared.limits.TheConstants.{MAX_FILE_BYTES}
use Rattle.mig_base.specs.declared.certs.Cert.{Cert}
use Rattle.mig_base.specs.InputLists.{InputLists, IsInput}
use Rattle.mig_base.specs.Texts.{CertText}

-- the text of any certificate of an input has at most `MAX_FILE_BYTES` bytes, and so isn't too long to be read back
abbrev pub CertTextsAreShort : Type 0
CertTextsAreShort = (input : InputLists) (cert : Cert) (bytes : List ℕ) → IsInput input → CertText input cert bytes → length bytes ≤ MAX_FILE_BYTES

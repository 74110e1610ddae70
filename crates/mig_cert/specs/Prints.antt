-- Parts of the text of a certificate.
use Rattle.std.specs.Prelude.{ℕ, List, [], ◌∷◌, map, codes}
use Rattle.std.specs.Fmt.{decimal}
use Rattle.mig_base.specs.declared.ids.DiskId.{DiskId}
use Rattle.mig_base.specs.declared.certs.Bound.{Bound}
use Rattle.mig_base.specs.declared.certs.Cert.{Cert}
use Rattle.mig_base.specs.InputLists.{InputLists}
use Rattle.mig_base.specs.Texts.{cert_title, disk_name, text_of_lines, words, class_word, bound_lines}

-- a blank and a number
abbrev pub blank_number : ℕ → List ℕ
blank_number n = 32 ∷ decimal n

-- the names of disks
abbrev pub member_lines : InputLists → List DiskId → List (List ℕ)
member_lines input disks = map (λ (d : DiskId). disk_name input d.0) disks

-- the lines of a bound
abbrev pub bound_text : InputLists → Bound → List ℕ
bound_text input b = text_of_lines (bound_lines input b)

-- the first four lines
abbrev pub opening_lines : List ℕ → ℕ → ℕ → List ℕ → List (List ℕ)
opening_lines title rounds quotient class =
    title
    ∷ words (codes "rounds" ∷ decimal rounds ∷ [])
    ∷ words (codes "quotient" ∷ decimal quotient ∷ [])
    ∷ words (codes "class" ∷ class ∷ [])
    ∷ []

-- the text of these of a certificate
abbrev pub opening_text : InputLists → Cert → List ℕ
opening_text input cert = text_of_lines (opening_lines (cert_title input) cert.rounds cert.quotient (class_word cert.class))

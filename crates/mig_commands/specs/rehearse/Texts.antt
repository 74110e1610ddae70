-- What `rehearse` reads and prints.
use Rattle.std.specs.Prelude.{List, [], codes, if◌then◌else◌, length, ℕ, ◌++◌, ◌==◌, ◌∷◌, ◌≡◌}
use Rattle.mig_commands.specs.Common.{Cert, InputLists, IsCertified, PlanText, Shift, bound_value, case_of, decimal, encode_lower, moves, number_of, quotient, sha256, text_of_lines, transfer_graph, words}

-- the case that is made of three words
abbrev pub case_in : (disks per_pair limit : List ℕ) → InputLists
case_in disks per_pair limit = case_of (number_of disks) (number_of per_pair) (number_of limit)

-- `WORD N`
abbrev pub count_line : List ℕ → ℕ → List ℕ
count_line word n = words (word ∷ decimal n ∷ [])

-- the six lines of numbers
abbrev pub six_lines : (disks items moves quotient rounds bound : ℕ) → List (List ℕ)
six_lines disks items moves quotient rounds bound =
    count_line (codes "disks") disks
    ∷ count_line (codes "items") items
    ∷ count_line (codes "moves") moves
    ∷ count_line (codes "quotient") quotient
    ∷ count_line (codes "rounds") rounds
    ∷ count_line (codes "bound") bound
    ∷ []

-- and the two lines of the verdict and the digest
abbrev pub eight_lines : (disks items moves quotient rounds bound : ℕ) (verdict digest : List ℕ) → List (List ℕ)
eight_lines disks items moves quotient rounds bound verdict digest =
    six_lines disks items moves quotient rounds bound ++ words (codes "verdict" ∷ verdict ∷ []) ∷ words (codes "plan" ∷ digest ∷ []) ∷ []

-- `optimal` exactly where there are as many rounds as the bound says
abbrev pub verdict_word : List (List Shift) → Cert → List ℕ
verdict_word rounds certificate = if length rounds == bound_value certificate.bound then codes "optimal" else codes "bounded"

-- the digest of the plan's text in hexadecimal
abbrev pub IsPlanDigest : InputLists → List (List Shift) → List ℕ → Type 0
IsPlanDigest input rounds digest = (text : List ℕ) × PlanText input rounds text × (digest ≡ encode_lower (sha256 text))

-- the text tells the numbers of the input, those of a plan that is made for it and of its certificate, and this plan's digest
pub record IsRehearsed (input : InputLists) (text : List ℕ) : Type 0 where
  pub rounds : List (List Shift)
  pub certificate : Cert
  pub made : IsCertified input rounds certificate
  pub digest : List ℕ
  pub of_plan : IsPlanDigest input rounds digest
  pub lines : text ≡ text_of_lines (eight_lines (length input.disks) (length input.items) (length (moves input)) (quotient (transfer_graph input)) (length rounds) (bound_value certificate.bound)
      (verdict_word rounds certificate) digest)

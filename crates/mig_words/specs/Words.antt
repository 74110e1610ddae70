-- The command lines that the program knows.
use Rattle.std.specs.Prelude.{◌≡◌, ◌≢◌, ℕ, ◌≤◌, ◌<◌, false, nat_eq, List, [], ◌∷◌, ◌++◌, length, map, codes}
use Rattle.std.specs.List.{ends_with, AllByRecursion}
use Rattle.std.specs.String.{string_bytes}
use Rattle.std.specs.declared.string.String.{String}
use Rattle.std.specs.declared.alloc.Global.{Global}
use Rattle.mig_base.specs.Digits.{IsNumber, number_of}
use Rattle.mig_base.specs.Naming.{IsName}
use Rattle.mig_gen.specs.MadeCases.{IsCaseSize}
use Rattle.mig_words.specs.declared.words.Reader.{Reader}
use Rattle.mig_words.specs.declared.words.Reader.TheVariants.{Roomy, Tight}

-- the names of the three files of an input, and of a plan for it
pub record Names : Type 0 where
  pub disks : List ℕ
  pub now : List ℕ
  pub next : List ℕ
  pub plan : List ℕ

-- the names of the files of a task, and how its input is read
pub record TaskNames : Type 0 where
  pub reader : Reader
  pub files : Names

abbrev pub roomy : Names → TaskNames
roomy names = record { reader = Roomy; files = names }

-- the word of a command over a task whose input is read so
abbrev pub word_by : Reader → List ℕ → List ℕ
word_by Roomy word = word
word_by Tight word = word ++ codes "-tight"

-- these four, and then others
abbrev pub four_and : Names → List (List ℕ) → List (List ℕ)
four_and names others = names.disks ∷ names.now ∷ names.next ∷ names.plan ∷ others

-- a command, with the names of its files or its numbers
pub data Form : Type 0 where
  Plan : (names : Names) (cert : List ℕ) → Form
  Check : (names : Names) (cert : List ℕ) → Form
  PlanTight : (names : Names) → Form
  After : (task : TaskNames) → Form
  Fill : (disks now : List ℕ) → Form
  Audit : (disks now : List ℕ) → Form
  -- no files, but three numbers
  Rehearse : (disks per_pair limit : List ℕ) → Form
  Move : (task : TaskNames) → Form
  Resume : (task : TaskNames) → Form
  Halt : (task : TaskNames) (layout : List ℕ) → Form
  Drill : (names : Names) → Form
  Live : (names : Names) (script : List ℕ) → Form
  -- the name of a disk stands between those of its files
  Drain : (disks now disk next : List ℕ) → Form

-- the words of a command line, as lists of bytes
abbrev pub texts : List (String Global) → List (List ℕ)
texts words = map string_bytes words

-- the names of all files of a command
abbrev pub names_of : Form → List (List ℕ)
names_of (Plan names cert) = four_and names (cert ∷ [])
names_of (Check names cert) = four_and names (cert ∷ [])
names_of (PlanTight names) = four_and names []
names_of (After task) = four_and task.files []
names_of (Fill disks now) = disks ∷ now ∷ []
names_of (Audit disks now) = disks ∷ now ∷ []
names_of (Rehearse disks per_pair limit) = []
names_of (Move task) = four_and task.files []
names_of (Resume task) = four_and task.files []
names_of (Halt task layout) = four_and task.files (layout ∷ [])
names_of (Drill names) = four_and names []
names_of (Live names script) = four_and names (script ∷ [])
names_of (Drain disks now disk next) = disks ∷ now ∷ next ∷ []

-- `plan DISKS NOW NEXT PLAN CERT`, `check DISKS NOW NEXT PLAN CERT`, `after DISKS NOW NEXT PLAN`, `fill DISKS NOW`, `audit DISKS NOW`,
-- `rehearse N PERPAIR LIMIT`, `move DISKS NOW NEXT PLAN`, `resume DISKS NOW NEXT PLAN`, `halt DISKS NOW NEXT PLAN LAYOUT`,
-- `drill DISKS NOW NEXT PLAN`, `live DISKS NOW NEXT PLAN SCRIPT` and `drain DISKS NOW NAME NEXT`; and `plan-tight DISKS NOW NEXT PLAN`, and
-- `after-tight`, `move-tight`, `resume-tight` and `halt-tight` with the words of `after`, `move`, `resume` and `halt`
abbrev pub words_of : Form → List (List ℕ)
words_of (Plan names cert) = codes "plan" ∷ names_of (Plan names cert)
words_of (Check names cert) = codes "check" ∷ names_of (Check names cert)
words_of (PlanTight names) = codes "plan-tight" ∷ names_of (PlanTight names)
words_of (After task) = word_by task.reader (codes "after") ∷ names_of (After task)
words_of (Fill disks now) = codes "fill" ∷ names_of (Fill disks now)
words_of (Audit disks now) = codes "audit" ∷ names_of (Audit disks now)
words_of (Rehearse disks per_pair limit) = codes "rehearse" ∷ disks ∷ per_pair ∷ limit ∷ []
words_of (Move task) = word_by task.reader (codes "move") ∷ names_of (Move task)
words_of (Resume task) = word_by task.reader (codes "resume") ∷ names_of (Resume task)
words_of (Halt task layout) = word_by task.reader (codes "halt") ∷ names_of (Halt task layout)
words_of (Drill names) = codes "drill" ∷ names_of (Drill names)
words_of (Live names script) = codes "live" ∷ names_of (Live names script)
words_of (Drain disks now disk next) = codes "drain" ∷ disks ∷ now ∷ disk ∷ next ∷ []

-- a word that may name a file: 1 to 255 bytes that don't end in `.disk` or `.mig`
pub record IsFileWord (word : List ℕ) : Type 0 where
  pub some : 0 < length word
  pub short : length word ≤ 255
  pub no_disk : ends_with nat_eq word (codes ".disk") ≡ false
  pub no_journal : ends_with nat_eq word (codes ".mig") ≡ false

-- the word is none of these
abbrev pub DiffersFrom : List ℕ → List (List ℕ) → Type 0
DiffersFrom word others = AllByRecursion (λ other. word ≢ other) others

-- the names of the files that a command writes differ from its other names
abbrev pub WritesApart : Form → Type 0
WritesApart (Plan names cert) = DiffersFrom names.plan (names.disks ∷ names.now ∷ names.next ∷ cert ∷ []) × DiffersFrom cert (names.disks ∷ names.now ∷ names.next ∷ [])
WritesApart (PlanTight names) = DiffersFrom names.plan (names.disks ∷ names.now ∷ names.next ∷ [])
WritesApart (Halt task layout) = DiffersFrom layout (four_and task.files [])
WritesApart (Drain disks now disk next) = DiffersFrom next (disks ∷ now ∷ [])
WritesApart form = Unit {0}

-- the words are numbers of which a case can be made
pub record AreCaseWords (disks per_pair limit : List ℕ) : Type 0 where
  pub disks_word : IsNumber disks
  pub per_pair_word : IsNumber per_pair
  pub limit_word : IsNumber limit
  pub size : IsCaseSize (number_of disks) (number_of per_pair) (number_of limit)

-- the words of a command that name no file fit it: numbers of which a case can be made, or a name that a disk may have
abbrev pub OthersFit : Form → Type 0
OthersFit (Rehearse disks per_pair limit) = AreCaseWords disks per_pair limit
OthersFit (Drain disks now disk next) = IsName disk
OthersFit form = Unit {0}

-- the words are this command, in its listed form: each name may name a file
pub record IsListed (words : List (List ℕ)) (form : Form) : Type 0 where
  pub spelled : words ≡ words_of form
  pub files : AllByRecursion IsFileWord (names_of form)
  pub apart : WritesApart form
  pub others : OthersFit form

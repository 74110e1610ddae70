-- How a call of the program may end, with the numbers of the statuses and the texts.
use Rattle.std.specs.Prelude.{ℕ, List, [], ◌∷◌, ◌++◌, Option, Some, None, codes, slice_get, slice_index_or, unwrap_or}
use Rattle.std.specs.List.{flat_map}
use Rattle.std.specs.Fmt.{decimal}
use Rattle.mig_base.specs.declared.blames.Blame.{Blame}
use Rattle.mig_base.specs.declared.blames.Blame.TheVariants as blame
use Rattle.mig_base.specs.declared.faults.FileKind.{FileKind}
use Rattle.mig_base.specs.declared.faults.FileKind.TheVariants as file
use Rattle.mig_base.specs.declared.faults.Why.{Why}
use Rattle.mig_base.specs.declared.faults.Why.TheVariants as why
use Rattle.mig_base.specs.InputLists.{InputLists}
use Rattle.mig_base.specs.declared.inputs.Disk.{Disk}
use Rattle.mig_mover.specs.declared.faults.MoveFault.{MoveFault}
use Rattle.mig_mover.specs.declared.faults.MoveFault.TheVariants as fault
use Rattle.hex.specs.Hex.{encode_lower}
use Rattle.mig_words.specs.declared.endings.CommandError.{CommandError}
use Rattle.mig_words.specs.declared.endings.CommandError.TheVariants as ending
use Rattle.mig_words.specs.declared.endings.InputRefusal.{InputRefusal}
use Rattle.mig_words.specs.declared.endings.InputRefusal.TheVariants as finding
use Rattle.mig_words.specs.declared.endings.StoreRefusal.{StoreRefusal}
use Rattle.mig_words.specs.declared.endings.StoreRefusal.TheVariants as refusal
use Rattle.mig_words.specs.declared.endings.TextFile.{TextFile}
use Rattle.mig_words.specs.declared.endings.TextFile.TheVariants as text_file

-- an outcome, with what its text shows
pub data Outcome : Type 0 where
  -- what the command means was done, and this text was put
  Done : (text : List ℕ) → Outcome
  Unlisted : Outcome
  FolderFault : Outcome
  -- the store failed; this had been put before
  StoreFault : (before : List ℕ) → Outcome
  -- the command was done, but this text wasn't put whole
  SinkFault : (text : List ℕ) → Outcome
  Memory : Outcome
  NoFile : (word : List ℕ) → Outcome
  -- the plan, its certificate or a file of the command is wrong
  Found : (finding : InputRefusal) → Outcome
  -- what the store holds doesn't let the command begin
  Refusal : (refusal : StoreRefusal) → Outcome

-- the outcome of an ending, where the command loads the files of these names
abbrev pub outcome_of : List (List ℕ) → CommandError → Outcome
outcome_of names ending.Unlisted = Unlisted
outcome_of names ending.FolderFault = FolderFault
outcome_of names ending.StoreFault = StoreFault []
outcome_of names ending.Memory = Memory
outcome_of names (ending.NoFile place) = NoFile (slice_index_or names place [])
outcome_of names (ending.Found f) = Found f
outcome_of names (ending.Refusal r) = Refusal r

-- the name of the disk with this number, if there is one
abbrev pub name_if : Option Disk → Option (List ℕ)
name_if (Some disk) = Some disk.name
name_if None = None

abbrev pub disk_listed : InputLists → ℕ → Option (List ℕ)
disk_listed input disk = name_if (slice_get input.disks disk)

-- the outcome of a mover's fault
abbrev pub fault_outcome : InputLists → MoveFault → Outcome
fault_outcome input fault.Store = StoreFault []
fault_outcome input fault.Started = Refusal refusal.Started
fault_outcome input (fault.OtherPlan kept ours) = Refusal (refusal.OtherPlan kept ours)
fault_outcome input fault.NotStarted = Refusal refusal.NotStarted
fault_outcome input (fault.NotThere item) = Refusal (refusal.NotThere (slice_get input.items item.0))
fault_outcome input (fault.Occupied disk slot) = Refusal (refusal.Occupied (disk_listed input disk.0) slot)

-- the number of the status
abbrev pub spelling_code : TextFile → ℕ
spelling_code text_file.Plan = 10
spelling_code text_file.Cert = 10
spelling_code text_file.Script = 15

abbrev pub input_code : InputRefusal → ℕ
input_code (finding.Blamed b name) = 1
input_code (finding.Refused f row w) = 3
input_code (finding.NotSpelled f line) = spelling_code f
input_code (finding.TooLarge shifts) = 11
input_code (finding.TooMany disk needs slots) = 13
input_code finding.NoFreeSlot = 13
input_code (finding.NoDisk name) = 14
input_code (finding.NoRoom items free) = 14

abbrev pub store_code : StoreRefusal → ℕ
store_code refusal.Started = 8
store_code (refusal.OtherPlan kept ours) = 8
store_code refusal.NotStarted = 8
store_code (refusal.NotThere item) = 9
store_code (refusal.Occupied disk slot) = 9

abbrev pub code : Outcome → ℕ
code (Done text) = 0
code Unlisted = 2
code FolderFault = 4
code (StoreFault before) = 5
code (SinkFault text) = 6
code Memory = 7
code (NoFile word) = 16
code (Found f) = input_code f
code (Refusal r) = store_code r

-- the pieces of a text, one after the other
abbrev pub joined : List (List ℕ) → List ℕ
joined = flat_map (λ piece. piece)

-- the name of the item or the disk that a blame names, if it names one
abbrev pub blamed_name : InputLists → Blame → Option (List ℕ)
blamed_name input (blame.NotHere r item) = slice_get input.items item.0
blamed_name input (blame.TwiceInRound r item) = slice_get input.items item.0
blamed_name input (blame.SlotNotFree r item) = slice_get input.items item.0
blamed_name input (blame.OverLimit r disk count) = disk_listed input disk.0
blamed_name input (blame.WrongEnd item) = slice_get input.items item.0
blamed_name input (blame.MovedTooOften item count) = slice_get input.items item.0
blamed_name input _ = None

-- two numbers that differ
abbrev pub kept_counted : ℕ → ℕ → List (List ℕ)
kept_counted kept counted = codes " kept " ∷ decimal kept ∷ codes " counted " ∷ decimal counted ∷ codes "\n" ∷ []

-- what is wrong with an item in a round
abbrev pub in_round : List ℕ → ℕ → List ℕ → List (List ℕ)
in_round what r item = what ∷ codes " round " ∷ decimal r ∷ codes " item " ∷ item ∷ codes "\n" ∷ []

-- the name of a disk or of an item, and a count of it
abbrev pub named_count : List ℕ → ℕ → List (List ℕ)
named_count name count = name ∷ codes " count " ∷ decimal count ∷ codes "\n" ∷ []

-- what is wrong with a plan or its certificate
abbrev pub blame_pieces : Blame → List ℕ → List (List ℕ)
blame_pieces (blame.EmptyRound r) name = codes "empty round " ∷ decimal r ∷ codes "\n" ∷ []
blame_pieces (blame.NotHere r item) name = in_round (codes "not here") r name
blame_pieces (blame.TwiceInRound r item) name = in_round (codes "twice in") r name
blame_pieces (blame.SlotNotFree r item) name = in_round (codes "slot not free") r name
blame_pieces (blame.OverLimit r disk count) name = codes "over limit round " ∷ decimal r ∷ codes " disk " ∷ named_count name count
blame_pieces (blame.WrongEnd item) name = codes "wrong end item " ∷ name ∷ codes "\n" ∷ []
blame_pieces (blame.MovedTooOften item count) name = codes "moved too often item " ∷ named_count name count
blame_pieces (blame.RoundsDiffer kept counted) name = codes "rounds differ" ∷ kept_counted kept counted
blame_pieces (blame.QuotientDiffers kept counted) name = codes "quotient differs" ∷ kept_counted kept counted
blame_pieces blame.ClassDiffers name = codes "class differs\n" ∷ []
blame_pieces (blame.LoadDiffers kept counted) name = codes "load differs" ∷ kept_counted kept counted
blame_pieces (blame.ValueDiffers kept counted) name = codes "value differs" ∷ kept_counted kept counted
blame_pieces blame.Memory name = []

-- a file of the input, and why it is refused
abbrev pub file_word : FileKind → List ℕ
file_word file.Disks = codes "disks"
file_word file.Now = codes "now"
file_word file.Next = codes "next"

-- the words of a cause
abbrev pub cause_text : Why → List ℕ
cause_text why.BadHeader = codes "bad header"
cause_text why.BadWidth = codes "bad width"
cause_text why.BadName = codes "bad name"
cause_text why.BadNumber = codes "bad number"
cause_text why.OutOfRange = codes "out of range"
cause_text why.DuplicateDisk = codes "disk listed twice"
cause_text why.DuplicateItem = codes "item listed twice"
cause_text why.UnknownDisk = codes "unknown disk"
cause_text why.SlotTooHigh = codes "slot too high"
cause_text why.SlotTaken = codes "slot taken"
cause_text why.TooManyRows = codes "too many rows"
cause_text why.TooLong = codes "file too long"
cause_text why.NotInNow = codes "item not in now"
cause_text why.NotInNext = codes "item not in next"
cause_text (why.NoRoom disk needs slots) = joined (codes "no room on " ∷ disk ∷ codes ", needs " ∷ decimal needs ∷ codes ", has " ∷ decimal slots ∷ [])

-- `refused FILE row N: CAUSE`
abbrev pub refusal_text : FileKind → ℕ → Why → List ℕ
refusal_text f row w = joined (codes "refused " ∷ file_word f ∷ codes " row " ∷ decimal row ∷ codes ": " ∷ []) ++ cause_text w ++ codes "\n"

-- a text that is no spelling
abbrev pub text_word : TextFile → List ℕ
text_word text_file.Plan = codes "plan"
text_word text_file.Cert = codes "certificate"
text_word text_file.Script = codes "script"

-- the text that is put with what was found wrong, with what a store refuses, and with each outcome
abbrev pub input_text : InputRefusal → List ℕ
input_text (finding.Blamed b name) = joined (blame_pieces b (unwrap_or name []))
input_text (finding.Refused f row w) = refusal_text f row w
input_text (finding.NotSpelled f line) = joined (codes "refused " ∷ text_word f ∷ codes " line " ∷ decimal line ∷ codes "\n" ∷ [])
input_text (finding.TooLarge shifts) = joined (codes "too large for a drill " ∷ decimal shifts ∷ codes "\n" ∷ [])
input_text (finding.TooMany disk needs slots) = joined (codes "too many for " ∷ unwrap_or disk [] ∷ codes ", needs " ∷ decimal needs ∷ codes ", has " ∷ decimal slots ∷ codes "\n" ∷ [])
input_text finding.NoFreeSlot = codes "no free slot\n"
input_text (finding.NoDisk name) = joined (codes "no disk " ∷ name ∷ codes "\n" ∷ [])
input_text (finding.NoRoom items free) = joined (codes "no room, " ∷ decimal items ∷ codes " items, " ∷ decimal free ∷ codes " free\n" ∷ [])

abbrev pub store_text : StoreRefusal → List ℕ
store_text refusal.Started = codes "journal started\n"
store_text (refusal.OtherPlan kept ours) = joined (codes "journal started with another plan " ∷ encode_lower kept ∷ codes ", ours " ∷ encode_lower ours ∷ codes "\n" ∷ [])
store_text refusal.NotStarted = codes "journal not started\n"
store_text (refusal.NotThere item) = joined (codes "not there " ∷ unwrap_or item [] ∷ codes "\n" ∷ [])
store_text (refusal.Occupied disk slot) = joined (codes "occupied " ∷ unwrap_or disk [] ∷ codes " " ∷ decimal slot ∷ codes "\n" ∷ [])

abbrev pub text_of : Outcome → List ℕ
text_of (Done text) = text
text_of Unlisted = codes "words not understood\n"
text_of FolderFault = codes "folder fault\n"
text_of (StoreFault before) = before ++ codes "store fault\n"
text_of (SinkFault text) = text
text_of Memory = codes "no memory\n"
text_of (NoFile word) = joined (codes "no file " ∷ word ∷ codes "\n" ∷ [])
text_of (Found f) = input_text f
text_of (Refusal r) = store_text r

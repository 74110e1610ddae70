-- What the reading of a plan's parts says.
use Rattle.std.specs.Prelude.{◌≡◌, ℕ, ◌≤◌, List, [], ◌∷◌, length, map, codes, All}
use Rattle.std.specs.Fmt.{decimal}
use Rattle.mig_base.specs.declared.limits.TheConstants.{MAX_ROUNDS, MAX_SHIFTS}
use Rattle.mig_base.specs.declared.ids.Shift.{Shift}
use Rattle.mig_base.specs.InputLists.{InputLists}
use Rattle.mig_base.specs.Running.{ShiftFits}
use Rattle.mig_base.specs.Texts.{item_name, disk_name, round_lines, shift_line, words}
use Rattle.mig_text.specs.Reads.{Left, TookAll}

-- the five words of a shift's line
abbrev pub shift_words : InputLists → Shift → List (List ℕ)
shift_words input s = item_name input s.item.0 ∷ disk_name input s.from.disk.0 ∷ decimal s.from.slot ∷ disk_name input s.to.disk.0 ∷ decimal s.to.slot ∷ []

-- `round r C`
abbrev pub head_line : ℕ → ℕ → List ℕ
head_line r n = words (codes "round" ∷ decimal r ∷ decimal n ∷ [])

-- the piece is the line of a shift that fits the input
abbrev pub IsShiftLine : InputLists → List ℕ → Type 0
IsShiftLine input piece = (s : Shift) × (ShiftFits input s × (piece ≡ shift_line input s))

-- the piece is `round r C`
abbrev pub IsHeadLine : ℕ → List ℕ → Type 0
IsHeadLine r piece = (n : ℕ) × ((n ≤ MAX_SHIFTS) × (piece ≡ head_line r n))

-- the first lines were taken, and announce this number of rounds
pub record IsPlanOpened (total : ℕ) (old new : Left) : Type 0 where
  pub few : total ≤ MAX_ROUNDS
  pub took : TookAll old (codes "migration-plan 1" ∷ words (codes "rounds" ∷ decimal total ∷ []) ∷ []) new

-- this round was taken, as round r
pub record IsRoundRead (input : InputLists) (r : ℕ) (round : List Shift) (old new : Left) : Type 0 where
  pub few : length round ≤ MAX_SHIFTS
  pub fitting : All (ShiftFits input) round
  pub took : TookAll old (head_line r (length round) ∷ map (shift_line input) round) new

-- these first shifts of a round of n were taken
pub record IsRoundPart (input : InputLists) (r n done : ℕ) (shifts : List Shift) (old new : Left) : Type 0 where
  pub count : length shifts ≡ done
  pub fitting : All (ShiftFits input) shifts
  pub took : TookAll old (head_line r n ∷ map (shift_line input) shifts) new

-- these rounds were taken, from round 1 on
pub record AreRoundsRead (input : InputLists) (total : ℕ) (rounds : List (List Shift)) (old new : Left) : Type 0 where
  pub count : length rounds ≡ total
  pub few_shifts : All (λ (round : List Shift). length round ≤ MAX_SHIFTS) rounds
  pub fitting : All (All (ShiftFits input)) rounds
  pub took : TookAll old (round_lines input 1 rounds) new

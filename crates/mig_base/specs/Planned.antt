-- Plans that shift each relocated item once, from where it is straight to the spot that it is given.
use Rattle.std.specs.Prelude.{◌≡◌, ℕ, ◌<◌, List, length, map, All, slice_index_or}
use Rattle.mig_base.specs.declared.ids.Spot.{Spot}
use Rattle.mig_base.specs.declared.ids.Shift.{Shift}
use Rattle.mig_base.specs.InputLists.{InputLists, IsInput, no_spot}
use Rattle.mig_base.specs.Transfers.{KeepsLimits, moves}
use Rattle.mig_base.specs.Targets.{IsRoomy, AreTargets}
use Rattle.mig_base.specs.Running.{Runs, Once, PlanFits, transfer_of, shift_count}

-- the item of a move, and the spot that it is given
abbrev pub move_at : InputLists → ℕ → ℕ
move_at input move = slice_index_or (moves input) move 0

abbrev pub target_at : List Spot → ℕ → Spot
target_at targets move = slice_index_or targets move no_spot

-- the shift of a move, from where the item is now
abbrev pub move_shift : InputLists → List Spot → ℕ → Shift
move_shift input targets move = record {
  item = record { 0 = move_at input move };
  from = slice_index_or input.spots (move_at input move) no_spot;
  to = target_at targets move;
}

abbrev pub IsMoveShift : InputLists → List Spot → Shift → Type 0
IsMoveShift input targets s = (move : ℕ) × (move < length (moves input)) × (s ≡ move_shift input targets move)

-- each shift of the plan is that of a move, to the spot that its item is given
abbrev pub ShiftsMoves : InputLists → List Spot → List (List Shift) → Type 0
ShiftsMoves input targets plan = All (λ round. All (IsMoveShift input targets) round) plan

-- and these spots are the target spots of the input
abbrev pub GoesToTargets : InputLists → List (List Shift) → Type 0
GoesToTargets input plan = (targets : List Spot) × AreTargets input targets × ShiftsMoves input targets plan

-- no round is empty
abbrev pub HasNoEmptyRound : List (List Shift) → Type 0
HasNoEmptyRound plan = All (λ round. 0 < length round) plan

-- the shifts of the moves, each in one round; no round is empty, and each keeps the limit of each disk
pub record IsPartition (input : InputLists) (targets : List Spot) (plan : List (List Shift)) : Type 0 where
  pub filled : HasNoEmptyRound plan
  pub shifts : ShiftsMoves input targets plan
  pub once : (move : ℕ) → move < length (moves input) → shift_count plan (move_at input move) ≡ 1
  pub limits : All (λ round. KeepsLimits input.disks (map transfer_of round)) plan

-- these rounds can be carried out, shift each relocated item once, and are few enough to be spelled
pub record IsPlan (input : InputLists) (plan : List (List Shift)) : Type 0 where
  pub runs : Runs input plan
  pub once : Once input plan
  pub fits : PlanFits input plan

-- a partition of the moves of a roomy input, to its target spots, is such a plan
abbrev pub PartitionIsPlan : Type 0
PartitionIsPlan = (input : InputLists) (targets : List Spot) (plan : List (List Shift)) → IsInput input → IsRoomy input → AreTargets input targets → IsPartition input targets plan → IsPlan input plan

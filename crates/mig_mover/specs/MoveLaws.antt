-- Laws on what a stop of a migration leaves, over the definitions alone.
use Rattle.std.specs.Prelude.{◌≡◌, ◌<◌, ◌≤◌, Bool, true, false, ℕ, suc, List, Some, All, length}
use Rattle.mig_base.specs.declared.cells.Cell.TheVariants.{Gate, Mark}
use Rattle.mig_base.specs.declared.ids.Shift.{Shift}
use Rattle.mig_base.specs.Arrivals.{AreFreeZeros, IsReached, IsHaltSafe}
use Rattle.mig_base.specs.Images.{Image, SameBut}
use Rattle.mig_base.specs.InputLists.{InputLists, IsInput}
use Rattle.mig_base.specs.JobCells.{IsFreeSlot}
use Rattle.mig_base.specs.Journals.{is_marked}
use Rattle.mig_base.specs.Layouts.{round_at}
use Rattle.mig_base.specs.RoundStates.{IsInUse, IsCopied}
use Rattle.mig_base.specs.Running.{Runs}
use Rattle.mig_base.specs.Safety.{Contents, IsSafeAfter, IsSoundAfter}
use Rattle.mig_base.specs.Slots.{slot_of, zeros}

-- for each input, plan that runs on it, digest of the plan, and contents of the items
abbrev pub ForEachPlan : (InputLists → List (List Shift) → List ℕ → Contents → Type 0) → Type 0
ForEachPlan Law = (input : InputLists) (plan : List (List Shift)) (digest : List ℕ) (contents : Contents) → IsInput input → Runs input plan → Law input plan digest contents

-- Between two marks

-- where round k left and where round k + 1 goes to, any bytes leave an image as sound; k may be the last round
abbrev pub SoundByOtherBytes : Type 0
SoundByOtherBytes = ForEachPlan (λ input plan digest contents. (asked : Bool) (k : ℕ) (old new : Image) → k ≤ length plan → SameBut (IsInUse input plan k) old new
    → IsSoundAfter asked input plan digest contents old k → IsSoundAfter asked input plan digest contents new k)

-- once the contents stand where round k + 1 goes to, and zeros where round k left, mark k + 1 being 1 counts the round
abbrev pub SoundByMark : Type 0
SoundByMark = ForEachPlan (λ input plan digest contents. (asked : Bool) (k : ℕ) (old new : Image) → k < length plan → SameBut (λ cell. cell ≡ Mark (suc k)) old new → is_marked new (suc k) ≡ true
    → IsCopied input plan contents old k → IsSoundAfter asked input plan digest contents old k → IsSoundAfter asked input plan digest contents new (suc k))

-- a mark k + 1 that isn't 1, whatever byte it holds, leaves an image as sound
abbrev pub SoundByNoMark : Type 0
SoundByNoMark = ForEachPlan (λ input plan digest contents. (asked : Bool) (k : ℕ) (old new : Image) → k < length plan → SameBut (λ cell. cell ≡ Mark (suc k)) old new → is_marked new (suc k) ≡ false
    → IsSoundAfter asked input plan digest contents old k → IsSoundAfter asked input plan digest contents new k)

-- At the end

-- once all rounds are marked, and zeros stand where the last round left, the target is reached
abbrev pub ReachedByLastRound : Type 0
ReachedByLastRound = ForEachPlan (λ input plan digest contents. (image : Image) → IsSoundAfter true input plan digest contents image (length plan)
    → All (λ s. image (slot_of input s.from) ≡ Some zeros) (round_at plan (length plan)) → IsReached input plan digest contents image)

-- where the target is reached, an image is sound after the last round
abbrev pub SoundOnceReached : Type 0
SoundOnceReached = ForEachPlan (λ input plan digest contents. (image : Image) → IsReached input plan digest contents image → IsSoundAfter true input plan digest contents image (length plan))

-- Closing early, after k rounds

-- any bytes in the named slots that are free then leave an image as safe
abbrev pub SafeByFreeBytes : Type 0
SafeByFreeBytes = ForEachPlan (λ input plan digest contents. (k : ℕ) (old new : Image) → k ≤ length plan → SameBut (IsFreeSlot input plan k) old new
    → IsSafeAfter input plan digest contents old k → IsSafeAfter input plan digest contents new k)

-- once these slots are zeros, the plan may go on or is halted, whatever byte the gate holds
abbrev pub HaltSafeByGate : Type 0
HaltSafeByGate = ForEachPlan (λ input plan digest contents. (k : ℕ) (old new : Image) → k ≤ length plan → SameBut (λ cell. cell ≡ Gate) old new
    → AreFreeZeros input plan old k → IsSafeAfter input plan digest contents old k → IsHaltSafe input plan digest contents new k)

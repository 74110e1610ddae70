-- What is promised of the plan that is made for an input.
use Rattle.std.specs.Prelude.{◌≡◌, ◌*◌, ◌≤◌, true, List, length}
use Rattle.mig_base.specs.declared.ids.Shift.{Shift}
use Rattle.mig_base.specs.InputLists.{InputLists, is_duplex}
use Rattle.mig_base.specs.Transfers.{Transfers, transfer_graph}
use Rattle.mig_base.specs.Bounding.{IsEven, quotient}
use Rattle.mig_base.specs.Lowered.{IsLowerable, lowered_quotient}
use Rattle.mig_base.specs.Sides.{IsTwoSided}
use Rattle.mig_base.specs.Schedules.{Needs}
use Rattle.mig_base.specs.Running.{Runs, Once, PlanFits}
use Rattle.mig_base.specs.Planned.{GoesToTargets, HasNoEmptyRound}

-- why as few rounds as the greatest quotient can do
pub data Reason : Type 0 where
  SplitLimits : Reason
  EvenLimits : Reason
  TwoSides : Reason

-- what is so of the transfers then: limits are split; limits are even; each transfer goes from one side of the disks to the other
abbrev pub Because : Reason → Transfers → Type 0
Because SplitLimits graph = is_duplex graph.disks ≡ true
Because EvenLimits graph = IsEven graph
Because TwoSides graph = IsTwoSided graph

-- The rounds run and move each relocated item once, straight to its target spot. No schedule has fewer rounds than the greatest
-- quotient. Where there is a reason why as many can do, there are as many; and there are never more than one and a half times that.
pub record IsPlanOf (input : InputLists) (plan : List (List Shift)) : Type 0 where
  pub fits : PlanFits input plan
  pub runs : Runs input plan
  pub once : Once input plan
  pub targets : GoesToTargets input plan
  pub filled : HasNoEmptyRound plan
  pub lower : Needs input (quotient (transfer_graph input))
  pub tight : (why : Reason) → Because why (transfer_graph input) → length plan ≡ quotient (transfer_graph input)
  pub most : 2 * length plan ≤ 3 * quotient (transfer_graph input)

-- where joint limits can be lowered to even ones, the plan has no more rounds than the greatest quotient by these
abbrev pub IsWithinLowered : InputLists → List (List Shift) → Type 0
IsWithinLowered input plan = IsLowerable (transfer_graph input) → length plan ≤ lowered_quotient (transfer_graph input)

-- What a session of `live` puts.
use Rattle.std.specs.Prelude.{Bool, Contains, List, [], codes, ℕ, ◌++◌, ◌-◌, ◌∷◌, ◌≡◌}
use Rattle.mig_base.specs.Readiness.{IsShifted}
use Rattle.mig_base.specs.declared.ids.ItemId.{ItemId}
use Rattle.mig_live.specs.Sessions.{AreOthersKept}
use Rattle.mig_live.specs.declared.orders.Order.TheVariants.{Read}
use Rattle.mig_mover.specs.Holdings.{IsUnrefused}
use Rattle.mig_top.specs.Common.{Contents, IsJobCell, IsMoving, IsSound, Order, SettlesTo, State, Task, Tells, all_steps, decimal, item_cell, joined, replies, steps_after}
use Rattle.mig_top.specs.live.Reads.{Scripted}

-- the store holds these contents: once it is settled what reads give is sound with them; and the cells of the task are told
abbrev pub HoldsContents : Bool → Task → Contents → State → Type 0
HoldsContents asked task contents store = Tells (IsJobCell task.input task.plan) store.reads × SettlesTo (IsSound asked task.input task.plan task.digest contents) store

-- The cells show no ground on which a store may refuse what a script asks: none in its plan, and each item that is read and that the plan doesn't
-- shift is where it is listed, and no copy goes there.
pub record IsServable (read : Scripted) (s : State) : Type 0 where
  pub task : IsUnrefused read.task s
  pub others : AreOthersKept read.task s.reads read.orders
  pub still : (item : ItemId) → Contains read.orders (Read item) → ¬ IsShifted read.task.plan item.0 → ¬ IsMoving s (item_cell read.task.input item.0)

-- the text is the replies to orders, whatever contents the store held in the beginning
abbrev pub AreAnswers : Task → State → List Order → List ℕ → Type 0
AreAnswers task store orders text = (asked : Bool) (contents : Contents) → HoldsContents asked task contents store
    → text ≡ replies task.input contents orders

-- how many steps are left at the end, where so many rounds were marked in the beginning
abbrev pub steps_left : Scripted → ℕ → ℕ
steps_left read found = steps_after read.task.plan found - all_steps read.orders

-- `left N`
abbrev pub left_text : ℕ → List ℕ
left_text n = joined (codes "left " ∷ decimal n ∷ codes "\n" ∷ [])

-- the text of a session that is done
abbrev pub IsServed : Scripted → State → ℕ → List ℕ → Type 0
IsServed read store found text = (answers : List ℕ) × AreAnswers read.task store read.orders answers × (text ≡ answers ++ left_text (steps_left read found))

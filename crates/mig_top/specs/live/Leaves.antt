-- What `live` leaves in a store.
use Rattle.std.specs.Prelude.{IsSome, List, Some, [], drop, length, slice_get, take, true, ℕ, ◌++◌, ◌+◌, ◌∷◌, ◌≡◌, ◌≤◌, ◌⊎◌}
use Rattle.mig_base.specs.declared.ids.ItemId.{ItemId}
use Rattle.mig_io.specs.Held.{ExtendsByPrefix}
use Rattle.mig_lanes.specs.LaneSteps.{IsPartOf}
use Rattle.mig_live.specs.Actions.{Action, actions_after}
use Rattle.mig_live.specs.Orders.{steps_of}
use Rattle.mig_live.specs.declared.orders.Order.TheVariants.{Read}
use Rattle.mig_top.specs.Calls.{Call}
use Rattle.mig_top.specs.Common.{Adds, BeginsRun, Carries, Contents, Done, FolderState, Gate, HasFound, IfSome, Image, IsReached, IsRun, IsSafeAfter}
use Rattle.mig_top.specs.Common.{IsSettled, Names, Order, Outcome, Refusal, Settles, SinkFault, State, StoreFault, Task, all_steps, count_of, flights}
use Rattle.mig_top.specs.Common.{is_armed, marks_by}
use Rattle.mig_live.specs.Events.{IsRunAndPart, lone_after, lone_copies}
use Rattle.mig_top.specs.live.Looks.{AreAnswers, HoldsContents, IsServed, steps_left}
use Rattle.mig_top.specs.live.Reads.{Scripted, scripted_in}
use Rattle.mig_top.specs.Stores.{IsUntouched}
use Rattle.mig_words.specs.declared.endings.StoreRefusal.TheVariants as refusal

-- the five files, where they are told, stand for a task and its script of which this holds
abbrev pub AreOfScripted : FolderState → Names → List ℕ → Scripted → Type 0
AreOfScripted folder names script read = IfSome folder.files (λ files. (scripted_in names script files).Passes read)

abbrev pub ForScripted : FolderState → Names → List ℕ → (Scripted → Type 0) → Type 0
ForScripted folder names script P = (read : Scripted) × AreOfScripted folder names script read × P read

-- A session went on from k marked rounds by as many steps as its orders ask for: with these contents those rounds are marked too whose marks are among them, and where no step is left the target is reached.
pub record WentOn (read : Scripted) (contents : Contents) (new : State) (k : ℕ) : Type 0 where
  pub marked : IsSafeAfter read.task.input read.task.plan read.task.digest contents new.reads (k + marks_by (drop k read.task.plan) (all_steps read.orders))
  pub reached : steps_left read k ≡ 0 → IsReached read.task.input read.task.plan read.task.digest contents new.reads
  pub settled : steps_left read k ≡ 0 → IsSettled new

-- what a session does whatever its outcome, after k rounds that were marked before
pub record GoesOn (task : Task) (old new : State) (k : ℕ) : Type 0 where
  pub carries : Carries task old new
  pub found : HasFound task old k
  pub events : Adds (IsPartOf task.input.disks (flights old) (lone_after task k)) old new

-- the steps that its orders ask for, where so many rounds were marked before
abbrev pub steps_by : Scripted → ℕ → List Action
steps_by read k = take (all_steps read.orders) (actions_after read.task k)

-- the first of its orders alone
abbrev pub first_orders : ℕ → Scripted → Scripted
first_orders whole read = record { task = read.task; orders = take whole read.orders }

-- all orders were carried out: their steps were made, and nothing else was done
pub record ServesAll (read : Scripted) (old new : State) (k : ℕ) : Type 0 where
  pub goes : GoesOn read.task old new k
  pub events : Adds (IsRun (flights old) (lone_copies (steps_by read k))) old new
  pub landed : flights new ≡ []
  -- the gate is 1 then
  pub armed : IsSome (old.reads Gate) → (image : Image) → new.may_leave image → is_armed image ≡ true
  pub went : (contents : Contents) → HoldsContents true read.task contents old → WentOn read contents new k

-- The sink failed at the reply to a read: the orders before it were carried out, their replies were put, and then a beginning of this one.
pub record StopsAtReply (call : Call) (read : Scripted) (k : ℕ) (text : List ℕ) : Type 0 where
  pub whole : ℕ
  pub item : ItemId
  pub at : slice_get read.orders whole ≡ Some (Read item)
  pub makes : ServesAll (first_orders whole read) call.before.store call.after.store k
  pub answers : List ℕ
  pub next : List ℕ
  pub replied : AreAnswers read.task call.before.store (take whole read.orders) answers
  pub reply : AreAnswers read.task call.before.store (Read item ∷ []) next
  pub is : text ≡ answers ++ next
  pub put : IfSome call.before.sink.held (λ held. ExtendsByPrefix next (held ++ answers) call.after.sink.held)

-- The store failed at an order: those before it were carried out, their replies are the text, and of its own steps some were made. So in what reads give, and in each image that a crash may leave,
-- at least the rounds count that those before it marked; where they left no step, the target is reached. Or it failed before all.
pub record StopsAtOrder (read : Scripted) (old new : State) (k : ℕ) (text : List ℕ) : Type 0 where
  pub whole : ℕ
  pub order : Order
  pub at : slice_get read.orders whole ≡ Some order
  pub replied : AreAnswers read.task old (take whole read.orders) text
  pub marked : (contents : Contents) → HoldsContents true read.task contents old → (image : Image) → (image ≡ new.reads) ⊎ new.may_leave image
      → k + marks_by (drop k read.task.plan) (all_steps (take whole read.orders)) ≤ count_of (length read.task.plan) image
  pub went : (contents : Contents) → HoldsContents true read.task contents old → steps_left (first_orders whole read) k ≡ 0 → WentOn (first_orders whole read) contents new k
  pub events : Adds (IsRunAndPart (flights old) (steps_by (first_orders whole read) k) (take (steps_of order) (drop (all_steps (take whole read.orders)) (actions_after read.task k)))) old new

abbrev pub StopsAtOnce : State → State → List ℕ → Type 0
StopsAtOnce old new text = (text ≡ []) × Adds (BeginsRun (flights old) []) old new

-- A refusal of the store settled it; a fault of it, or of the sink, leaves a session that isn't done.
abbrev pub LiveLeaves : Call → Names → List ℕ → Outcome → Type 0
LiveLeaves call names script (Done text) =
    ForScripted call.before.folder names script (λ read. (k : ℕ) × ServesAll read call.before.store call.after.store k × IsServed read call.before.store k text)
LiveLeaves call names script (SinkFault text) = ForScripted call.before.folder names script (λ read. (k : ℕ) × StopsAtReply call read k text)
LiveLeaves call names script (StoreFault before) = ForScripted call.before.folder names script (λ read. (k : ℕ) × GoesOn read.task call.before.store call.after.store k
    × (StopsAtOnce call.before.store call.after.store before ⊎ StopsAtOrder read call.before.store call.after.store k before))
LiveLeaves call names script (Refusal refusal.NotStarted) = IsUntouched call.before.store call.after.store
LiveLeaves call names script (Refusal r) =
    ForScripted call.before.folder names script (λ read. (k : ℕ) × GoesOn read.task call.before.store call.after.store k × Settles call.before.store call.after.store)
LiveLeaves call names script o = IsUntouched call.before.store call.after.store

-- What orders are replied.
use Rattle.std.specs.Prelude.{◌≡◌, ◌-◌, ◌++◌, Bool, ℕ, List, [], ◌∷◌, IfSome, None, Some, drop, map, slice_get, take}
use Rattle.hex.specs.Hex.{encode_lower}
use Rattle.mig_base.specs.declared.cells.Cell.{Cell}
use Rattle.mig_base.specs.FaultCounts.{Rose}
use Rattle.mig_base.specs.Images.{Image, SameBut}
use Rattle.mig_base.specs.InputLists.{InputLists}
use Rattle.mig_base.specs.Safety.{Contents}
use Rattle.mig_base.specs.Stores.{State, IsLeftBut}
use Rattle.mig_base.specs.Texts.{item_name, text_of_lines, words}
use Rattle.mig_io.specs.Held.{SinkState, Extends, ExtendsByPrefix}
use Rattle.mig_store.specs.Grounds.{FailedOr}
use Rattle.mig_live.specs.Actions.{Action, AllWrite, AreMade, AreMadeInPart, actions_left}
use Rattle.mig_live.specs.Orders.{all_reads, all_steps, steps_of}
use Rattle.mig_live.specs.Sessions.{Session, IsSession, IsUnsynced, InStep}
use Rattle.mig_base.specs.declared.ids.ItemId.{ItemId}
use Rattle.mig_live.specs.declared.orders.Order.{Order}
use Rattle.mig_live.specs.declared.orders.Order.TheVariants.{Read}
use Rattle.mig_live.specs.declared.serving.ServeFault.{ServeFault}
use Rattle.mig_live.specs.declared.serving.ServeFault.TheVariants as serve_fault
use Rattle.sha2.specs.Sha256.{sha256}

-- the reply to a read of an item: `ITEM HEX`, with the digest of its contents
abbrev pub reply_line : InputLists → Contents → ℕ → List ℕ
reply_line input contents item = words (item_name input item ∷ encode_lower (sha256 (contents item)) ∷ [])

-- the replies to orders, a line for each read
abbrev pub replies : InputLists → Contents → List Order → List ℕ
replies input contents orders = text_of_lines (map (reply_line input contents) (all_reads orders))

-- the text is the replies to orders, whatever contents the session's store holds
abbrev pub AreReplies : Session → State → List Order → List ℕ → Type 0
AreReplies live store orders text = (asked : Bool) (contents : Contents) → InStep asked live contents store → text ≡ replies live.task.input contents orders

-- the replies to orders were put
abbrev pub ArePut : Session → State → List Order → SinkState → SinkState → Type 0
ArePut live store orders old new = (text : List ℕ) × AreReplies live store orders text × Extends text old new

-- they were put, and then a beginning of the reply to one order more
abbrev pub ArePutAndPart : Session → State → List Order → Order → SinkState → SinkState → Type 0
ArePutAndPart live store orders order old new =
    (text : List ℕ) × (more : List ℕ) × AreReplies live store orders text × AreReplies live store (order ∷ []) more × IfSome old.held (λ held. ExtendsByPrefix more (held ++ text) new.held)

-- the replies to these orders were put; and where the sink failed, a beginning of that to the read after them
abbrev pub ArePutUpTo : Session → State → List Order → Order → SinkState → SinkState → ServeFault → Type 0
ArePutUpTo live store orders order old new serve_fault.Store = ArePut live store orders old new
ArePutUpTo live store orders order old new serve_fault.Sink = (item : ItemId) × (order ≡ Read item) × ArePutAndPart live store orders order old new

-- these steps were made; and where the store failed, some of the others
abbrev pub AreMadeUpTo : List Action → List Action → State → State → ServeFault → Type 0
AreMadeUpTo actions others old new serve_fault.Store = AreMadeInPart actions others old new
AreMadeUpTo actions others old new serve_fault.Sink = AreMade actions old new

-- the session `after` is what another is after so many steps, and the store holds what these left in it, with the contents that it held before
pub record IsLeftAfter (live : Session) (steps : ℕ) (after : Session) (old new : State) : Type 0 where
  pub task : after.task ≡ live.task
  pub left : after.left ≡ live.left - steps
  pub rest : actions_left after ≡ drop steps (actions_left live)
  pub is : IsSession after
  pub in_step : (asked : Bool) (contents : Contents) → InStep asked live contents old → InStep asked after contents new

-- a store that tells this image, and in which these cells are unsettled
abbrev pub telling : (Cell → Type 0) → Image → State
telling P image = record { reads = image; may_leave = SameBut P image; moment = 0; left_since = λ t. SameBut P image; events = None; faults = 0 }

-- The store failed in others of its steps. Before them reads gave this image, and nothing was unsettled but what was written since the last sync;
-- since then no cells have changed but those of the first of these others.
pub record WasLeftAfter (live : Session) (steps : ℕ) (others : List Action) (old new : State) : Type 0 where
  pub after : Session
  pub before : Image
  pub was : IsLeftAfter live steps after old (telling (IsUnsynced after) before)
  pub first : List Action
  pub rest : List Action
  pub are : others ≡ first ++ rest
  pub told : SameBut (AllWrite first) before new.reads
  pub crash : (asked : Bool) (contents : Contents) → InStep asked live contents old → (image : Image) → new.may_leave image → IsLeftBut (AllWrite first) (telling (IsUnsynced after) before) image

-- what a fault leaves after so many steps: what they left, and where the store failed, a part of others besides
abbrev pub LeavesAfter : Session → ℕ → List Action → State → State → ServeFault → Type 0
LeavesAfter live steps others old new serve_fault.Store = WasLeftAfter live steps others old new
LeavesAfter live steps others old new serve_fault.Sink = (after : Session) × IsLeftAfter live steps after old new

-- A fault ended a session at one of its orders: those before it were replied to, their steps were made, and nothing was done of those after it.
pub record AreCutOff (live : Session) (store now : State) (orders : List Order) (old new : SinkState) (fault : ServeFault) : Type 0 where
  pub whole : ℕ
  pub order : Order
  pub at : slice_get orders whole ≡ Some order
  pub put : ArePutUpTo live store (take whole orders) order old new fault
  pub made : AreMadeUpTo (take (all_steps (take whole orders)) (actions_left live)) (take (steps_of order) (drop (all_steps (take whole orders)) (actions_left live))) store now fault
  pub leaves : LeavesAfter live (all_steps (take whole orders)) (take (steps_of order) (drop (all_steps (take whole orders)) (actions_left live))) store now fault

-- a fault of the store comes only where its count rose or it refused, and one of the sink where its count rose
abbrev pub IsServeFault : Type 0 → State → State → SinkState → SinkState → ServeFault → Type 0
IsServeFault Refused store store_new old new serve_fault.Store = FailedOr Refused store store_new
IsServeFault Refused store store_new old new serve_fault.Sink = Rose old.faults new.faults

-- What commands find in a store whatever they are, and that they left it as it was.
use Rattle.std.specs.Prelude.{All, IsSome, ℕ, ◌≡◌, ◌≢◌}
use Rattle.mig_top.specs.Common.{AreFlights, Cell, Image, InputLists, MoveFault, Outcome, State, Tells, fault_outcome, flights}
use Rattle.mig_mover.specs.Moves.{IsLanded}
use Rattle.mig_top.specs.Calls.{Call}

-- the fault for which what reads may give, once each copy in flight has ended, shows a cause
pub record IsShownFault (input : InputLists) (store : State) (Shows : Image → MoveFault → Type 0) (o : Outcome) : Type 0 where
  pub fault : MoveFault
  pub is : o ≡ fault_outcome input fault
  pub image : Image
  pub landed : IsLanded store image
  -- it is one that a crash may leave, where images are told
  pub left : store.may_leave store.reads → store.may_leave image
  pub shows : Shows image fault

-- the cells are told, and so are those that copies in flight read; these are between slots
pub record TellsStill (P : Cell → Type 0) (store : State) : Type 0 where
  pub cells : Tells P store.reads
  pub slots : AreFlights (flights store)
  pub sources : All (λ c. IsSome (store.reads c.from)) (flights store)

-- the store is as it was
pub record IsUntouched (old new : State) : Type 0 where
  pub reads : new.reads ≡ old.reads
  pub leaves : (image : Image) → new.may_leave image → old.may_leave image
  pub left : (image : Image) → old.may_leave image → new.may_leave image
  pub moment : new.moment ≡ old.moment
  pub since : (t : ℕ) (image : Image) → new.left_since t image → old.left_since t image
  pub left_since : (t : ℕ) (image : Image) → old.left_since t image → new.left_since t image
  pub events : new.events ≡ old.events
  pub faults : new.faults ≡ old.faults

-- nothing was written: each image that a crash at some moment since may have left is one that a crash before it might leave
abbrev pub WroteNothing : State → State → Type 0
WroteNothing old new = (image : Image) → new.left_since old.moment image → old.may_leave image

-- With a status other than 0, 5 and 6 nothing was written to the store.
abbrev pub WritesLast : Call → ℕ → Type 0
WritesLast k status = status ≢ 0 → status ≢ 5 → status ≢ 6 → WroteNothing k.before.store k.after.store

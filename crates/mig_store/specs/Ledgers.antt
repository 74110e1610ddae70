-- What a record of calls stands for.
use Rattle.std.specs.Prelude.{◌≡◌, ◌≤◌, ◌++◌, Bool, true, false, ℕ, List, [], ◌∷◌, All, Option, Some, if◌then◌else◌, IfSome, length, take, fold}
use Rattle.std.specs.Option.{option_map, IsSomeAnd}
use Rattle.mig_base.specs.declared.cells.Cell.{Cell}
use Rattle.mig_base.specs.declared.cells.Event.{Event}
use Rattle.mig_base.specs.declared.cells.Event.TheVariants.{Began, Ended}
use Rattle.mig_base.specs.declared.cells.Flight.{Flight}
use Rattle.mig_base.specs.Cells.{cell_len}
use Rattle.mig_base.specs.Images.{Image, SameBut}
use Rattle.mig_base.specs.Flights.{after_events, AreFlights}
use Rattle.mig_base.specs.Stores.{State}
use Rattle.mig_store.specs.Calls.{StoreCall, Wrote, Copies, Lands, Synced}
use Rattle.mig_store.specs.declared.held.Held.{Held}
use Rattle.mig_store.specs.Asking.{CellBytes, fresh, ask, land, settle}
use Rattle.mig_store.specs.HeldCells.{held_at, change_at}

-- the cells that are told, and the events so far
pub record Moment : Type 0 where
  pub cells : Cell → Option CellBytes
  pub events : List Event

-- whether the call is a sync
abbrev pub is_sync : StoreCall → Bool
is_sync Synced = true
is_sync call = false

-- before the first call
abbrev pub begin_with : List (Held (List ℕ)) → Moment
begin_with first = record { cells = λ cell. option_map fresh (held_at first cell); events = [] }

-- after one call more
abbrev pub after_call : Moment → StoreCall → Moment
after_call m (Wrote cell bytes done) = record { cells = change_at (ask bytes done) cell m.cells; events = m.events }
after_call m (Copies from to bytes done) = record { cells = change_at (ask bytes false) to m.cells; events = if done then m.events ++ Began from to ∷ [] else m.events }
after_call m (Lands from to) = record { cells = change_at land to m.cells; events = m.events ++ Ended from to ∷ [] }
after_call m Synced = record { cells = λ cell. option_map settle (m.cells cell); events = m.events }

-- after these calls
abbrev pub after : List (Held (List ℕ)) → List StoreCall → Moment
after first calls = fold after_call (begin_with first) calls

-- what a read gives
abbrev pub reads : Moment → Image
reads m cell = option_map (λ (c : CellBytes). c.shown) (m.cells cell)

-- the cell was written, or a copy to it was begun, or one of these failed, since the last sync
abbrev pub IsUnsettled : Moment → Cell → Type 0
IsUnsettled m cell = IsSomeAnd (m.cells cell) (λ c. c.unsettled ≡ true)

-- a crash may leave any bytes in the cells that are unsettled
abbrev pub MayLeave : Moment → Image → Type 0
MayLeave m image = SameBut (IsUnsettled m) (reads m) image

-- the copies in flight
abbrev pub flying : Moment → List Flight
flying m = after_events [] m.events

-- a crash at some moment from this one on may have left the image
abbrev pub LeftSince : List (Held (List ℕ)) → List StoreCall → ℕ → Image → Type 0
LeftSince first calls t image = (k : ℕ) × (t ≤ k) × (k ≤ length calls) × MayLeave (after first (take k calls)) image

-- bytes of so many
pub record HaveLength (n : ℕ) (c : CellBytes) : Type 0 where
  pub kept : length c.kept ≡ n
  pub shown : length c.shown ≡ n
  pub asked : length c.asked ≡ n

-- the bytes that the copy reads are asked to be written to its target, which is unsettled
abbrev pub IsLaid : Moment → Flight → Type 0
IsLaid m f = IsSomeAnd (m.cells f.from) (λ source. IsSomeAnd (m.cells f.to) (λ target. (target.asked ≡ source.shown) × (target.unsettled ≡ true)))

-- what every moment keeps
pub record IsMoment (m : Moment) : Type 0 where
  pub lengths : (cell : Cell) → IfSome (m.cells cell) (HaveLength (cell_len cell))
  pub flights : AreFlights (flying m)
  pub laid : All (IsLaid m) (flying m)

-- a record of calls: what the cells held before them, the calls, and the room for calls
pub record Log : Type 0 where
  pub first : List (Held (List ℕ))
  pub calls : List StoreCall
  pub room : ℕ

-- the cells and the events after all of them
abbrev pub moment_of : Log → Moment
moment_of log = after log.first log.calls

-- the lists that stand for the record
pub record IsLog (log : Log) (held : List (Held CellBytes)) (noted : List Event) (aloft : List Flight) : Type 0 where
  pub cells : held_at held ≡ (moment_of log).cells
  pub events : noted ≡ (moment_of log).events
  pub flights : aloft ≡ flying (moment_of log)
  pub moment : IsMoment (moment_of log)
  pub within : length log.calls ≤ log.room
  pub few_events : length noted ≤ length log.calls
  pub few_flights : length aloft ≤ length log.calls

-- the store with this record and so many faults
abbrev pub state_at : List (Held (List ℕ)) → List StoreCall → ℕ → State
state_at first calls faults = record {
  reads = reads (after first calls);
  may_leave = MayLeave (after first calls);
  moment = length calls;
  left_since = LeftSince first calls;
  events = Some (after first calls).events;
  faults = faults;
}

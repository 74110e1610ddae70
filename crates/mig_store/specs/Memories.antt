-- A store in memory, as contracts see it.
use Rattle.std.specs.Prelude.{◌≤◌, ◌+◌, ◌-◌, ◌^◌, ◌++◌, ℕ, zero, suc, min, List, [], ◌∷◌, length, Option, Some, None, IsSome, Result, Ok, Err, slice_get, refl}
use Rattle.std.proofs.Common.{sym, subst, arith}
use Rattle.std.proofs.lemmas.List.{take_all}
use Rattle.mig_base.specs.declared.cells.Cell.{Cell}
use Rattle.mig_base.specs.declared.cells.Flight.{Flight}
use Rattle.mig_base.specs.Stores.{State, IsState}
use Rattle.mig_store.specs.Calls.{Lands, StoreCall, Synced}
use Rattle.mig_store.specs.declared.ends.Landing.{Landing}
use Rattle.mig_store.specs.declared.trouble.Trouble.{Trouble}
use Rattle.mig_store.specs.Ledgers.{Log, after, moment_of, flying, MayLeave, state_at}
use Rattle.mig_store.specs.Orders.{next_end, after_end}

-- its record, the order in which copies end, and the calls that fail
pub record Memory : Type 0 where
  pub log : Log
  pub landing : Landing
  pub trouble : Trouble

-- what it tells
abbrev pub state_of : Memory → State
state_of m = state_at m.log.first m.log.calls m.trouble.faults

pub mem_is_state : (m : Memory) → IsState (state_of m)
mem_is_state m = record {
  counts_now = λ t image le now. (length m.log.calls, le, omega arith, subst (λ (l : List StoreCall). MayLeave (after m.log.first l) image) (sym (take_all (length m.log.calls) m.log.calls (omega arith))) now);
  only_now = λ image left. subst (λ (l : List StoreCall). MayLeave (after m.log.first l) image) (take_all left.0 m.log.calls left.1) left.3;
  reads_left = λ image left. record { same = λ cell out. refl; shape = λ cell. refl };
  shape = λ image left cell. left.shape cell;
}

-- What each call leaves

-- the record has room for so many calls more
abbrev pub HasCallRoom : ℕ → Memory → Type 0
HasCallRoom places m = length m.log.calls + places ≤ m.log.room

-- the record with a call more
abbrev pub pushed : Log → StoreCall → Log
pushed log call = record { first = log.first; calls = log.calls ++ call ∷ []; room = log.room }

-- a copy can be recorded: both cells are told, and there is room
abbrev pub CanCopy : Cell → Cell → Memory → Type 0
CanCopy from to m = HasCallRoom 1 m × IsSome ((state_of m).reads from) × IsSome ((state_of m).reads to)

-- a call that failed counts as a fault
abbrev pub faulted : {T E : Type 0} → Result T E → Trouble → Trouble
faulted (Ok x) t = t
faulted (Err e) t = record t { faults = min (suc t.faults) (2 ^ 64 - 1) }

-- the copies in flight
abbrev pub aloft : Memory → List Flight
aloft m = flying (moment_of m.log)

-- the copy that ends next, where one is in flight
abbrev pub next_flight : Memory → Option Flight
next_flight m = slice_get (aloft m) (next_end m.landing (length (aloft m)))

-- the store after this copy ended
abbrev pub landed : Memory → Option Flight → Memory
landed m None = m
landed m (Some f) = record { log = pushed m.log (Lands f.from f.to); landing = after_end m.landing; trouble = m.trouble }

-- after the next copies ended, so many
abbrev pub land_many : ℕ → Memory → Memory
land_many zero m = m
land_many (suc n) m = landed (land_many n m) (next_flight (land_many n m))

-- after all copies ended and a sync
abbrev pub synced : Memory → Memory
synced m =
    let ended = land_many (length (aloft m)) m in
    record { log = pushed ended.log Synced; landing = ended.landing; trouble = ended.trouble }

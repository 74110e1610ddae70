-- A record with one call more.
use Rattle.mig_store.proofs.Common.{CellBytes, Event, Flight, HaveLength, Held, IfSome, IsLog, IsMoment, IsSome, IsSomeAnd, List, Log, Moment, None, Option, Some, StoreCall, [], after, after_call, ap}
use Rattle.mig_store.proofs.Common.{arith, flying, held_at, length, length-append, moment_of, option_map, refl, subst, sym, ℕ, ◌++◌, ◌+◌, ◌<◌, ◌∙◌, ◌∷◌, ◌≡◌, ◌≤◌}
use Rattle.mig_store.proofs.Moments.{after-push}

-- the moment of a record with one call more
module _ (log : Log) (held held_new : List (Held CellBytes)) (noted noted_new : List Event) (aloft aloft_new : List Flight) (call : StoreCall) (is : IsLog log held noted aloft) (room : length log.calls < log.room)
    (cells : held_at held_new ≡ (after_call (moment_of log) call).cells) (events : noted_new ≡ (after_call (moment_of log) call).events) (flights : aloft_new ≡ flying (after_call (moment_of log) call))
    (moment : IsMoment (after_call (moment_of log) call)) (few_events : length noted_new ≤ length log.calls + 1) (few_flights : length aloft_new ≤ length log.calls + 1) where
  pub logged : (first : List (Held (List ℕ))) (calls : List StoreCall) → first ≡ log.first → calls ≡ log.calls ++ call ∷ [] → IsLog (record { first = first; calls = calls; room = log.room }) held_new noted_new aloft_new
  logged first calls same pushed =
      let long : length calls ≡ length log.calls + 1 = ap (λ (l : List StoreCall). length l) pushed ∙ length-append log.calls (call ∷ []) in
      let m : after log.first calls ≡ after_call (moment_of log) call = ap (after log.first) pushed ∙ after-push log.first log.calls call in
      subst (λ (l : List (Held (List ℕ))). IsLog (record { first = l; calls = calls; room = log.room }) held_new noted_new aloft_new) (sym same) (record {
        cells = cells ∙ ap (λ (n : Moment). n.cells) (sym m);
        events = events ∙ ap (λ (n : Moment). n.events) (sym m);
        flights = flights ∙ ap flying (sym m);
        moment = subst IsMoment (sym m) moment;
        within = omega (arith, long, room);
        few_events = omega (arith, long, few_events);
        few_flights = omega (arith, long, few_flights);
      })

-- a cell shows these bytes
pub shown-is : (o : Option CellBytes) (bytes : List ℕ) → option_map (λ (c : CellBytes). c.shown) o ≡ Some bytes → IsSomeAnd o (λ c. c.shown ≡ bytes)
shown-is None bytes e = cc
shown-is (Some c) bytes e = cc

pub shown-some : (o : Option CellBytes) → IsSome (option_map (λ (c : CellBytes). c.shown) o) → IsSome o
shown-some None some = some
shown-some (Some c) some = refl

-- they have the cell's length
pub shown-length : (n : ℕ) (o : Option CellBytes) (bytes : List ℕ) → option_map (λ (c : CellBytes). c.shown) o ≡ Some bytes → IfSome o (HaveLength n) → length bytes ≡ n
shown-length n None bytes e long = absurd cc
shown-length n (Some c) bytes e long = let is : c.shown ≡ bytes = cc in ap (λ (l : List ℕ). length l) (sym is) ∙ long.shown

-- What a store in memory tells after each kind of call.
use Rattle.mig_store.proofs.Common.{Bool, Cell, Changes, Contains, Copies, Ends, Event, Flight, Held, IfSome, Image, IsCopy, IsMoment, IsPermutation}
use Rattle.mig_store.proofs.Common.{IsTargetOf, Lands, List, StoreCall, Log, MayLeave, Memory, Moment, NoCell, SameBut, Synced, Wrote, [], after}
use Rattle.mig_store.proofs.Common.{after_call, ap, append-nil, arith, began, cell_len, cond, contains_any, ended, ends_one_others, false, filter}
use Rattle.mig_store.proofs.Common.{flights_began, flying, get_or, is_flight, length, moment_of, not, pushed, reads, refl, state_at, state_of, subst}
use Rattle.mig_store.proofs.Common.{suc, sym, target_here, target_right, true, zero, ℕ, ◌++◌, ◌<◌, ◌∙◌, ◌∷◌, ◌≡◌}
use Rattle.mig_store.proofs.Moments.{after-push, unrecorded, recorded}
use Rattle.mig_store.proofs.Steps.{wrote_told, wrote_crash, wrote_shows, asked_told, asked_crash, landed_told, landed_crash, landed_copied}
use Rattle.mig_store.proofs.Steps.{landed_flights, others_gone, synced_told, synced_crash}

module _ (m n : Memory) where
  pub mem_still : (P Q : Cell → Type 0) → n.log ≡ m.log → Changes P Q [] (state_of m) (state_of n)
  mem_still P Q same = subst (λ (l : Log). Changes P Q [] (state_of m) (state_at l.first l.calls n.trouble.faults)) (sym same) (unrecorded P Q m.log.first m.log.calls m.trouble.faults n.trouble.faults)

  module _ (call : StoreCall) (same : n.log ≡ pushed m.log call) where
    pub mem_moment : moment_of n.log ≡ after_call (moment_of m.log) call
    mem_moment = ap moment_of same ∙ after-push m.log.first m.log.calls call

    pub mem_pushed : (P Q : Cell → Type 0) (added : List Event) → SameBut P (reads (moment_of m.log)) (reads (after_call (moment_of m.log) call))
        → ((image : Image) → MayLeave (after_call (moment_of m.log) call) image → (old : Image) × MayLeave (moment_of m.log) old × SameBut Q old image)
        → (after_call (moment_of m.log) call).events ≡ (moment_of m.log).events ++ added → Changes P Q added (state_of m) (state_of n)
    mem_pushed P Q added told crash events = subst (λ (l : Log). Changes P Q added (state_of m) (state_at l.first l.calls n.trouble.faults)) (sym same) (recorded m.log.first m.log.calls call P Q added told crash events m.trouble.faults n.trouble.faults)

  module _ (cell : Cell) (bytes : List ℕ) (done : Bool) (same : n.log ≡ pushed m.log (Wrote cell bytes done)) (is : IsMoment (moment_of m.log)) (fits : length bytes ≡ cell_len cell) where
    pub mem_wrote : Changes (λ c. c ≡ cell) (λ c. c ≡ cell) [] (state_of m) (state_of n)
    mem_wrote = mem_pushed (Wrote cell bytes done) same (λ c. c ≡ cell) (λ c. c ≡ cell) [] (wrote_told (moment_of m.log) is cell bytes done fits) (wrote_crash (moment_of m.log) is cell bytes done fits) (sym (append-nil (moment_of m.log).events))

    pub mem_written : done ≡ true → IfSome ((state_of n).reads cell) (λ told. told ≡ bytes)
    mem_written is_done = subst (λ (x : Moment). IfSome (reads x cell) (λ told. told ≡ bytes)) (sym (mem_moment (Wrote cell bytes done) same))
        (subst (λ (d : Bool). IfSome (reads (after_call (moment_of m.log) (Wrote cell bytes d)) cell) (λ told. told ≡ bytes)) (sym is_done) (wrote_shows (moment_of m.log) cell bytes))

  module _ (f : Flight) (bytes : List ℕ) (done : Bool) (same : n.log ≡ pushed m.log (Copies f.from f.to bytes done)) (is : IsMoment (moment_of m.log)) (fits : length bytes ≡ cell_len f.to) where
    pub mem_asked : Changes (λ c. c ≡ f.to) (λ c. c ≡ f.to) (cond done (began f ∷ []) []) (state_of m) (state_of n)
    mem_asked = mem_pushed (Copies f.from f.to bytes done) same (λ c. c ≡ f.to) (λ c. c ≡ f.to) (cond done (began f ∷ []) []) (asked_told (moment_of m.log) is f bytes done fits) (asked_crash (moment_of m.log) is f bytes done fits) (events_at done)
      where
        events_at : (d : Bool) → cond d ((moment_of m.log).events ++ began f ∷ []) (moment_of m.log).events ≡ (moment_of m.log).events ++ cond d (began f ∷ []) []
        events_at true = refl
        events_at false = sym (append-nil (moment_of m.log).events)

    -- the target of the copy is in flight
    pub mem_moving : done ≡ true → IsTargetOf (flying (moment_of n.log)) f.to
    mem_moving is_done = subst (λ (x : Moment). IsTargetOf (flying x) f.to) (sym (mem_moment (Copies f.from f.to bytes done) same))
        (subst (λ (d : Bool). IsTargetOf (flying (after_call (moment_of m.log) (Copies f.from f.to bytes d))) f.to) (sym is_done)
        (subst (λ (l : List Flight). IsTargetOf l f.to) (sym (flights_began [] (moment_of m.log).events f)) (target_right (flying (moment_of m.log)) (f ∷ []) f.to (target_here f []))))

  module _ (same : n.log ≡ pushed m.log Synced) (is : IsMoment (moment_of m.log)) where
    pub mem_synced : Changes NoCell NoCell [] (state_of m) (state_of n)
    mem_synced = mem_pushed Synced same NoCell NoCell [] (synced_told (moment_of m.log) is) (synced_crash (moment_of m.log) is) (sym (append-nil (moment_of m.log).events))

-- a copy that ends
module _ (first : List (Held (List ℕ))) (calls : List StoreCall) (f : Flight) (is : IsMoment (after first calls)) (has : Contains (flying (after first calls)) f) (a b : ℕ) where
  abbrev next_calls : List StoreCall
  next_calls = calls ++ Lands f.from f.to ∷ []

  next_flights : flying (after first next_calls) ≡ filter (λ c. not (is_flight f c)) (flying (after first calls))
  next_flights = ap flying (after-push first calls (Lands f.from f.to)) ∙ landed_flights (after first calls) is f has

  pub land_ends : Ends (f ∷ []) (state_at first calls a) (state_at first next_calls b)
  land_ends = record {
    change = recorded first calls (Lands f.from f.to) (IsTargetOf (f ∷ [])) NoCell (ended f ∷ []) (landed_told (after first calls) is f has) (landed_crash (after first calls) is f has) refl a b;
    copied = copied;
    gone = gone;
    others = subst (λ (l : List Flight). IsPermutation (flying (after first calls)) (f ∷ l)) (sym next_flights)
        (ends_one_others (flying (after first calls)) has.0 f is.flights.apart has.1 (sym has.2));
  }
    where
      copied : (k : ℕ) (d : Flight) → k < length (f ∷ []) → IsCopy (reads (after first calls) (get_or (f ∷ []) k d).from) (reads (after first next_calls) (get_or (f ∷ []) k d).to)
      copied zero d lt = subst (λ (m : Moment). IsCopy (reads (after first calls) f.from) (reads m f.to)) (sym (after-push first calls (Lands f.from f.to))) (landed_copied (after first calls) is f has)
      copied (suc k) d lt = absurd (omega arith)

      gone : (k : ℕ) (d : Flight) → k < length (f ∷ []) → IsTargetOf (flying (after first next_calls)) (get_or (f ∷ []) k d).to → ⊥
      gone zero d lt any =
          let kept = subst (λ (l : List Flight). IsTargetOf l f.to) next_flights any in
          others_gone (after first calls) is f has kept.1 (contains_any (λ (c : Flight). c.to ≡ f.to) (filter (λ c. not (is_flight f c)) (flying (after first calls))) kept) kept.4
      gone (suc k) d lt any = absurd (omega arith)

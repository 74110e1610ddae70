-- The copies of steps begin and end one by one, each within the limits of its disks.
use Rattle.mig_base.proofs.Common.{Adds, All, AreFlights, AreRounds, IsTrue, IsSome, after_event, after_events, count_by, filter, fold-append, is_flight, is_slot, not, sum_by-cons, touches}
use Rattle.mig_base.proofs.Common.{passes}
use Rattle.mig_base.specs.declared.certs.Side.TheVariants.{Incoming, Outgoing}
use Rattle.mig_base.proofs.Counting.{one}
use Rattle.mig_base.proofs.KeptLimits.{limits_at}
use Rattle.mig_base.proofs.Landing.{is_flight-same}
use Rattle.mig_base.specs.Flights.{AreWithinLimits, transfer_of_flight}
use Rattle.mig_base.specs.InputLists.{IsInRange, disk_at}
use Rattle.mig_base.specs.Transfers.{KeepsLimit, Transfer}
use Rattle.mig_base.specs.declared.inputs.Limits.{Limits}
use Rattle.mig_base.specs.declared.inputs.Limits.TheVariants.{Joint, Split}
use Rattle.mig_live.proofs.ActionLaws.{events_append}
use Rattle.mig_live.proofs.Common.{Action, Bool, Copy, Erase, Event, Flight, InputLists, IsInput, IsTargetOf, List, None, Option, Runs, SetMark, Shift, Some, State, Sync, Task, [], actions_from}
use Rattle.mig_live.proofs.Common.{all_events, ap, append_assoc, arith, began, cases_Bool, copies, drop, ended, erasures, false, false≢true, flight_of, flights, get_or, get_or_default, in_flight}
use Rattle.mig_live.proofs.Common.{is_some, length, map, option_map, refl, round_at, slice_get, slice_get-get_or, slot_of, subst, suc, sym, take, take-append-drop, target_one, true, zero, ℕ}
use Rattle.mig_live.proofs.Common.{⊎_elim, ◌++◌, ◌+◌, ◌<◌, ◌∙◌, ◌∷◌, ◌≡◌, ◌≤◌}
use Rattle.mig_live.proofs.Middle.{copy_apart}
use Rattle.mig_live.specs.Events.{lone_after, lone_copies}
use Rattle.std.proofs.Common.{get_or-drop, length-drop}
use Rattle.std.proofs.lemmas.List.Concat.{flat_map-cons}
use Rattle.std.proofs.lemmas.List.Elements.{All-append, All-map}
use Rattle.std.proofs.lemmas.List.Sorted.{IsPermutation-refl}
use Rattle.std.specs.Prelude.{flat_map}

-- The events of steps are those of their copies

pub lone_rounds : (actions : List Action) → AreRounds (lone_copies actions) (all_events actions)
lone_rounds [] = refl
lone_rounds (Copy c ∷ actions) = (began c ∷ ended c ∷ [], all_events actions, refl, record { order = c ∷ []; each_once = IsPermutation-refl (c ∷ []); is = refl }, lone_rounds actions)
lone_rounds (Sync ∷ actions) = lone_rounds actions
lone_rounds (SetMark n ∷ actions) = lone_rounds actions
lone_rounds (Erase slot ∷ actions) = lone_rounds actions

-- and these are the copies of rounds
module _ (input : InputLists) where
  abbrev lone_of : List Shift → List (List Flight)
  lone_of shifts = map (λ s. flight_of input s ∷ []) shifts

  lone_copied : (shifts : List Shift) (actions : List Action) → lone_copies (copies input shifts ++ actions) ≡ lone_of shifts ++ lone_copies actions
  lone_copied [] actions = refl
  lone_copied (s ∷ shifts) actions = ap (λ (l : List (List Flight)). (flight_of input s ∷ []) ∷ l) (lone_copied shifts actions)

  lone_erased : (shifts : List Shift) (actions : List Action) → lone_copies (erasures input shifts ++ actions) ≡ lone_copies actions
  lone_erased [] actions = refl
  lone_erased (s ∷ shifts) actions = lone_erased shifts actions

  pub lone_from : (n : ℕ) (rounds : List (List Shift)) → lone_copies (actions_from input n rounds) ≡ flat_map (λ shifts. map (λ s. flight_of input s ∷ []) shifts) rounds
  lone_from n [] = refl
  lone_from n (shifts ∷ rounds) = lone_copied shifts (Sync ∷ SetMark (suc n) ∷ (erasures input shifts ++ actions_from input (suc n) rounds))
      ∙ ap (λ (l : List (List Flight)). lone_of shifts ++ l) (lone_erased shifts (actions_from input (suc n) rounds) ∙ lone_from (suc n) rounds)
      ∙ sym (flat_map-cons lone_of shifts rounds)

  pub all_lone : (P : List Flight → Type 0) (rounds : List (List Shift)) → All (λ shifts. All (λ s. P (flight_of input s ∷ [])) shifts) rounds → All P (flat_map (λ shifts. map (λ s. flight_of input s ∷ []) shifts) rounds)
  all_lone P [] all = λ k d lt. absurd (omega (arith, lt))
  all_lone P (shifts ∷ rounds) all = subst (All P) (sym (flat_map-cons lone_of shifts rounds))
      (All-append P (lone_of shifts) (flat_map lone_of rounds) (All-map P (λ s. flight_of input s ∷ []) shifts (all 0 shifts (omega arith))) (all_lone P rounds (λ j d lt. all (suc j) d (omega (arith, lt)))))

  -- a lone copy is within all limits
  at_most_one : (p : Transfer → Bool) (t : Transfer) → count_by p (t ∷ []) ≤ 1
  at_most_one p t = let e = sum_by-cons (λ u. one (p u)) t [] in by (p t) e
    where
      by : (b : Bool) → count_by p (t ∷ []) ≡ one b + count_by p [] → count_by p (t ∷ []) ≤ 1
      by true e = omega (arith, e)
      by false e = omega (arith, e)

  lone_keeps : (limits : Limits) (v : ℕ) (t : Transfer) → IsInRange limits → KeepsLimit limits v (t ∷ [])
  lone_keeps (Joint limit) v t in_range = omega (arith, at_most_one (touches v) t, in_range.0)
  lone_keeps (Split outgoing incoming) v t in_range = (omega (arith, at_most_one (passes Outgoing v) t, in_range.0.0), omega (arith, at_most_one (passes Incoming v) t, in_range.1.0))

  pub lone_within : IsInput input → (c : Flight) → AreWithinLimits input.disks (c ∷ [])
  lone_within valid c v lt = lone_keeps (disk_at input.disks v).limits v (transfer_of_flight input.disks c) (limits_at input valid v lt)

-- Events that are told, and what is in flight after them

flights_then : (old new : Option (List Event)) (added : List Event) → new ≡ option_map (λ before. before ++ added) old → IsSome old → in_flight new ≡ after_events (in_flight old) added
flights_then None new added is told = absurd (false≢true told)
flights_then (Some e) new added is told = ap in_flight is ∙ fold-append after_event [] e added

flights_untold : (old new : Option (List Event)) (added : List Event) → new ≡ option_map (λ before. before ++ added) old → is_some old ≡ false → in_flight new ≡ []
flights_untold None new added is untold = ap in_flight is
flights_untold (Some e) new added is untold = absurd (false≢true (sym untold))

pub kept_by : (P : List Flight → Type 0) → P [] → (old new : State) (added : List Event) → new.events ≡ option_map (λ before. before ++ added) old.events → Adds (λ more. P (after_events (flights old) more)) old new → P (flights new)
kept_by P none old new added change adds = ⊎_elim (λ told. let a = adds told in subst P (sym (flights_then old.events new.events a.0 a.2 told)) a.1)
    (λ untold. subst P (sym (flights_untold old.events new.events added change untold)) none) (cases_Bool (is_some old.events))

-- Sessions

-- the events of a part of steps, and the others
pub split_events : (first made begun rest all : List Action) (n : ℕ) → (first ++ (made ++ begun)) ++ rest ≡ all → (all_events (first ++ made) ++ take n (all_events begun)) ++ (drop n (all_events begun) ++ all_events rest) ≡ all_events all
split_events first made begun rest all n is =
    let e = all_events (first ++ made) in
    let r = all_events rest in
    append_assoc e (take n (all_events begun)) (drop n (all_events begun) ++ r)
    ∙ ap (λ (l : List Event). e ++ l) (sym (append_assoc (take n (all_events begun)) (drop n (all_events begun)) r) ∙ ap (λ (l : List Event). l ++ r) (take-append-drop n (all_events begun)) ∙ sym (events_append begun rest))
    ∙ sym (events_append (first ++ made) (begun ++ rest)) ∙ ap all_events (sym (append_assoc (first ++ made) begun rest) ∙ ap (λ (l : List Action). l ++ rest) (append_assoc first made begun) ∙ is)

pub made_of_all : (m : ℕ) (actions : List Action) → all_events (take m actions) ++ all_events (drop m actions) ≡ all_events actions
made_of_all m actions = sym (events_append (take m actions) (drop m actions)) ∙ ap all_events (take-append-drop m actions)

module _ (task : Task) (valid : IsInput task.input) (runs : Runs task.input task.plan) (k : ℕ) where
  -- the copies are between slots, of which none is another's
  proper : (r place : ℕ) (s : Shift) → r < length task.plan → slice_get (round_at task.plan (suc r)) place ≡ Some s → AreFlights (flight_of task.input s ∷ [])
  proper r place s lt at = record { slots = slots; apart = λ i j d less in_range. absurd (omega (arith, less, in_range)); still = still }
    where
      slots : All (λ c. IsTrue (is_slot c.from) × IsTrue (is_slot c.to)) (flight_of task.input s ∷ [])
      slots zero d in_range = (refl, refl)
      slots (suc j) d in_range = absurd (omega (arith, in_range))

      still : All (λ c. IsTargetOf (flight_of task.input s ∷ []) c.from → ⊥) (flight_of task.input s ∷ [])
      still zero d in_range any = copy_apart task.input valid task.plan runs r lt s place at (sym (target_one (flight_of task.input s) (slot_of task.input s.from) any))
      still (suc j) d in_range any = absurd (omega (arith, in_range))

  pub all_proper : All AreFlights (lone_after task k)
  all_proper = all_lone task.input AreFlights (drop k task.plan) (λ j d lt. of j d (omega (arith, lt, length-drop k task.plan)))
    where
      of : (j : ℕ) (d : List Shift) → k + j < length task.plan → All (λ s. AreFlights (flight_of task.input s ∷ [])) (get_or (drop k task.plan) j d)
      of j d lt = subst (λ (shifts : List Shift). All (λ s. AreFlights (flight_of task.input s ∷ [])) shifts) (sym (get_or-drop k task.plan j d ∙ get_or_default task.plan (k + j) d [] lt))
          (λ i e less. proper (k + j) i (get_or (round_at task.plan (suc (k + j))) i e) lt (slice_get-get_or (round_at task.plan (suc (k + j))) i e less))

-- once steps are made, none is in flight
lone_landed : (actions : List Action) → after_events [] (all_events actions) ≡ []
lone_landed [] = refl
lone_landed (Copy c ∷ actions) =
    let gone : filter (λ d. not (is_flight c d)) (c ∷ []) ≡ [] = rw (is_flight-same c) refl in
    ap (λ (l : List Flight). after_events l (all_events actions)) gone ∙ lone_landed actions
lone_landed (Sync ∷ actions) = lone_landed actions
lone_landed (SetMark n ∷ actions) = lone_landed actions
lone_landed (Erase slot ∷ actions) = lone_landed actions

pub whole_landed : (mid new : State) (actions : List Action) → flights mid ≡ [] → new.events ≡ option_map (λ before. before ++ all_events actions) mid.events → flights new ≡ []
whole_landed mid new actions landed steps = kept_by (λ (l : List Flight). l ≡ []) refl mid new (all_events actions) steps
    (λ told. (all_events actions, ap (λ (l : List Flight). after_events l (all_events actions)) landed ∙ lone_landed actions, steps))

-- The steps that are left, and what many of them write and add.
use Rattle.mig_live.proofs.Common.{Cell, Changes, ChangesOnly, Event, InputLists, List, NoCell, OnOk, Result, Shift, Some, State, Task, [], ap}
use Rattle.mig_live.proofs.Common.{append-nil, append_assoc, arith, cases_lt, changes_none, changes_then, changes_wider, drop, drop-drop, flight_of}
use Rattle.mig_live.proofs.Common.{inl, inr, length, length-append, length-map, map, on_ok_weaker, refl, round_at, round_size, slice_get}
use Rattle.mig_live.proofs.Common.{slice_get_within, slot_of, steps_after, subst, suc, sym, take, take-add, take-append-drop, zero, ℕ, ◌++◌, ◌+◌, ◌-◌}
use Rattle.mig_live.proofs.Common.{◌<◌, ◌∙◌, ◌∷◌, ◌≡◌, ◌≤◌}
use Rattle.mig_live.specs.Actions.{Action, AllWrite, AreMade, AreMadeInPart, Copy, Erase, IsMade, MakesFirst, SetMark, Sync, Writes, actions_after}
use Rattle.mig_live.specs.Actions.{actions_from, actions_since, all_events, copies, erasures, events_of}
use Rattle.std.proofs.Common.{add-one}
use Rattle.mig_live.proofs.StepCounts.{first_steps, shifts_past, steps_of_rounds}
use Rattle.mig_live.specs.Replies.{AreMadeUpTo}
use Rattle.mig_live.specs.declared.serving.ServeFault.{ServeFault}
use Rattle.mig_live.specs.declared.serving.ServeFault.TheVariants as serve_fault

-- The steps that are left

drop_in : (f : Shift → Action) (shifts : List Shift) (ys : List Action) (p : ℕ) (s : Shift) → slice_get shifts p ≡ Some s → drop p (map f shifts ++ ys) ≡ f s ∷ drop (suc p) (map f shifts ++ ys)
drop_in f [] ys p s at = absurd (let low = slice_get_within [] p s at in omega arith)
drop_in f (t ∷ ts) ys zero s at = let same : t ≡ s = cc in ap (λ (u : Shift). f u ∷ (map f ts ++ ys)) same
drop_in f (t ∷ ts) ys (suc p) s at = drop_in f ts ys p s at

drop_past : (f : Shift → Action) (shifts : List Shift) (ys : List Action) (p n : ℕ) → p ≡ length shifts + n → drop p (map f shifts ++ ys) ≡ drop n ys
drop_past f [] ys p n is = ap (λ (m : ℕ). drop m ys) (let e : p ≡ n = omega (arith, is) in e)
drop_past f (t ∷ ts) ys zero n is = absurd (omega (arith, is))
drop_past f (t ∷ ts) ys (suc p) n is = drop_past f ts ys p n (omega (arith, is))

module _ (input : InputLists) where
  pub after_round : (n k : ℕ) (plan : List (List Shift)) → k < length plan
      → actions_from input n (drop k plan) ≡ copies input (round_at plan (suc k)) ++ (Sync ∷ SetMark (suc n) ∷ (erasures input (round_at plan (suc k)) ++ actions_from input (suc n) (drop (suc k) plan)))
  after_round n k [] lt = absurd (omega (arith, lt))
  after_round n zero (r ∷ rs) lt = refl
  after_round n (suc k) (r ∷ rs) lt = after_round n k rs (omega (arith, lt))

  pub after_last : (n k : ℕ) (plan : List (List Shift)) → length plan ≤ k → actions_from input n (drop k plan) ≡ Sync ∷ []
  after_last n zero [] le = refl
  after_last n (suc k) [] le = refl
  after_last n zero (r ∷ rs) le = absurd (omega (arith, le))
  after_last n (suc k) (r ∷ rs) le = after_last n k rs (omega (arith, le))

module _ (task : Task) (k : ℕ) where
  pub left_erase : (p : ℕ) (s : Shift) → slice_get (round_at task.plan k) p ≡ Some s → drop p (actions_since task k) ≡ Erase (slot_of task.input s.from) ∷ drop (p + 1) (actions_since task k)
  left_erase p s at = rw add-one (drop_in (λ s. Erase (slot_of task.input s.from)) (round_at task.plan k) (actions_after task k) p s at)

  pub past_erasures : (p place : ℕ) → p ≡ round_size task.plan k + place → drop p (actions_since task k) ≡ drop place (actions_after task k)
  past_erasures p place is = drop_past (λ s. Erase (slot_of task.input s.from)) (round_at task.plan k) (actions_after task k) p place is

  module _ (lt : k < length task.plan) where
    abbrev rest : List Action
    rest = Sync ∷ SetMark (suc k) ∷ actions_since task (suc k)

    these : actions_after task k ≡ copies task.input (round_at task.plan (suc k)) ++ rest
    these = after_round task.input k k task.plan lt

    pub left_copy : (place : ℕ) (s : Shift) → slice_get (round_at task.plan (suc k)) place ≡ Some s → drop place (actions_after task k) ≡ Copy (flight_of task.input s) ∷ drop (place + 1) (actions_after task k)
    left_copy place s at = rw add-one (subst (λ (l : List Action). drop place l ≡ Copy (flight_of task.input s) ∷ drop (suc place) l) (sym these)
        (drop_in (λ s. Copy (flight_of task.input s)) (round_at task.plan (suc k)) rest place s at))

    past_copies : (p n : ℕ) → p ≡ round_size task.plan (suc k) + n → drop p (actions_after task k) ≡ drop n rest
    past_copies p n is = ap (λ (l : List Action). drop p l) these ∙ drop_past (λ s. Copy (flight_of task.input s)) (round_at task.plan (suc k)) rest p n is

    left_sync : (p : ℕ) → p ≡ round_size task.plan (suc k) → drop p (actions_after task k) ≡ Sync ∷ drop (p + 1) (actions_after task k)
    left_sync p is = past_copies p 0 (omega (arith, is)) ∙ ap (λ (l : List Action). Sync ∷ l) (sym (past_copies (p + 1) 1 (omega (arith, is))))

    pub left_mark : (p next : ℕ) → p ≡ round_size task.plan k + round_size task.plan (suc k) + 1 → next ≡ suc k → drop p (actions_since task k) ≡ SetMark next ∷ actions_since task next
    left_mark p next is same = subst (λ (n : ℕ). drop p (actions_since task k) ≡ SetMark n ∷ actions_since task n) (sym same)
        (past_erasures p (round_size task.plan (suc k) + 1) (omega (arith, is)) ∙ past_copies (round_size task.plan (suc k) + 1) 1 (omega arith))

  -- a sync comes after the copies of a round, and after the erasures of the last one
  pub syncs_next : (p : ℕ) → p ≡ round_size task.plan (suc k) → drop p (actions_after task k) ≡ Sync ∷ drop (p + 1) (actions_after task k)
  syncs_next p is = elim (cases_lt k (length task.plan)) [
    | inl lt ↦ left_sync lt p is
    | inr past ↦ subst (λ (l : List Action). drop p l ≡ Sync ∷ drop (p + 1) l) (sym (after_last task.input k k task.plan past))
        (subst (λ (n : ℕ). drop n (Sync ∷ []) ≡ Sync ∷ drop (n + 1) (Sync ∷ [])) (sym (is ∙ shifts_past task.plan k past)) refl)
  ]

-- how many steps there are
count_from : (input : InputLists) (n : ℕ) (rounds : List (List Shift)) → length (actions_from input n rounds) ≡ steps_of_rounds rounds + 1
count_from input n [] = refl
count_from input n (shifts ∷ rounds) =
    let tail = actions_from input (suc n) rounds in
    omega (
      arith,
      length-append (copies input shifts) (Sync ∷ SetMark (suc n) ∷ (erasures input shifts ++ tail)),
      length-append (erasures input shifts) tail,
      length-map shifts (λ s. Copy (flight_of input s)),
      length-map shifts (λ s. Erase (slot_of input s.from)),
      first_steps shifts rounds,
      count_from input (suc n) rounds,
    )

pub count_since : (task : Task) (k : ℕ) → length (actions_since task k) ≡ round_size task.plan k + steps_after task.plan k
count_since task k = omega (
  arith,
  length-append (erasures task.input (round_at task.plan k)) (actions_after task k),
  length-map (round_at task.plan k) (λ s. Erase (slot_of task.input s.from)),
  count_from task.input k (drop k task.plan),
)

-- Many steps

pub write_left : (xs ys : List Action) (cell : Cell) → AllWrite xs cell → AllWrite (xs ++ ys) cell
write_left [] ys cell any = absurd any
write_left (x ∷ xs) ys cell (inl here) = inl here
write_left (x ∷ xs) ys cell (inr there) = inr (write_left xs ys cell there)

pub write_right : (xs ys : List Action) (cell : Cell) → AllWrite ys cell → AllWrite (xs ++ ys) cell
write_right [] ys cell any = any
write_right (x ∷ xs) ys cell any = inr (write_right xs ys cell any)

pub events_append : (xs ys : List Action) → all_events (xs ++ ys) ≡ all_events xs ++ all_events ys
events_append [] ys = refl
events_append (x ∷ xs) ys = ap (λ (l : List Event). events_of x ++ l) (events_append xs ys) ∙ sym (append_assoc (events_of x) (all_events xs) (all_events ys))

-- steps, and then other changes
then_changes : (xs ys : List Action) (added : List Event) (old mid new : State) → AreMade xs old mid → Changes (AllWrite ys) (AllWrite ys) added mid new → Changes (AllWrite (xs ++ ys)) (AllWrite (xs ++ ys)) (all_events xs ++ added) old new
then_changes xs ys added old mid new made change = changes_then (AllWrite (xs ++ ys)) (AllWrite (xs ++ ys)) (all_events xs) added old mid new
    (changes_wider (AllWrite (xs ++ ys)) (AllWrite (xs ++ ys)) (AllWrite xs) (AllWrite xs) (write_left xs ys) (write_left xs ys) (all_events xs) old mid made)
    (changes_wider (AllWrite (xs ++ ys)) (AllWrite (xs ++ ys)) (AllWrite ys) (AllWrite ys) (write_right xs ys) (write_right xs ys) added mid new change)

pub made_none : (s : State) → AreMade [] s s
made_none s = changes_none (AllWrite []) (AllWrite []) s

pub made_quiet : (old new : State) → ChangesOnly NoCell old new → AreMade [] old new
made_quiet old new quiet = changes_wider (AllWrite []) (AllWrite []) NoCell NoCell (λ cell out. absurd out) (λ cell out. absurd out) [] old new quiet

pub made_then : (xs ys : List Action) (old mid new : State) → AreMade xs old mid → AreMade ys mid new → AreMade (xs ++ ys) old new
made_then xs ys old mid new first second = subst (λ (l : List Event). Changes (AllWrite (xs ++ ys)) (AllWrite (xs ++ ys)) l old new) (sym (events_append xs ys)) (then_changes xs ys (all_events ys) old mid new first second)

pub made_one : (a : Action) (old new : State) → IsMade a old new → AreMade (a ∷ []) old new
made_one a old new made = subst (λ (l : List Event). Changes (AllWrite (a ∷ [])) (AllWrite (a ∷ [])) l old new) (sym (append-nil (events_of a)))
    (changes_wider (AllWrite (a ∷ [])) (AllWrite (a ∷ [])) (Writes a) (Writes a) (λ cell here. inl here) (λ cell here. inl here) (events_of a) old new made.change)

-- steps are made, and then of others some
part_change : (xs ys : List Action) (old mid new : State) → AreMade xs old mid → (p : AreMadeInPart [] ys mid new)
    → Changes (AllWrite (xs ++ (p.made ++ p.begun))) (AllWrite (xs ++ (p.made ++ p.begun))) (all_events (xs ++ p.made) ++ take p.events (all_events p.begun)) old new
part_change xs ys old mid new first p = subst (λ (l : List Event). Changes (AllWrite (xs ++ (p.made ++ p.begun))) (AllWrite (xs ++ (p.made ++ p.begun))) l old new)
    (sym (append_assoc (all_events xs) (all_events p.made) (take p.events (all_events p.begun))) ∙ ap (λ (l : List Event). l ++ take p.events (all_events p.begun)) (sym (events_append xs p.made)))
    (then_changes xs (p.made ++ p.begun) (all_events p.made ++ take p.events (all_events p.begun)) old mid new first p.change)

-- the first m steps, of the next s some, and the others are all
pub part_of_all : (m s : ℕ) (all : List Action) (old new : State) → (p : AreMadeInPart (take m all) (take s (drop m all)) old new) → (take m all ++ (p.made ++ p.begun)) ++ (p.left ++ drop s (drop m all)) ≡ all
part_of_all m s all old new p =
    append_assoc (take m all) (p.made ++ p.begun) (p.left ++ drop s (drop m all))
    ∙ ap (λ (l : List Action). take m all ++ l) (
    sym (append_assoc (p.made ++ p.begun) p.left (drop s (drop m all)))
    ∙ ap (λ (l : List Action). l ++ drop s (drop m all)) (append_assoc p.made p.begun p.left ∙ sym p.are)
    ∙ take-append-drop s (drop m all))
    ∙ take-append-drop m all

-- these may be told as some of all
pub part_within : (xs ys rest all : List Action) (old mid new : State) → all ≡ xs ++ (ys ++ rest) → AreMade xs old mid → AreMadeInPart [] ys mid new → AreMadeInPart [] all old new
part_within xs ys rest all old mid new is first p = record {
  made = xs ++ p.made;
  begun = p.begun;
  left = p.left ++ rest;
  are = is ∙ ap (λ (l : List Action). xs ++ (l ++ rest)) p.are ∙ ap (λ (l : List Action). xs ++ l) (append_assoc p.made (p.begun ++ p.left) rest ∙ ap (λ (l : List Action). p.made ++ l) (append_assoc p.begun p.left rest))
      ∙ sym (append_assoc xs p.made (p.begun ++ (p.left ++ rest)));
  one = p.one;
  events = p.events;
  change = subst (λ (zs : List Action). Changes (AllWrite zs) (AllWrite zs) (all_events (xs ++ p.made) ++ take p.events (all_events p.begun)) old new) (sym (append_assoc xs p.made p.begun)) (part_change xs ys old mid new first p);
}

-- a step that fails after so many others
pub part_after : (m count : ℕ) (actions : List Action) (old mid new : State) → m < count → AreMade (take m actions) old mid → AreMadeInPart [] (take 1 (drop m actions)) mid new → AreMadeInPart [] (take count actions) old new
part_after m count actions old mid new lt made p = part_within (take m actions) (take 1 (drop m actions)) (take (count - (m + 1)) (drop 1 (drop m actions))) (take count actions) old mid new
    (ap (λ (n : ℕ). take n actions) (let e : count ≡ m + (1 + (count - (m + 1))) = omega (arith, lt) in e)
    ∙ take-add m (1 + (count - (m + 1))) actions ∙ ap (λ rest. take m actions ++ rest) (take-add 1 (count - (m + 1)) (drop m actions))) made p

-- one more step
pub made_more : (m : ℕ) (actions now left : List Action) (old mid new : State) → now ≡ drop m actions → AreMade (take m actions) old mid
    → (a : Action) × (now ≡ a ∷ left) × IsMade a mid new → AreMade (take (m + 1) actions) old new × (left ≡ drop (m + 1) actions)
made_more m actions now left old mid new rest first (a, next, one) =
    let is = sym next ∙ rest in (
      subst (λ (l : List Action). AreMade l old new) (ap (λ (l : List Action). take m actions ++ take 1 l) is ∙ sym (take-add m 1 actions))
          (made_then (take m actions) (a ∷ []) old mid new first (made_one a mid new one)),
      ap (λ (l : List Action). drop 1 l) is ∙ drop-drop 1 m actions,
    )

-- many more
pub made_many : (m n : ℕ) (actions : List Action) (old mid new : State) → AreMade (take m actions) old mid → AreMade (take n (drop m actions)) mid new → AreMade (take (m + n) actions) old new
made_many m n actions old mid new first more = subst (λ (l : List Action). AreMade l old new) (sym (take-add m n actions)) (made_then (take m actions) (take n (drop m actions)) old mid new first more)

-- One step

-- it is made, or a part of it
pub makes : {T E : Type 0} (result : Result T E) (actions left : List Action) (a : Action) (old new : State) → actions ≡ a ∷ left → (n : ℕ) → Changes (Writes a) (Writes a) (take n (events_of a)) old new
    → OnOk result (IsMade a old new) → MakesFirst actions left old new result
makes result actions left a old new is n change made = record {
  made = on_ok_weaker result (λ m. (a, is, m)) made;
  part = record {
    made = [];
    begun = a ∷ [];
    left = [];
    are = ap (λ (l : List Action). take 1 l) is;
    one = omega arith;
    events = n;
    change = subst (λ (l : List Event). Changes (AllWrite (a ∷ [])) (AllWrite (a ∷ [])) (take n l) old new) (sym (append-nil (events_of a)))
        (changes_wider (AllWrite (a ∷ [])) (AllWrite (a ∷ [])) (Writes a) (Writes a) (λ cell here. inl here) (λ cell here. inl here) (take n (events_of a)) old new change);
  };
}

-- the same of other names for these lists
pub makes_same : {T E : Type 0} (result : Result T E) (actions left others rest : List Action) (old new : State) → others ≡ actions → rest ≡ left → MakesFirst actions left old new result → MakesFirst others rest old new result
makes_same result actions left others rest old new is same makes = subst (λ (l : List Action). MakesFirst l rest old new result) (sym is) (subst (λ (l : List Action). MakesFirst actions l old new result) (sym same) makes)

-- an order of which no step is made
pub none_up_to : (others : List Action) (old new : State) (fault : ServeFault) → AreMade [] old new → AreMadeUpTo [] others old new fault
none_up_to others old new serve_fault.Store none =
    record { made = []; begun = []; left = others; are = refl; one = omega arith; events = 0; change = none }
none_up_to others old new serve_fault.Sink none = none

-- an order after others
pub made_up_to : (xs ys : List Action) (old mid new : State) (fault : ServeFault) → AreMade xs old mid → AreMadeUpTo [] ys mid new fault → AreMadeUpTo xs ys old new fault
made_up_to xs ys old mid new serve_fault.Store first p =
    let change = part_change xs ys old mid new first p in
    record { made = p.made; begun = p.begun; left = p.left; are = p.are; one = p.one; events = p.events; change = change }
made_up_to xs ys old mid new serve_fault.Sink first none = subst (λ (l : List Action). AreMade l old new) (append-nil xs) (made_then xs [] old mid new first none)

-- What the calls of a session keep.
use Rattle.mig_live.proofs.Common.{Action, All, AllWrite, AreMadeInPart, Bool, Cell, ChangesOnly, Contents, Enters, Image, InStep, IsAmongTargets, IsAtStep, IsInput, IsJobCell}
use Rattle.mig_live.proofs.Common.{InputLists, IsLoose, IsMade, IsReached, IsSession, IsSettled, IsSound, IsSoundAfter, IsTask, IsUnderway, IsUnsynced, LeavesOnly, List, Looks}
use Rattle.mig_live.proofs.Common.{NoCell, Runs, SameBut, ServeFault, Session, SettledBut, SettlesTo, Shift, Some, State, Task, Tells, [], actions_left, actions_since, ap}
use Rattle.mig_live.proofs.Common.{append_assoc, arith, cases_lt, changes_wider, done_in, drop, drop_all, eqb-true, flights_same, get_or, inl, inr, is_synced, leaves_then}
use Rattle.mig_live.proofs.Common.{length, look_quiet, marks_by, reached, refl, round_at, round_size, same_image, same_wider, settled_change, slice_get-get_or, slice_get_within}
use Rattle.mig_live.proofs.Common.{slot_of, steps_after, steps_in, subst, suc, sym, take, true, zero, zeros, ℕ, ◌*◌, ◌++◌, ◌+◌, ◌-◌, ◌<◌, ◌↔◌, ◌∙◌, ◌∷◌, ◌≡◌, ◌≤◌, ◌⊎◌}
use Rattle.mig_live.proofs.ActionLaws.{count_since}
use Rattle.mig_live.proofs.Middle.{from_done, way_on}
use Rattle.mig_live.proofs.StepCounts.{marks_after, marks_before, marks_none, shifts_past, steps_fall, steps_from, steps_last, steps_more, steps_next}
use Rattle.mig_live.specs.Replies.{AreMadeUpTo, IsLeftAfter, LeavesAfter, telling}
use Rattle.mig_live.specs.declared.serving.ServeFault.TheVariants as serve_fault

module _ (asked : Bool) (input : InputLists) (plan : List (List Shift)) (digest : List ℕ) (contents : Contents) (k : ℕ) (old new : State) where
  settled_quiet : (P : Cell → Type 0) → ChangesOnly NoCell old new → SettledBut P old → SettledBut P new
  settled_quiet P quiet = settled_change P [] old new (changes_wider P P NoCell NoCell (λ cell none. absurd none) (λ cell none. absurd none) [] old new quiet)

  -- where nothing is written and no event comes, nothing changes
  pub step_quiet : (p : ℕ) → ChangesOnly NoCell old new → IsAtStep asked input plan digest contents old k p → IsAtStep asked input plan digest contents new k p
  step_quiet p quiet at = record {
    underway = way_on asked input plan digest contents k old new p _ (same_image old.reads new.reads quiet.told) (settled_quiet (IsLoose input plan k p (p - round_size plan k)) quiet at.underway.settled)
        (flights_same old new quiet.events ∙ at.underway.landed) at.underway;
    synced = λ high. settled_quiet NoCell quiet (at.synced high);
  }

  -- a look changes nothing
  pub step_looked : (p : ℕ) → Looks old new → IsAtStep asked input plan digest contents old k p → IsAtStep asked input plan digest contents new k p
  step_looked p look at = step_quiet p (look_quiet old new at.underway.landed look) at

-- Steps

module _ (task : Task) (marked left done : ℕ) (sum : done + left ≡ round_size task.plan marked + steps_after task.plan marked) where
  abbrev pub session : Session
  session = record { task = task; marked = marked; left = left }

  pub done_is : done_in session ≡ done
  done_is = omega (arith, sum)

  -- where all steps up to the next mark are done and one is left, a round is left
  pub round_left : marked ≤ length task.plan → done ≡ steps_in task.plan marked → 0 < left → marked < length task.plan
  round_left most full some = elim (cases_lt marked (length task.plan)) [
    | inl lt ↦ lt
    | inr past ↦ absurd (omega (arith, sum, full, some, steps_last task.plan marked past, shifts_past task.plan marked past))
  ]

  -- what a session keeps
  pub kept_mark : marked < length task.plan → done ≡ steps_in task.plan marked
      → 0 + (left - 1) ≡ round_size task.plan (marked + 1) + steps_after task.plan (marked + 1)
  kept_mark lt full =
      let next : suc marked ≡ marked + 1 = omega arith in
      omega (arith, sum, full, ap (round_size task.plan) next, steps_more task.plan marked lt)

  -- the steps that are left
  pub left_here : (live : Session) → live ≡ session → (p : ℕ) → done ≡ p → actions_left live ≡ drop p (actions_since task marked)
  left_here live it p here = ap actions_left it ∙ ap (λ (n : ℕ). drop n (actions_since task marked)) (done_is ∙ here)

  module _ (live : Session) (it : live ≡ session) where
    pub at_mark : is_synced live ≡ true → done ≡ steps_in task.plan marked
    at_mark is = sym done_is ∙ eqb-true (done_in session) (steps_in task.plan marked) (ap is_synced (sym it) ∙ is)

    pub some_left : 0 < live.left → 0 < left
    some_left = subst (λ (l : Session). 0 < l.left) it

    module _ (old new : State) (p : ℕ) (here : done ≡ p) where
      before_step : (asked : Bool) (contents : Contents) → InStep asked live contents old → IsAtStep asked task.input task.plan task.digest contents old marked p
      before_step asked contents at = subst (IsAtStep asked task.input task.plan task.digest contents old marked) (done_is ∙ here) (subst (λ (l : Session). InStep asked l contents old) it at)

      pub any_step : ((asked : Bool) (contents : Contents) → IsAtStep asked task.input task.plan task.digest contents old marked p → LeavesOnly (IsSound asked task.input task.plan task.digest contents) old new)
          → (asked : Bool) (contents : Contents) → InStep asked live contents old → LeavesOnly (IsSound asked live.task.input live.task.plan live.task.digest contents) old new
      any_step gives asked contents at = subst (λ (l : Session). LeavesOnly (IsSound asked l.task.input l.task.plan l.task.digest contents) old new) (sym it) (gives asked contents (before_step asked contents at))

      pub within_step : 0 < left → ((asked : Bool) (contents : Contents) → IsAtStep asked task.input task.plan task.digest contents old marked p → IsAtStep asked task.input task.plan task.digest contents new marked (p + 1))
          → (asked : Bool) (contents : Contents) → InStep asked live contents old → InStep asked (record { task = task; marked = marked; left = left - 1 }) contents new
      within_step some gives asked contents at = subst (IsAtStep asked task.input task.plan task.digest contents new marked) (let e : p + 1 ≡ round_size task.plan marked + steps_after task.plan marked - (left - 1) = omega (arith, sum, here, some) in e)
          (gives asked contents (before_step asked contents at))

      pub mark_step : marked < length task.plan → p ≡ steps_in task.plan marked → ((asked : Bool) (contents : Contents) → IsAtStep asked task.input task.plan task.digest contents old marked p → IsAtStep asked task.input task.plan task.digest contents new (marked + 1) 0)
          → (asked : Bool) (contents : Contents) → InStep asked live contents old → InStep asked (record { task = task; marked = marked + 1; left = left - 1 }) contents new
      mark_step lt full gives asked contents at =
          let next = kept_mark lt (here ∙ full) in
          let e : 0 ≡ round_size task.plan (marked + 1) + steps_after task.plan (marked + 1) - (left - 1) = omega (arith, next) in
          subst (IsAtStep asked task.input task.plan task.digest contents new (marked + 1)) e (gives asked contents (before_step asked contents at))

-- A step is the first of those that are left
module _ (task : Task) (marked left done : ℕ) (sum : done + left ≡ round_size task.plan marked + steps_after task.plan marked) (live : Session) (it : live ≡ record { task = task; marked = marked; left = left })
    (p : ℕ) (here : done ≡ p) (old new : State) where
  pub part_here : AreMadeInPart [] (take 1 (drop p (actions_since task marked))) old new → AreMadeInPart [] (take 1 (actions_left live)) old new
  part_here = subst (λ (l : List Action). AreMadeInPart [] (take 1 l) old new) (sym (left_here task marked left done sum live it p here))

  pub made_here : (rest : List Action) (k more since : ℕ) → since + more ≡ round_size task.plan k + steps_after task.plan k → rest ≡ drop since (actions_since task k)
      → (a : Action) × (drop p (actions_since task marked) ≡ a ∷ rest) × IsMade a old new
      → (a : Action) × (actions_left live ≡ a ∷ actions_left (record { task = task; marked = k; left = more })) × IsMade a old new
  made_here rest k more since total is (a, first, made) = (
    a,
    left_here task marked left done sum live it p here ∙ first ∙ ap (λ (l : List Action). a ∷ l) (is ∙ sym (left_here task k more since total (record { task = task; marked = k; left = more }) refl since refl)),
    made,
  )

-- with no step left there is none
pub none_left : (live : Session) → live.left ≡ 0 → actions_left live ≡ []
none_left live none = drop_all (done_in live) (actions_since live.task live.marked) (omega (arith, none, count_since live.task live.marked))

-- Entering

module _ (task : Task) (is : IsTask task) (marked left : ℕ) (count : left ≡ steps_after task.plan marked) (asked : Bool) (contents : Contents) (old new : State) where
  pub entered : Enters task old new marked → Tells (IsJobCell task.input task.plan) old.reads → SettlesTo (IsSound asked task.input task.plan task.digest contents) old
      → InStep asked (record { task = task; marked = marked; left = left }) contents new
  entered enters tells settles = record {
    underway = subst (IsUnderway asked task.input task.plan task.digest contents new marked done) (let e : 0 ≡ done - round_size task.plan marked = omega (arith, count) in e)
        (from_done task.input is.valid task.plan is.runs task.digest contents marked enters.most asked new done (omega (arith, count)) enters.landed (enters.done asked contents tells settles));
    synced = λ high. absurd (omega (arith, count));
  }
    where
      done : ℕ
      done = round_size task.plan marked + steps_after task.plan marked - left

-- The end

module _ (live : Session) (valid : IsInput live.task.input) (runs : Runs live.task.input live.task.plan) (keeps : IsSession live) (none : live.left ≡ 0) (asked : Bool) (contents : Contents) (s : State) (at : InStep asked live contents s) where
  all_marked : live.marked ≡ length live.task.plan
  all_marked = elim (cases_lt live.marked (length live.task.plan)) [
    | inl lt ↦ absurd (let high = keeps.high in omega (arith, high, none, steps_next live.task.plan live.marked lt))
    | inr past ↦ (let most = keeps.most in omega arith)
  ]

  last_full : steps_in live.task.plan live.marked ≤ done_in live
  last_full = omega (arith, none, steps_last live.task.plan live.marked (omega (arith, all_marked)), shifts_past live.task.plan live.marked (omega (arith, all_marked)))

  -- no shift comes after the last round
  no_shift : (c : ℕ) (cell : Cell) → IsAmongTargets live.task.input c (round_at live.task.plan (suc live.marked)) cell → ⊥
  no_shift c cell (t, among, same) =
      let past = shifts_past live.task.plan live.marked (omega (arith, all_marked)) in
      let low = slice_get_within (round_at live.task.plan (suc live.marked)) among.0 t among.2 in
      absurd (omega arith)

  last_erased : All (λ m. s.reads (slot_of live.task.input m.from) ≡ Some zeros) (round_at live.task.plan live.marked)
  last_erased = λ j d lt. at.underway.erased (get_or (round_at live.task.plan live.marked) j d) (j, omega (arith, lt, last_full), slice_get-get_or (round_at live.task.plan live.marked) j d lt)
      (no_shift (done_in live - round_size live.task.plan live.marked) (slot_of live.task.input (get_or (round_at live.task.plan live.marked) j d).from))

  pub last_settled : IsSettled s
  last_settled = at.synced last_full

  pub last_reached : asked ≡ true → IsReached live.task.input live.task.plan live.task.digest contents s.reads
  last_reached is_asked = reached live.task.input valid live.task.plan runs live.task.digest contents s.reads
      (subst (IsSoundAfter true live.task.input live.task.plan live.task.digest contents s.reads) all_marked
      (subst (λ (b : Bool). IsSoundAfter b live.task.input live.task.plan live.task.digest contents s.reads live.marked) is_asked at.underway.sound))
      (subst (λ (n : ℕ). All (λ m. s.reads (slot_of live.task.input m.from) ≡ Some zeros) (round_at live.task.plan n)) all_marked last_erased)

-- Many steps

pub more_steps : (first live : Session) → live.task ≡ first.task → (old mid new : State)
    → ((asked : Bool) (contents : Contents) → InStep asked first contents old → LeavesOnly (IsSound asked first.task.input first.task.plan first.task.digest contents) old mid)
    → ((asked : Bool) (contents : Contents) → InStep asked first contents old → InStep asked live contents mid)
    → ((asked : Bool) (contents : Contents) → InStep asked live contents mid → LeavesOnly (IsSound asked live.task.input live.task.plan live.task.digest contents) mid new)
    → (asked : Bool) (contents : Contents) → InStep asked first contents old → LeavesOnly (IsSound asked first.task.input first.task.plan first.task.digest contents) old new
more_steps first live same old mid new sofar in_step step asked contents at = leaves_then (IsSound asked first.task.input first.task.plan first.task.digest contents) old mid new (sofar asked contents at)
    (subst (λ (t : Task). LeavesOnly (IsSound asked t.input t.plan t.digest contents) mid new) same (step asked contents (in_step asked contents at)))

-- Marks

-- a round is marked exactly where no more steps are left than come from its mark on
pub marks_by_left : (live : Session) → IsSession live → (r : ℕ) → r ≤ length live.task.plan → (r ≤ live.marked ↔ live.left ≤ round_size live.task.plan r + steps_after live.task.plan r)
marks_by_left live keeps r most = (
  λ le. (let low = keeps.low in omega (arith, low, steps_fall live.task.plan r live.marked le keeps.most)),
  λ few. elim (cases_lt live.marked r) [
    | inl lt ↦ absurd (let high = keeps.high in omega (arith, high, few, steps_next live.task.plan live.marked (omega (arith, lt, most)), steps_fall live.task.plan (suc live.marked) r (omega (arith, lt)) most))
    | inr le ↦ le
  ],
)

module _ (live : Session) (keeps : IsSession live) where
  -- a round that isn't marked
  not_marked : (r : ℕ) → r ≤ length live.task.plan → steps_from live.task.plan r < live.left → live.marked < r
  not_marked r most many = elim (cases_lt live.marked r) [
    | inl lt ↦ lt
    | inr le ↦ (let few = (marks_by_left live keeps r most).0 le in absurd (omega (arith, few, many)))
  ]

  -- so many rounds are marked, and the next one isn't
  these_marked : (found : ℕ) → found ≤ length live.task.plan → live.left ≤ steps_from live.task.plan found
      → (found < length live.task.plan → steps_from live.task.plan (suc found) < live.left) → live.marked ≡ found
  these_marked found most few many =
      let le = (marks_by_left live keeps found most).1 few in
      elim (cases_lt found (length live.task.plan)) [
        | inl lt ↦ omega (arith, le, not_marked (suc found) (omega (arith, lt)) (many lt))
        | inr past ↦ (let top = keeps.most in omega (arith, le, top, past, most))
      ]

  -- so many steps are made since the sources of round k were erased; or none is, and some of these sources are left
  abbrev Left : ℕ → ℕ → Type 0
  Left k n = (live.left ≡ steps_after live.task.plan k - n) ⊎ ((n ≡ 0) × (steps_after live.task.plan k ≤ live.left) × (live.left ≤ steps_from live.task.plan k))

  -- rounds found marked, and those that get their marks by so many steps since
  pub marks_counted : (more found steps : ℕ) → more + found ≡ length live.task.plan → Left found steps → live.marked ≡ found + marks_by (drop found live.task.plan) steps
  marks_counted zero found steps sum left =
      let none = marks_none live.task.plan found steps (omega (arith, sum)) in
      let few : live.left ≤ steps_from live.task.plan found = elim left [ inl is ↦ omega (arith, is) | inr h ↦ (let f = h.2 in omega (arith, f)) ] in
      omega (arith, none, these_marked found (omega (arith, sum)) few (λ lt. absurd (omega (arith, sum, lt))))
  marks_counted (suc more) found steps sum left = elim (cases_lt steps (round_size live.task.plan (suc found) + 2)) [
    | inl before ↦ omega (arith, marks_before live.task.plan found steps lt before, these_marked found (omega (arith, sum)) few (λ _. many before left))
    | inr after ↦ omega (
      arith,
      marks_after live.task.plan found steps lt after,
      marks_counted more (suc found) (steps - (2 * round_size live.task.plan (suc found) + 2)) (omega (arith, sum)) (later after left),
    )
  ]
    where
      lt : found < length live.task.plan
      lt = omega (arith, sum)

      few : live.left ≤ steps_from live.task.plan found
      few = elim left [ inl is ↦ omega (arith, is) | inr h ↦ (let f = h.2 in omega (arith, f)) ]

      many : steps < round_size live.task.plan (suc found) + 2 → Left found steps → steps_from live.task.plan (suc found) < live.left
      many before (inl is) = omega (arith, is, before, steps_next live.task.plan found lt)
      many before (inr h) = let high = h.1 in omega (arith, high, steps_next live.task.plan found lt)

      later : round_size live.task.plan (suc found) + 2 ≤ steps → Left found steps → Left (suc found) (steps - (2 * round_size live.task.plan (suc found) + 2))
      later after (inr h) = let none = h.0 in absurd (omega (arith, none, after))
      later after (inl is) = elim (cases_lt steps (2 * round_size live.task.plan (suc found) + 2)) [
        | inl within ↦ inr (omega (arith, within), omega (arith, is, within, steps_next live.task.plan found lt), omega (arith, is, after, within, steps_next live.task.plan found lt))
        | inr past ↦ inl (omega (arith, is, past, steps_next live.task.plan found lt))
      ]

-- What is left where an order fails

module _ (asked : Bool) (live : Session) (contents : Contents) (s : State) (at : InStep asked live contents s) where
  told_before : InStep asked live contents (telling (IsUnsynced live) s.reads)
  told_before = record {
    underway = record {
      sound = at.underway.sound;
      copied = at.underway.copied;
      erased = at.underway.erased;
      settled = λ image left. same_wider (IsUnsynced live) (IsLoose live.task.input live.task.plan live.marked (done_in live) (done_in live - round_size live.task.plan live.marked)) (λ cell of. of.1) s.reads image left;
      landed = refl;
      tells = at.underway.tells;
    };
    synced = λ high image left. same_wider (IsUnsynced live) NoCell (λ cell of. (let low = of.0 in absurd (omega (arith, low, high)))) s.reads image left;
  }

  left_before : (image : Image) → s.may_leave image → SameBut (IsUnsynced live) s.reads image
  left_before image left = elim (cases_lt (done_in live) (steps_in live.task.plan live.marked)) [
    | inl low ↦ same_wider (IsLoose live.task.input live.task.plan live.marked (done_in live) (done_in live - round_size live.task.plan live.marked)) (IsUnsynced live) (λ cell of. (low, of)) s.reads image (at.underway.settled image left)
    | inr high ↦ same_wider NoCell (IsUnsynced live) (λ cell none. absurd none) s.reads image (at.synced high image left)
  ]

module _ (live mid : Session) (task : mid.task ≡ live.task) (steps : ℕ) (less : mid.left ≡ live.left - steps) (rest : actions_left mid ≡ drop steps (actions_left live)) (is : IsSession mid) (old between : State)
    (goes : (asked : Bool) (contents : Contents) → InStep asked live contents old → InStep asked mid contents between) (others : List Action) (new : State) where
  left_after : (now : State) → ((asked : Bool) (contents : Contents) → InStep asked mid contents between → InStep asked mid contents now) → IsLeftAfter live steps mid old now
  left_after now on = record { task = task; left = less; rest = rest; is = is; in_step = λ asked contents at. on asked contents (goes asked contents at) }

  -- an order fails after so many steps
  pub fault_leaves : (fault : ServeFault) → AreMadeUpTo [] others between new fault → LeavesAfter live steps others old new fault
  fault_leaves serve_fault.Sink none = (
    mid,
    left_after new (λ asked contents at. step_quiet asked mid.task.input mid.task.plan mid.task.digest contents mid.marked between new (done_in mid)
        (changes_wider NoCell NoCell (AllWrite []) (AllWrite []) (λ cell out. absurd out) (λ cell out. absurd out) [] between new none) at),
  )
  fault_leaves serve_fault.Store part = record {
    after = mid;
    before = between.reads;
    was = left_after (telling (IsUnsynced mid) between.reads) (λ asked contents at. told_before asked mid contents between at);
    first = part.made ++ part.begun;
    rest = part.left;
    are = part.are ∙ sym (append_assoc part.made part.begun part.left);
    told = part.change.told;
    crash = λ asked contents at image left.
        let from = part.change.crash image left in
        (from.0, left_before asked mid contents between (goes asked contents at) from.0 from.1, from.2);
  }

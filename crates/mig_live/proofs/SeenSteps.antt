-- What a store that refuses has seen once so many steps are made since a mark, and that it refuses nothing of the next one.
use Rattle.mig_live.proofs.Common.{At, Cell, Contains, Flight, IfSome, Image, IsAmong, IsTask, IsWorkCell, List, Mark, NoCell, None, Option, SameBut}
use Rattle.mig_live.proofs.Common.{Shift, Some, Spot, Task, [], any_contains, ap, arith, cases_eq, cases_lt, false≢true, flights_of, get_or}
use Rattle.mig_live.proofs.Common.{get_or_from_slice_get, inl, inr, is_slot, item_name, layout_at, leaves, length, moved_cases, option_map, round_at}
use Rattle.mig_live.proofs.Common.{round_size, shifts_of, slice_get, slice_get-get_or, slice_get_within, slot_apart, slot_of, steps_in, subst, suc}
use Rattle.mig_live.proofs.Common.{sym, zero, ℕ, ⊎_elim, ◌+◌, ◌-◌, ◌<◌, ◌∙◌, ◌∷◌, ◌≡◌, ◌≤◌, ◌⊎◌}
use Rattle.std.proofs.lemmas.List.Elements.{Contains-append_left, Contains-append_right}
use Rattle.std.specs.Option.{IsSomeAnd}
use Rattle.std.specs.Prelude.{IsSome}
use Rattle.mig_base.proofs.ArrivalLaws.{named_on_disk}
use Rattle.mig_base.proofs.Rounds.{contains_any}
use Rattle.mig_base.proofs.SafetyLaws.{no_round, target_facts}
use Rattle.mig_base.specs.Arrivals.{IsPlanSpot}
use Rattle.mig_base.specs.InputLists.{no_spot}
use Rattle.mig_base.specs.Readiness.{IsShifted}
use Rattle.mig_base.specs.Slots.{HasHeader, item_cell}
use Rattle.mig_live.proofs.StepCounts.{shifts_past}
use Rattle.mig_live.specs.Sessions.{IsSeenAtStep}
use Rattle.mig_mover.proofs.SeenCopies.{AreMovedTo, seen_copied}
use Rattle.mig_mover.proofs.SeenSlots.{AreWhereSeen, apart_from_free, seen_beside, seen_next, still_seen, to_free}
use Rattle.mig_mover.specs.Holdings.{IsSeen, cell_at}
use Rattle.mig_store.specs.Grounds.{IsNoSlot, IsSeenAtBoth, Lacks, Remembers, Sights}

-- before a shift of the next round is copied
pub seen_early : (task : Task) (k p : ℕ) → p ≤ round_size task.plan k → (seen : Sights) (image : Image) → IsSeen task seen image k
    → IsSeenAtStep task seen image k p
seen_early task k p few seen image seeing = record { items = seeing; copied = λ m among. absurd (omega (arith, among.1, few)) }

module _ (task : Task) (is : IsTask task) (k : ℕ) (most : k ≤ length task.plan) where
  abbrev next : List Shift
  next = round_at task.plan (suc k)

  -- the shift's item was seen at its target
  abbrev IsThere : Sights → Shift → Type 0
  IsThere seen m = seen (slot_of task.input m.to) (item_name task.input m.item.0)

  -- a sync
  pub seen_synced : (p : ℕ) → round_size task.plan (suc k) ≤ p - round_size task.plan k → (seen after : Sights) → Remembers NoCell seen after
      → (image new : Image) → SameBut NoCell image new → IsSeenAtStep task seen image k p → IsSeenAtStep task after new k (p + 1)
  seen_synced p all seen after kept image new quiet sight = record {
    items = seen_beside task is k most seen image sight.items NoCell (λ cell none. absurd none) after
        (λ slot item out was. kept slot item (λ none. none) was) new quiet;
    copied = λ m among. kept (slot_of task.input m.to) (item_name task.input m.item.0) (λ none. none)
        (sight.copied m (among.0, omega (arith, slice_get_within next among.0 m among.2, all), among.2));
  }

  module _ (lt : k < length task.plan) where
    -- a mark
    pub seen_marked : (seen : Sights) (image : Image) → AreWhereSeen seen image → IsSeenAtStep task seen image k (steps_in task.plan k)
        → (n : ℕ) → n ≡ suc k → (after : Sights) → Remembers IsNoSlot seen after → (new : Image) → SameBut (λ c. c ≡ Mark n) image new
        → IsSeenAtStep task after new n 0
    seen_marked seen image law sight n number after kept new step =
        let there = seen_next task is k lt seen image sight.items law
        (λ j d low high. sight.copied (get_or next j d) (j, omega (arith, high), slice_get-get_or next j d high)) in
        subst (λ (r : ℕ). IsSeenAtStep task after new r 0) (sym number) (seen_early task (suc k) 0 (omega arith) after new
        (seen_beside task is (suc k) (omega (arith, lt)) seen image there (λ c. c ≡ Mark n) (λ cell same. ap is_slot same) after kept new step))

    -- a copy
    module _ (place : ℕ) (within : place < length next) (f : Flight) (at : slice_get (flights_of task.input next) place ≡ Some f) (seen : Sights)
        (image : Image) (law : AreWhereSeen seen image) (after : Sights) (kept : Remembers (λ c. (c ≡ f.from) ⊎ (c ≡ f.to)) seen after) where
      pub seen_more : (p : ℕ) → p ≡ round_size task.plan k + place → IsSeenAtStep task seen image k p → (new : Image)
          → SameBut (λ c. c ≡ f.to) image new → IsSeenAtBoth after f.from f.to → AreWhereSeen after new → IsSeenAtStep task after new k (p + 1)
      seen_more p here sight new step both after_law = record { items = now.0; copied = copied }
        where
          moved : AreMovedTo task (suc k) place seen
          moved j d low high =
              sight.copied (get_or next j d) (j, omega (arith, high, here), slice_get-get_or next j d (omega (arith, high, within)))

          now : IsSeen task after new k × AreMovedTo task (suc k) (place + 1) after
          now = seen_copied task is k lt place within f at seen image law (sight.items, moved) after new step kept both after_law

          copied : (m : Shift) → IsAmong (p + 1 - round_size task.plan k) next m → IsThere after m
          copied m (j, low, there) =
              subst (IsThere after) (get_or_from_slice_get next j m m there) (now.1 j m (omega arith) (omega (arith, low, here)))

  -- a read: the item was seen in its slot
  module _ (item : ℕ) (cell : Cell) (at : cell_at task k item ≡ Some cell) (seen after : Sights) (kept : Remembers (λ c. c ≡ cell) seen after)
      (noted : after cell (item_name task.input item)) (image : Image) where
    -- no shift of the next round goes there
    apart : (m : Shift) (place : ℕ) → slice_get next place ≡ Some m → slot_of task.input m.to ≡ cell → ⊥
    apart m place there same = elim (cases_lt k (length task.plan)) [
      | inl lt ↦ apart_from_free task is k most item cell (slot_of task.input m.to) at
          (to_free task is k lt m (place, slice_get_within next place m there, get_or_from_slice_get next place m m there)) (sym same)
      | inr past ↦ absurd (omega (arith, slice_get_within next place m there, shifts_past task.plan k past))
    ]

    module _ (other : ℕ) where
      abbrev Was : Option Cell → Type 0
      Was o = IsSomeAnd o (λ c. IsSome (image c) × seen c (item_name task.input other))

      abbrev Now : Option Cell → Type 0
      Now o = IsSomeAnd o (λ c. after c (item_name task.input other))

      abbrev Is : Option Cell → Type 0
      Is o = IsSomeAnd o (λ c. IsSome (image c) × after c (item_name task.input other))

      seen_only : (o : Option Cell) → Was o → IsSomeAnd o (λ c. seen c (item_name task.input other))
      seen_only None none = absurd none
      seen_only (Some c) there = there.1

      both : (o : Option Cell) → Was o → Now o → Is o
      both None none now = absurd none
      both (Some c) there now = (there.0, now)

      in_slot : Was (cell_at task k other) → IsShifted task.plan other → (other ≡ item) ⊎ (other ≡ item → ⊥) → Is (cell_at task k other)
      in_slot was shift (inl same) =
          let its : cell_at task k other ≡ Some cell = ap (cell_at task k) same ∙ at in
          subst Is (sym its) ((subst Was its was).0, subst (λ (j : ℕ). after cell (item_name task.input j)) (sym same) noted)
      in_slot was shift (inr not) = both (cell_at task k other) was (still_seen task is k most item other not seen after
          (λ slot name out there. kept slot name (λ same. out (at ∙ ap Some (sym same))) there) (λ moves. seen_only (cell_at task k other) was) shift)

    pub seen_read : (p : ℕ) → IsSeenAtStep task seen image k p → IsSeenAtStep task after image k p
    seen_read p sight = record {
      items = record {
        items = λ other lt shift. in_slot other (sight.items.items other lt shift) shift (cases_eq other item);
        free = sight.items.free;
      };
      copied = λ m among. kept (slot_of task.input m.to) (item_name task.input m.item.0) (apart m among.0 among.2) (sight.copied m among);
    }

  -- an item that was seen isn't lacked
  pub seen_there : (seen : Sights) (image : Image) → IsSeen task seen image k → AreWhereSeen seen image → (item : ℕ) → item < length task.input.items
      → IsSomeAnd (cell_at task k item) (λ cell. Lacks image cell (item_name task.input item)) → IsShifted task.plan item → ⊥
  seen_there seen image seeing law item range lacks shift = by (cell_at task k item) (seeing.items item range shift) lacks
    where
      name : List ℕ
      name = item_name task.input item

      clash : (o : Option (List ℕ)) → IsSome o → IfSome o (HasHeader name) → IfSome o (λ bytes. ¬ HasHeader name bytes) → ⊥
      clash None told holds lacks = false≢true told
      clash (Some bytes) told holds lacks = lacks holds

      by : (o : Option Cell) → IsSomeAnd o (λ cell. IsSome (image cell) × seen cell name) → IsSomeAnd o (λ cell. Lacks image cell name) → ⊥
      by None was lacks = was
      by (Some cell) was lacks = clash (image cell) was.0 (law cell name (is.valid.named_items item [] range) was.1) lacks

-- An item that the plan doesn't shift

-- a shift of a round is one of the plan's
in_plan : (plan : List (List Shift)) (i : ℕ) (s : Shift) → i < length plan → Contains (get_or plan i []) s → Contains (shifts_of plan) s
in_plan [] i s lt has = absurd (omega arith)
in_plan (r ∷ rs) zero s lt has = Contains-append_left r (shifts_of rs) s has
in_plan (r ∷ rs) (suc i) s lt has = Contains-append_right r (shifts_of rs) s (in_plan rs i s (omega arith) has)

module _ (task : Task) (is : IsTask task) (item : ℕ) (range : item < length task.input.items) (out : IsShifted task.plan item → ⊥) where
  abbrev own : Spot
  own = get_or task.input.spots item no_spot

  abbrev itself : Cell
  itself = item_cell task.input item

  none_moves : (k : ℕ) → k < length task.plan → (s : Shift) → Contains (round_at task.plan (suc k)) s → s.item.0 ≡ item → ⊥
  none_moves k lt s has same = out (any_contains (λ (t : Shift). t.item.0 ≡ item) (shifts_of task.plan) s (in_plan task.plan k s lt has) same)

  -- it stays where it is listed
  stays : (k : ℕ) → k ≤ length task.plan → At task.input task.plan k item ≡ Some own
  stays zero most = slice_get-get_or task.input.spots item no_spot (omega (arith, range, is.valid.spots_len))
  stays (suc k) most = ⊎_elim
      (λ last. absurd (none_moves k (omega (arith, most)) last.0 last.1 last.2))
      (λ none. none.1 ∙ stays k (omega (arith, most)))
      (moved_cases (At task.input task.plan k) (round_at task.plan (suc k)) item)

  abbrev IsLacked : Image → Option Spot → Type 0
  IsLacked image o = IsSomeAnd (option_map (slot_of task.input) o) (λ cell. Lacks image cell (item_name task.input item))

  -- where that is told to hold it, it isn't lacked
  pub told_there : (k : ℕ) → k ≤ length task.plan → (image : Image) → IsSomeAnd (image itself) (HasHeader (item_name task.input item))
      → IsLacked image (At task.input task.plan k item) → ⊥
  told_there k most image told lacks = by (image itself) told (subst (IsLacked image) (stays k most) lacks)
    where
      by : (o : Option (List ℕ)) → IsSomeAnd o (HasHeader (item_name task.input item)) → IfSome o
          (λ bytes. ¬ HasHeader (item_name task.input item) bytes) → ⊥
      by None holds lack = holds
      by (Some bytes) holds lack = lack holds

  -- no shift leaves its spot, or goes there
  not_planned : (spot : Spot) → IsPlanSpot task.plan spot → spot ≡ own → ⊥
  not_planned spot (zero, inl source) same = absurd (let none = source.2 in omega arith)
  not_planned spot (zero, inr target) same = absurd (let none = target.2 in omega arith)
  not_planned spot (suc r, inl source) same = elim (cases_lt r (length task.plan)) [
    | inl lt ↦
        let has = contains_any (λ (s : Shift). s.from ≡ spot) (round_at task.plan (suc r)) source in
        let at = leaves task.input (At task.input task.plan r) (round_at task.plan (suc r)) (is.runs.rounds r lt) source.1 has in
        let layout = layout_at task.input is.valid task.plan is.runs r (omega (arith, lt)) in
        none_moves r lt source.1 has (layout.apart source.1.item.0 item own (at ∙ ap Some (source.4 ∙ same)) (stays r (omega (arith, lt))))
    | inr past ↦ absurd (let empty = no_round task.input is.valid task.plan is.runs r past in let some = source.2 in omega arith)
  ]
  not_planned spot (suc r, inr target) same =
      let facts = target_facts task.input is.valid task.plan is.runs r spot target in
      facts.2 (item, stays r (let lt = facts.0 in omega arith) ∙ ap Some (sym same))

  -- so no round changes its slot
  pub not_work : (cell : Cell) → IsWorkCell task.input task.plan cell → cell ≡ itself → ⊥
  not_work cell (inl mark) same = false≢true (sym (ap is_slot (sym same ∙ mark.3)))
  not_work cell (inr (spot, named, at)) same = not_planned spot named
      (slot_apart task.input is.valid spot own (named_on_disk task.input is.valid task.plan is.runs spot (inr named))
      ((layout_at task.input is.valid task.plan is.runs 0 (omega arith)).on_disks item own (stays 0 (omega arith))) (at ∙ same))

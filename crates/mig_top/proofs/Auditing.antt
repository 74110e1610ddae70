-- The lines of an audit, and how `audit` ends.
use Rattle.mig_top.proofs.Common.{AreOfLayout, AreSightLines, Audit, AuditStops, Bool, Call, Cell, Done, Err, Extends, Flight, FormEndsAs, HasHeader, HasPutSight, HavePutSights, IfSome, IsAudit}
use Rattle.mig_top.proofs.Common.{AuditStop, InputLists, IsMoving, IsSightOf, IsTargetOf, List, Looks, MatchBool, None, Option, Shows, Sight, SightStops, SinkFault, SinkState, SinkStops, Some, State}
use Rattle.mig_top.proofs.Common.{StoreFault, StoreStops, Untouched, WorldEnds, [], append-nil, append_assoc, arith, begins_more, bytes_eq, bytes_eq-Decides, false, false≢true, flights_same}
use Rattle.mig_top.proofs.Common.{header_of, inl, inr, item_cell, item_name, length, refl, sha256, sight_count, sight_line, subst, suc}
use Rattle.mig_top.proofs.Common.{sym, take, then_begins, then_extends, true, zero}
use Rattle.mig_top.proofs.Common.{ℕ, ⊎_elim, if◌then◌else◌, ◌++◌, ◌+◌, ◌-◌, ◌<◌, ◌∙◌, ◌≡◌, ◌≤◌}
use Rattle.mig_top.proofs.EndsOf.{shown}
use Rattle.mig_top.specs.Ends.{FormFinishes}
use Rattle.mig_words.specs.declared.endings.CommandError.TheVariants as ending
use Rattle.mig_top.proofs.Steps.{if_map}
use Rattle.mig_top.specs.declared.audit_command.AuditStop.TheVariants as stop

-- what is seen of an item is seen at the beginning, where nothing was written since
module _ (old mid : State) (looks : Looks old mid) where
  moving : (cell : Cell) → IsMoving mid cell → IsMoving old cell
  moving cell h = (h.0, subst (λ (fs : List Flight). IsTargetOf fs cell) (flights_same old mid looks.events) h.1)

  pub seen_before : (input : InputLists) (item : ℕ) (sight : Sight) → IsSightOf input mid item sight → IsSightOf input old item sight
  seen_before input item sight h = record {
    named = λ still. rw (looks.told.same (item_cell input item) still) at (h.named (λ m. still (moving (item_cell input item) m)));
    digest = λ still. rw (looks.told.same (item_cell input item) still) at (h.digest (λ m. still (moving (item_cell input item) m)));
  }

-- Line by line

-- one more is counted where it is named
count_few : (here item : ℕ) (named : Bool) → here ≤ item → here + (if named then 1 else 0) ≤ item + 1
count_few here item true few = omega arith
count_few here item false few = omega arith

module _ (input : InputLists) (old mid : State) (looks : Looks old mid) (item : ℕ) (first out : SinkState) (here : ℕ) (lines : HavePutSights input old item first out here) where
  more_are : (sight : Sight) → IsSightOf input mid item sight → AreSightLines input old (suc item) (lines.lines ++ sight_line input item sight) (here + (if sight.named then 1 else 0))
  more_are sight seen = (lines.lines, here, sight, lines.are, seen_before old mid looks input item sight seen, refl, refl)

  -- the line of the next item was put
  pub line_more : (new : SinkState) (named : Bool) → HasPutSight input mid item out new named → HavePutSights input old (item + 1) first new (here + (if named then 1 else 0))
  line_more new named h = record {
    lines = lines.lines ++ sight_line input item h.sight;
    are = subst (λ (n : ℕ). AreSightLines input old n (lines.lines ++ sight_line input item h.sight) (here + (if named then 1 else 0))) (let e : suc item ≡ item + 1 = omega arith in e)
        (subst (λ (b : Bool). AreSightLines input old (suc item) (lines.lines ++ sight_line input item h.sight) (here + (if b then 1 else 0))) h.is (more_are h.sight h.seen));
    put = then_extends lines.lines (sight_line input item h.sight) first out new lines.put h.line;
    few = count_few here item named lines.few;
  }

  -- or it wasn't
  module _ (within : item < length input.items) (last : State) (later : first.faults ≤ out.faults) (store_later : old.faults ≤ mid.faults) where
    pub line_stops : (new : SinkState) (s : AuditStop) → SightStops input mid last item out new s → AuditStops input old last first new s
    line_stops new stop.Sink (rose, sight, seen, part) = record {
      rose = omega (arith, later, rose);
      item = item;
      within = within;
      lines = lines.lines ++ sight_line input item sight;
      here = here + (if sight.named then 1 else 0);
      are = more_are sight seen;
      begun = then_begins lines.lines (sight_line input item sight) first out new lines.put part;
    }
    line_stops new stop.Store (rose, same) = record {
      rose = omega (arith, store_later, rose);
      item = item;
      within = within;
      lines = lines.lines;
      here = here;
      are = lines.are;
      put = held_still same lines.put;
    }
      where
        held_still : new.held ≡ out.held → Extends lines.lines first out → Extends lines.lines first new
        held_still e h = subst (λ (o : Option (List ℕ)). IfSome first.held (λ held. o ≡ Some (held ++ lines.lines))) (sym e) h

-- something can be said of each item
some_sight : (input : InputLists) (store : State) (item : ℕ) → (sight : Sight) × IsSightOf input store item sight
some_sight input store item = by (store.reads (item_cell input item)) refl
  where
    name : List ℕ
    name = item_name input item

    tell : (slot : List ℕ) (b : Bool) → bytes_eq (take 34 slot) (header_of name) ≡ b → MatchBool b (HasHeader name slot) (¬ HasHeader name slot)
    tell slot true e = (bytes_eq-Decides (take 34 slot) (header_of name)).0 e
    tell slot false e = λ is. false≢true (sym e ∙ (bytes_eq-Decides (take 34 slot) (header_of name)).1 is)

    by : (o : Option (List ℕ)) → store.reads (item_cell input item) ≡ o → (sight : Sight) × IsSightOf input store item sight
    by None e = (record { named = false; digest = [] }, record { named = λ still. rw e tt; digest = λ still. rw e tt })
    by (Some slot) e =
        let is = bytes_eq (take 34 slot) (header_of name) in
        (record { named = is; digest = sha256 slot }, record { named = λ still. rw e (tell slot is refl); digest = λ still. rw e refl })

-- lines can be gone on with
more_lines : (input : InputLists) (store : State) (more item : ℕ) (lines : List ℕ) (here : ℕ) → AreSightLines input store item lines here
    → (rest : List ℕ) × (count : ℕ) × AreSightLines input store (more + item) (lines ++ rest) count
more_lines input store zero item lines here are =
    let e : item ≡ 0 + item = omega arith in
    ([], here, subst (λ (n : ℕ). AreSightLines input store n (lines ++ []) here) e (subst (λ (l : List ℕ). AreSightLines input store item l here) (sym (append-nil lines)) are))
more_lines input store (suc more) item lines here are =
    let (rest, count, so) = more_lines input store more item lines here are in
    let (sight, seen) = some_sight input store (more + item) in
    let line = sight_line input (more + item) sight in
    let e : suc (more + item) ≡ suc more + item = omega arith in (
      rest ++ line,
      count + (if sight.named then 1 else 0),
      subst (λ (n : ℕ). AreSightLines input store n (lines ++ (rest ++ line)) (count + (if sight.named then 1 else 0))) e
          (lines ++ rest, count, sight, so, seen, sym (append_assoc lines rest line), refl),
    )

-- up to a whole text
pub whole_audit : (input : InputLists) (store : State) (item : ℕ) (lines : List ℕ) (here : ℕ) → item ≤ length input.items → AreSightLines input store item lines here
    → (rest : List ℕ) × IsAudit input store (lines ++ rest)
whole_audit input store item lines here most are =
    let (rest, count, so) = more_lines input store (length input.items - item) item lines here are in
    let e : length input.items - item + item ≡ length input.items = omega (arith, most) in
    let all = subst (λ (n : ℕ). AreSightLines input store n (lines ++ rest) count) e so in
    (rest ++ sight_count input count, (lines ++ rest, count, all, sym (append_assoc lines rest (sight_count input count))))

-- The ends

module _ {k : Call} {disks now : List ℕ} (same : Untouched k.before.folder k.after.folder) (looks : Looks k.before.store k.after.store) (input : InputLists)
    (layout : AreOfLayout k.before.folder disks now input) where
  audit_done : (text : List ℕ) → IsAudit input k.before.store text → WorldEnds k (Audit disks now) (Done text)
  audit_done text audit = record { cause = if_map k.before.folder.files (λ files holds. (input, holds, audit)) layout; leaves = same; store = looks }

  -- the sink failed at a line
  pub sink_stops : SinkStops input k.before.store k.before.sink k.after.sink → FormEndsAs k (Audit disks now) 6
  sink_stops stops =
      let whole = whole_audit input k.before.store _ stops.lines stops.here stops.within stops.are in
      record {
        outcome = SinkFault (stops.lines ++ whole.0);
        is = refl;
        so = (stops.rose, inl (audit_done (stops.lines ++ whole.0) whole.1));
        says = record {
          begun = begins_more stops.lines whole.0 k.before.sink k.after.sink stops.begun;
          whole = λ fine. absurd (fine stops.rose);
          done = λ zero. absurd (omega (arith, zero));
        };
      }

  -- the store failed before a line
  pub store_stops : k.before.sink.faults ≤ k.after.sink.faults → StoreStops input k.before.store k.after.store k.before.sink k.after.sink → FormFinishes k (Audit disks now) (Err ending.StoreFault)
  store_stops later stops = record {
    before = stops.lines;
    put = stops.put;
    later = later;
    bare = tt;
    so = record { cause = (inl stops.rose, (input, layout, (stops.item, stops.here, stops.within, stops.are))); leaves = same; store = looks };
  }

  module _ (mid : SinkState) (later : k.before.sink.faults ≤ mid.faults) {status : ℕ} where
    -- each line was put, and then the count
    pub lines_end : (here : ℕ) → HavePutSights input k.before.store (length input.items) k.before.sink mid here → Shows (sight_count input here) mid k.after.sink status
        → FormEndsAs k (Audit disks now) status
    lines_end here h after = shown text (audit_done text (h.lines, here, h.are, refl)) (record {
      status = ⊎_elim (λ is. inl is) (λ failed. let rose = failed.1 in inr (failed.0, omega (arith, later, rose))) after.status;
      begun = then_begins h.lines (sight_count input here) k.before.sink mid k.after.sink h.put after.begun;
      done = λ is. then_extends h.lines (sight_count input here) k.before.sink mid k.after.sink h.put (after.done is);
      later = omega (arith, later, after.later);
    })
      where
        text : List ℕ
        text = h.lines ++ sight_count input here

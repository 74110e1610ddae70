-- What `plan`, `fill`, `audit` and `drill` promise, from the causes of their outcomes and what they leave; and what `check` says of what `plan` saved.
use Rattle.mig_top.proofs.Common.{Accepted, AreRefused, AreSaved, Audit, AuditsWell, Because, BeginWith, Bound, Call, CauseIn, Check, ChecksSaved, Done, Drill, DrillsWell, EndsAs, Extends, ThreeFiles}
use Rattle.mig_top.proofs.Common.{FileKind, Files, Fill, FillsWell, FindsTask, FolderFailed, FolderFault, Form, FormCause, Found, HasPlanned, HoldsFirst, HoldsLayout, IsAudit, IsDiskBound}
use Rattle.mig_top.proofs.Common.{HasNoFile, InputLists, IsFillCell, IsFilled, IsInput, IsListed, IsOrNotPut, IsOutcomeOf, IsPlanSaved, IsRight, IsSomeAnd, IsUntouched, List, MAX_DRILL_SHIFTS}
use Rattle.mig_top.proofs.Common.{MAX_FILE_BYTES, Memory, Names, NoFile, None, NotSpelled, Nothing, OfDisk, OfSet, OfSide, Option, Outcome, Plan, PlanBodies, PlansWell}
use Rattle.mig_top.proofs.Common.{FilesStand, Reason, Refusal, Refused, Roomy, SinkFailed, SinkFault, Some, StandsForNone, Step, StoreFault, Task, TellsStill, TooLarge, Unlisted}
use Rattle.mig_top.proofs.Common.{Untouched, Why, WorldEnds, WritesApart, [], and_then, ap, arith, bound_value, checks, code, codes, drill_text, eq-eqb, file, filled_text}
use Rattle.mig_top.proofs.Common.{finds, first, fits_drill, if◌then◌else◌, inl, inr, layout_in, length, loads_input, loads_layout, loads_plan, quotient, refl, roomy, second}
use Rattle.mig_top.proofs.Common.{not_spelled, refusal_between, shifts_of, stands, subst, sym, take, take_all, task_in, transfer_graph, verdict_text, ℕ, ⊎_elim, ◌++◌, ◌+◌, ◌<◌, ◌∙◌, ◌≡◌, ◌≢◌, ◌≤◌, ◌⊎◌}
use Rattle.mig_top.proofs.Plainly.{found_input, loads_there, there_loads}
use Rattle.mig_top.proofs.EndsOf.{cause_at, done_by, ends_of, ends_so, holds_by, put_by, told_at, unrefused}
use Rattle.mig_top.proofs.Exactness.{checks_exact, comes_exactly, input_loads, is_input, layout_in_exact, task_in_exact}
use Rattle.mig_top.proofs.StoreCommands.{fill_rest}
use Rattle.mig_top.proofs.Auditing.{whole_audit}
use Rattle.mig_top.proofs.Steps.{follow, lead}
use Rattle.mig_top.specs.Ends.{IsRefusable}
use Rattle.mig_text.proofs.ShiftCounts as plan_lengths
use Rattle.mig_cert.proofs.CertLengths as cert_lengths

pub some_and_map : {X : Type 0} (P Q : X → Type 0) (o : Option X) → ((x : X) → P x → Q x) → IsSomeAnd o P → IsSomeAnd o Q
some_and_map P Q None f h = h
some_and_map P Q (Some x) f h = f x h

-- loading ends a command where a file isn't there, and only then
abbrev pub IsNoFile : Outcome → Type 0
IsNoFile (NoFile word) = Unit {0}
IsNoFile _ = ⊥

is_no_file : (files : Files) (name : List ℕ) (o : Outcome) → HasNoFile name files o → IsNoFile o
is_no_file files name (NoFile word) h = tt
is_no_file files name _ h = absurd h

pub layout_stop : (files : Files) (disks now : List ℕ) (o : Outcome) → (loads_layout disks now files).Stops o → IsNoFile o
layout_stop files disks now o (inl h) = is_no_file files disks o h
layout_stop files disks now o (inr (d, first, inl h)) = is_no_file files now o h
layout_stop files disks now o (inr (d, first, inr (n, second, none))) = absurd none

pub loads_stop : (files : Files) (names : Names) (o : Outcome) → (loads_input names files).Stops o → IsNoFile o
loads_stop files names o (inl h) = layout_stop files names.disks names.now o h
loads_stop files names o (inr (layout, there, inl h)) = is_no_file files names.next o h
loads_stop files names o (inr (layout, there, inr (x, third, none))) = absurd none

-- what `plan` promises
module _ (k : Call) (names : Names) (cert : List ℕ) (files : Files) (is : k.before.folder.files ≡ Some files) where
  abbrev form : Form
  form = Plan names cert

  -- the cause of each outcome of `plan`
  abbrev Means : Outcome → Type 0
  Means (Done text) = (input : InputLists) × FilesStand files names input
  Means (Found (Refused f n w)) = AreRefused files names f n w
  Means (NoFile word) = (bodies : ThreeFiles) → BeginWith files names bodies → ⊥
  Means _ = ⊥

  means : (o : Outcome) → FormCause files k.before.store form o → Means o
  means (Done text) h = (h.0, found_input Roomy files names h.0 h.1)
  means (Found (Refused f n w)) (inl (inl h)) = absurd (loads_stop files names (Found (Refused f n w)) h)
  means (Found (Refused f n w)) (inl (inr (bodies, there, refused))) = record { bodies = bodies; there = loads_there files names bodies there; refused = refused }
  means (NoFile word) (inl (inl h)) = λ bodies there. (input_loads names files).not_both bodies (NoFile word) (there_loads files names bodies there) h
  means o (inl (inl h)) = absurd (loads_stop files names o h)
  means o (inl (inr (bodies, there, none))) = absurd none
  means o (inr (input, stands, none)) = absurd none

  told_cause : (o : Outcome) → CauseIn k.before form o → Means o
  told_cause o h = means o (cause_at k files is form o h)

  none_stands : StandsForNone files names → (text : List ℕ) → WorldEnds k form (Done text) → ⊥
  none_stands none text h = by (told_cause (Done text) h.cause)
    where
      by : (input : InputLists) × FilesStand files names input → ⊥
      by (input, s) =
          let loads = there_loads files names in
          let same = (input_loads names files).one_found s.bodies none.bodies (loads s.bodies s.there) (loads none.bodies none.there) in
          none.none input (subst (λ (b : ThreeFiles). Accepted b input) same s.read)

  module _ {status : ℕ} where
    ends_by : (o : Outcome) → Means o → status ≡ code o → (bodies : ThreeFiles) → BeginWith files names bodies → (status ≡ 0) ⊎ (status ≡ 3) ⊎ (status ≡ 7)
    ends_by (Done text) means at bodies there = inl at
    ends_by (Found (Refused f n w)) means at bodies there = inr (inl at)
    ends_by (NoFile word) means at bodies there = absurd (means bodies there)
    ends_by _ means at bodies there = absurd means

    refused_by : (o : Outcome) → status ≡ code o → IsOrNotPut (WorldEnds k form) k.before.sink k.after.sink o → status ≡ 3 → (f : FileKind) × (n : ℕ) × (w : Why) × AreRefused files names f n w
    refused_by (Found (Refused f n w)) at h three = (f, n, w, told_cause (Found (Refused f n w)) h.cause)
    refused_by (Found (NotSpelled f line)) at h three = absurd (not_spelled f at three (λ e. cc) (λ e. cc))
    refused_by (Refusal r) at h three = absurd (omega (arith, at, three, (refusal_between r).0))
    refused_by o at h three = absurd (omega (arith, at, three))

    refuses_by : (o : Outcome) → status ≡ code o → IsOrNotPut (WorldEnds k form) k.before.sink k.after.sink o → StandsForNone files names → (FolderFailed k → ⊥) → (status ≡ 3) ⊎ (status ≡ 7)
    refuses_by (Done text) at h none fine = absurd (none_stands none text h)
    refuses_by (SinkFault text) at (rose, inl h) none fine = absurd (none_stands none text h)
    refuses_by (SinkFault text) at (rose, inr h) none fine = absurd h.cause
    refuses_by (Found (Refused f n w)) at h none fine = inl at
    refuses_by Memory at h none fine = inr at
    refuses_by FolderFault at h none fine = absurd (fine h.cause.0)
    refuses_by (NoFile word) at h none fine = absurd (told_cause (NoFile word) h.cause none.bodies none.there)
    refuses_by (StoreFault before) at h none fine = absurd h.cause.1
    refuses_by Unlisted at h none fine = absurd h.cause
    refuses_by o at h none fine = absurd (told_cause o h.cause)

    pub plans_well : {words : List (List ℕ)} → EndsAs k words status → IsListed words form → PlansWell k files names cert status
    plans_well ends l =
        let e = ends_of ends form l in
        record {
          ends = λ bodies there fine quiet. elim (ends_so ends files is form l fine quiet) [
            | inl so ↦ ends_by so.0 (means so.0 so.1) so.2 bodies there
            | inr (inl seven) ↦ inr (inr seven)
            | inr (inr five) ↦ absurd five.2.1
          ];
          refused = refused_by e.outcome e.is e.so;
          refuses = refuses_by e.outcome e.is e.so;
          planned = λ zero.
              let (text, h, put) = put_by e zero in
              some_and_map (AreSaved names cert text files) (HasPlanned k names cert files) k.after.folder.files (λ new saved. (text, saved, put))
              (told_at (λ old. IsSomeAnd k.after.folder.files (AreSaved names cert text old)) k.before.folder.files files is h.leaves);
        }

-- `check` of what `plan` saved

module _ (names : Names) (cert text : List ℕ) (old files : Files) (apart : WritesApart (Plan names cert)) (saved : IsPlanSaved names cert text old files)
    (cert_saved : file files cert ≡ Some text) where
  -- the three files are as they were
  kept : (name bytes : List ℕ) → name ≢ names.plan → name ≢ cert → HoldsFirst old name bytes → HoldsFirst files name bytes
  kept name bytes p c = subst (λ (o : Option (List ℕ)). IsSomeAnd o (λ whole. bytes ≡ take (MAX_FILE_BYTES + 1) whole)) (sym (saved.others name p c))

  still_there : (bodies : ThreeFiles) → BeginWith old names bodies → BeginWith files names bodies
  still_there bodies h = record {
    disks = kept names.disks bodies.disks (λ e. apart.0.0 (sym e)) (λ e. apart.1.0 (sym e)) h.disks;
    now = kept names.now bodies.now (λ e. apart.0.1.0 (sym e)) (λ e. apart.1.1.0 (sym e)) h.now;
    next = kept names.next bodies.next (λ e. apart.0.1.1.0 (sym e)) (λ e. apart.1.1.1.0 (sym e)) h.next;
  }

  -- the two others are short enough to be read
  whole : (name bytes : List ℕ) → file files name ≡ Some bytes → length bytes ≤ MAX_FILE_BYTES → HoldsFirst files name bytes
  whole name bytes at short = subst (λ (o : Option (List ℕ)). IsSomeAnd o (λ all. bytes ≡ take (MAX_FILE_BYTES + 1) all)) (sym at) (sym (take_all (MAX_FILE_BYTES + 1) bytes (omega (arith, short))))

  valid : IsInput saved.input
  valid = is_input old names saved.input saved.stands

  short_plan : length saved.plan_text ≤ MAX_FILE_BYTES
  short_plan = plan_lengths.short_text saved.input saved.texts.rounds saved.plan_text valid saved.texts.made.planned.runs saved.texts.made.planned.once saved.texts.plan_spelled

  short_cert : length text ≤ MAX_FILE_BYTES
  short_cert = cert_lengths.short_text saved.input saved.texts.certificate text valid saved.texts.cert_spelled

  -- `check` puts the verdict on what was saved
  loaded : (loads_plan names files).Passes (record { input = saved.stands.bodies; plan = saved.plan_text })
  loaded = let s = saved.stands in (s.bodies, there_loads files names s.bodies (still_there s.bodies s.there), (saved.plan_text, whole names.plan saved.plan_text saved.saved short_plan, refl))

  right : IsRight saved.input saved.texts.rounds saved.texts.certificate (verdict_text saved.texts.rounds saved.texts.certificate)
  right = let made = saved.texts.made in record { runs = made.planned.runs; once = made.planned.once; holds = made.holds; says = refl }

  is_verdict : (checks names cert files).Passes (verdict_text saved.texts.rounds saved.texts.certificate)
  is_verdict =
      let t = saved.texts in
      let b : PlanBodies = record { input = saved.stands.bodies; plan = saved.plan_text } in
      (b, loaded, (text, whole cert text cert_saved short_cert, (saved.input, saved.stands.read, (t.rounds, (t.plan_spelled, short_plan), (t.certificate, (t.cert_spelled, short_cert), right)))))

  -- a bound that is a disk or a side of the quotient's value has that value
  disk_value_is : (bound : Bound) (q : ℕ) → IsDiskBound bound q → bound_value bound ≡ q
  disk_value_is Nothing q h = sym h
  disk_value_is (OfDisk disk l x) q h = h
  disk_value_is (OfSide disk side l x) q h = h
  disk_value_is (OfSet set i x) q h = absurd h

  told_optimal : (why : Reason) → Because why (transfer_graph saved.input) → (t : List ℕ) → (checks names cert files).Passes t → t ≡ codes "optimal\n"
  told_optimal why holds t h =
      let value = disk_value_is saved.texts.certificate.bound (quotient (transfer_graph saved.input)) (saved.texts.made.shown why holds) in
      (checks_exact names cert files).one_found t (verdict_text saved.texts.rounds saved.texts.certificate) h is_verdict
      ∙ ap (λ b. if b then codes "optimal\n" else codes "bounded\n") (eq-eqb _ _ (saved.texts.made.planned.tight why holds ∙ sym value))

  pub checks_saved : {k : Call} {words : List (List ℕ)} {status : ℕ} → EndsAs k words status → k.before.folder.files ≡ Some files → IsListed words (Check names cert)
      → ChecksSaved k saved.input status
  checks_saved {k = k} {status = status} ends is l = record {
    right = λ fine quiet. unrefused k status (λ none. none) (comes_exactly ends files (Check names cert) is l (Done (verdict_text saved.texts.rounds saved.texts.certificate)) is_verdict fine quiet tt);
    optimal = λ zero why holds.
        let (t, h, put) = put_by (ends_of ends (Check names cert) l) zero in
        subst (λ (said : List ℕ). Extends said k.before.sink k.after.sink) (told_optimal why holds t (cause_at k files is (Check names cert) (Done t) h.cause)) put;
  }

-- `fill` and `audit`

module _ {k : Call} {words : List (List ℕ)} {status : ℕ} (ends : EndsAs k words status) (files : Files) (disks : List ℕ) (now : List ℕ) (input : InputLists) (is : k.before.folder.files ≡ Some files) where
  -- `fill`

  module _ (l : IsListed words (Fill disks now)) (holds : HoldsLayout files disks now input) where
    one_layout : (a b : InputLists) → HoldsLayout files disks now a → HoldsLayout files disks now b → a ≡ b
    one_layout = (layout_in_exact disks now files).one_found

    filled_by : (text : List ℕ) → WorldEnds k (Fill disks now) (Done text) → IsFilled input k.before.store k.after.store
    filled_by text h =
        let from = h.store in
        subst (λ (i : InputLists). IsFilled i k.before.store k.after.store) (one_layout from.0 input (told_at (λ f. HoldsLayout f disks now from.0) k.before.folder.files files is from.1) holds) from.2

    -- what is told is no ground to refuse
    fill_told : TellsStill (IsFillCell input) k.before.store → IsRefusable k (Fill disks now) → ⊥
    fill_told tells (other, are, untold) =
        let same = one_layout input other holds (told_at (λ f. HoldsLayout f disks now other) k.before.folder.files files is are) in
        untold (λ cell of. (subst (λ (i : InputLists). TellsStill (IsFillCell i) k.before.store) same tells).cells cell (inr of))

    pub fills_well : FillsWell k input status
    fills_well = record {
      filled = λ done. let d = done_by (ends_of ends (Fill disks now) l) (λ text h. h.cause) done in filled_by d.0 d.1;
      fills = λ tells fillable fine quiet sound. unrefused k status (fill_told tells) (comes_exactly ends files (Fill disks now) is l (Done (filled_text input))
          (lead (layout_in disks now files) (fill_rest k.before.store) input holds (Done (filled_text input)) (tt, fillable, refl)) fine quiet
          (sound, λ other same. subst (λ (i : InputLists). TellsStill (IsFillCell i) k.before.store) (one_layout input other holds same) tells));
    }

  -- `audit`

  module _ (l : IsListed words (Audit disks now)) (holds : HoldsLayout files disks now input) where
    pub audits_well : AuditsWell k input status
    audits_well = record {
      said = λ zero.
          let (text, h, put) = put_by (ends_of ends (Audit disks now) l) zero in (
            text,
            follow (layout_in disks now files) (layout_in_exact disks now files) (λ i. finds (IsAudit i k.before.store)) input holds
                (Done text) (cause_at k files is (Audit disks now) (Done text) h.cause),
            put,
          );
      audits = λ fine quiet sound.
          let whole = whole_audit input k.before.store 0 [] 0 (omega arith) (refl, refl) in
          unrefused k status (λ none. none) (comes_exactly ends files (Audit disks now) is l (Done ([] ++ whole.0)) (input, holds, whole.1) fine quiet sound);
    }

-- `drill`

-- what is left of it once its task is known
abbrev drill_rest : Task → Step (List ℕ)
drill_rest task = and_then (fits_drill task.plan) (λ _. finds (λ text. text ≡ drill_text task.plan))

module _ {k : Call} {words : List (List ℕ)} {status : ℕ} (ends : EndsAs k words status) (files : Files) (names : Names) (task : Task)
    (is : k.before.folder.files ≡ Some files) (holds : FindsTask files (roomy names) task) (l : IsListed words (Drill names)) where
  -- the cause of an outcome says how the drill of this plan ends
  drill_end : (o : Outcome) → CauseIn k.before (Drill names) o → IsOutcomeOf (drill_rest task) o
  drill_end o h = follow (task_in (roomy names) files) (task_in_exact (roomy names) files) drill_rest task holds o (cause_at k files is (Drill names) o h)

  drill_comes : (o : Outcome) → IsOutcomeOf (drill_rest task) o → (FolderFailed k → ⊥) → (SinkFailed k → ⊥) → (status ≡ code o) ⊎ (status ≡ 7)
  drill_comes o h fine quiet = unrefused k status (λ none. none) (comes_exactly ends files (Drill names) is l o (lead (task_in (roomy names) files) drill_rest task holds o h) fine quiet tt)

  is_large : (o : Outcome) → status ≡ code o → IsOrNotPut (WorldEnds k (Drill names)) k.before.sink k.after.sink o → status ≡ 11 → MAX_DRILL_SHIFTS < length (shifts_of task.plan)
  is_large (Found (TooLarge shifts)) at h eleven = ⊎_elim (λ large. large.0) (λ rest. absurd rest.2) (drill_end (Found (TooLarge shifts)) h.cause)
  is_large (Found (NotSpelled f line)) at h eleven = absurd (not_spelled f at eleven (λ e. cc) (λ e. cc))
  is_large (Refusal r) at h eleven = absurd (omega (arith, at, eleven, (refusal_between r).1))
  is_large o at h eleven = absurd (omega (arith, at, eleven))

  pub drills_well : DrillsWell k task status
  drills_well =
      let e = ends_of ends (Drill names) l in
      record {
        told = λ zero. let (text, h, put) = put_by e zero in subst (λ (t : List ℕ). Extends t k.before.sink k.after.sink) (drill_end (Done text) h.cause).2 put;
        drills = λ fits. drill_comes (Done (drill_text task.plan)) (tt, fits, refl);
        refuses = λ more. drill_comes (Found (TooLarge (length (shifts_of task.plan)))) (inl (more, refl));
        large = is_large e.outcome e.is e.so;
        files = holds_by e (Untouched k.before.folder k.after.folder) (λ o h. h.leaves);
        store = holds_by e (IsUntouched k.before.store k.after.store) (λ o h. h.store);
      }

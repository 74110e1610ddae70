-- What the ends of commands say of the store.
use Rattle.mig_top.proofs.Common.{Audit, Call, CauseIn, Cell, CommandError, EndsAs, Err, Event, Files, Fill, FolderLeaves, Form, Halt, HasFiles, IfSome, Image, IsMoving, IsOrNotPut, IsOutcomeOf, IsState}
use Rattle.mig_top.proofs.Common.{IsTargetOf, IsUntouched, IsUnwritten, List, Live, Looks, Move, NoCell, Outcome, Resume, SameBut, Settles, State, Step, StoreLeaves, TakesFrom, WorldEnds}
use Rattle.mig_top.proofs.Common.{WritesLast, WroteNothing, [], and_then, arith, changes_none, code, flights, inl, inr, outcome_of, refl, same_image, subst, sym, ℕ, ⊎_elim, ◌∙◌, ◌≡◌, ◌⊎◌}
use Rattle.mig_base.specs.Stores.{Changes}
use Rattle.mig_words.specs.Outcomes as out
use Rattle.mig_top.proofs.EndsOf.{IsUnread, files_cause, files_unread}
use Rattle.mig_top.proofs.Steps.{fails_first}
use Rattle.mig_words.specs.declared.endings.StoreRefusal.TheVariants as refusal

-- a store that no call was made of
pub untouched : {store : State} → IsUntouched store store
untouched =
    record { reads = refl; leaves = λ image left. left; left = λ image left. left; moment = refl; since = λ t image left. left; left_since = λ t image left. left; events = refl; faults = refl }

pub looks_none : (store : State) → Looks store store
looks_none store = changes_none (IsMoving store) NoCell store

pub untouched_looks : (old new : State) → IsUntouched old new → Looks old new
untouched_looks old new same =
    let none = looks_none old in
    record {
      told = subst (λ (reads : Image). SameBut (IsMoving old) old.reads reads) (sym same.reads) none.told;
      crash = λ image left. none.crash image (same.leaves image left);
      time = record { later = omega (arith, same.moment); since = λ t image le left. inl (same.since t image left) };
      keeps = λ t image le left. same.left_since t image left;
      images = λ told. subst new.may_leave (sym same.reads) (same.left old.reads told);
      events = same.events ∙ none.events;
    }

-- what reads of a settled store give is an image that a crash in the beginning may leave
pub settled_left : (old new : State) → Settles old new → old.may_leave old.reads → old.may_leave new.reads
settled_left old new settles told =
    let from = settles.change.crash new.reads (settles.change.images told) in
    subst old.may_leave (same_image from.0 new.reads from.2) from.1

-- a command whose files weren't loaded or read leaves the store as it was
pub unread_store : (k : Call) (form : Form) (o : Outcome) → IsUnread o → IsUntouched k.before.store k.after.store → StoreLeaves k form o
unread_store k form (out.Done text) u kept = absurd u
unread_store k form (out.StoreFault before) u kept = absurd u
unread_store k form (out.SinkFault text) u kept = absurd u
unread_store k form (out.Refusal r) u kept = absurd u
unread_store k form out.Unlisted u kept = absurd u
unread_store k (Audit disks now) o u kept = untouched_looks k.before.store k.after.store kept
unread_store k (Halt names layout) out.FolderFault u kept = inl kept
unread_store k (Halt names layout) out.Memory u kept = inl kept
unread_store k form o u kept = kept

-- how such a command ends
pub unread : {k : Call} {form : Form} {A B : Type 0} {view : B → A} {names : List (List ℕ)} {first : Files → Step A} {e : CommandError} (rest : A → Step (List ℕ))
    → ((o : Outcome) → IfSome k.before.folder.files (λ files. IsOutcomeOf (and_then (first files) rest) o) → CauseIn k.before form o)
    → HasFiles form → ((o : Outcome) → IsUnread o → FolderLeaves k.before.folder k.after.folder form o) → IsUntouched k.before.store k.after.store
    → TakesFrom view k.before.folder k.after.folder names first (Err e) → WorldEnds k form (outcome_of names e)
unread {k = k} {form = form} {names = names} {first = first} {e = e} rest to has leaves kept h =
    let o = outcome_of names e in
    let steps : Files → Step (List ℕ) = λ files. and_then (first files) rest in
    let all : TakesFrom (λ (text : List ℕ). text) k.before.folder k.after.folder names steps (Err e) = fails_first h refl (λ files o s. inl s) in
    let (u, cause) = files_unread names k.before.folder k.after.folder steps e all.stops in
    record { cause = files_cause k form steps has to o cause; leaves = leaves o u; store = unread_store k form o u kept }

-- Where nothing was written

module _ (old new : State) (law : IsState old) where
  pub untouched_quiet : IsUntouched old new → WroteNothing old new
  untouched_quiet same image left = law.only_now image (same.since old.moment image left)

  pub quiet : (P : Cell → Type 0) (added : List Event) → Changes P NoCell added old new → WroteNothing old new
  quiet P added change image left = ⊎_elim (law.only_now image) (λ from. subst old.may_leave (same_image from.0 image from.2) from.1) (change.time.since old.moment image (omega arith) left)

  pub settled_quiet : Settles old new → WroteNothing old new
  settled_quiet settles = quiet (IsTargetOf (flights old)) settles.added settles.change

  unwritten_quiet : IsUnwritten old new → WroteNothing old new
  unwritten_quiet = ⊎_elim untouched_quiet settled_quiet

-- the outcomes with which a command over a store may have written
abbrev pub Writes : Outcome → Type 0
Writes (out.Done text) = Unit {0}
Writes (out.StoreFault before) = Unit {0}
Writes (out.SinkFault text) = Unit {0}
Writes _ = ⊥

writes_code : (o : Outcome) → Writes o → (code o ≡ 0) ⊎ (code o ≡ 5) ⊎ (code o ≡ 6)
writes_code (out.Done text) w = inl refl
writes_code (out.StoreFault before) w = inr (inl refl)
writes_code (out.SinkFault text) w = inr (inr refl)
writes_code _ w = absurd w

module _ (k : Call) (law : IsState k.before.store) where
  pub form_quiet : (form : Form) (o : Outcome) → StoreLeaves k form o → (Writes o → ⊥) → WroteNothing k.before.store k.after.store
  form_quiet form (out.Done text) h not = absurd (not tt)
  form_quiet form (out.StoreFault before) h not = absurd (not tt)
  form_quiet form (out.SinkFault text) h not = absurd (not tt)
  form_quiet (Audit d n) o h not = quiet k.before.store k.after.store law (IsMoving k.before.store) [] h
  form_quiet (Fill d n) (out.Refusal refusal.Started) h not = settled_quiet k.before.store k.after.store law h
  form_quiet (Fill d n) (out.Refusal (refusal.Occupied disk slot)) h not = settled_quiet k.before.store k.after.store law h
  form_quiet (Move names) (out.Refusal refusal.NotStarted) h not = untouched_quiet k.before.store k.after.store law h
  form_quiet (Move names) (out.Refusal r) h not = settled_quiet k.before.store k.after.store law h.2.settles
  form_quiet (Resume names) (out.Refusal refusal.NotStarted) h not = untouched_quiet k.before.store k.after.store law h
  form_quiet (Resume names) (out.Refusal r) h not = settled_quiet k.before.store k.after.store law h.2.settles
  form_quiet (Live names script) (out.Refusal refusal.NotStarted) h not = untouched_quiet k.before.store k.after.store law h
  form_quiet (Live names script) (out.Refusal r) h not = settled_quiet k.before.store k.after.store law h.2.2
  form_quiet (Halt names layout) (out.Refusal refusal.NotStarted) h not = settled_quiet k.before.store k.after.store law h
  form_quiet (Halt names layout) (out.Refusal (refusal.OtherPlan kept ours)) h not = settled_quiet k.before.store k.after.store law h
  form_quiet (Halt names layout) out.FolderFault h not = unwritten_quiet k.before.store k.after.store law h
  form_quiet (Halt names layout) out.Memory h not = unwritten_quiet k.before.store k.after.store law h
  form_quiet form o h not = untouched_quiet k.before.store k.after.store law h

  pub writes_last : {words : List (List ℕ)} {status : ℕ} → EndsAs k words status → WritesLast k status
  writes_last (inl unknown) zero five six = untouched_quiet k.before.store k.after.store law unknown.store
  writes_last {status = status} (inr (form, l, e)) zero five six = by e.outcome e.is e.so
    where
      by : (o : Outcome) → status ≡ code o → IsOrNotPut (WorldEnds k form) k.before.sink k.after.sink o → WroteNothing k.before.store k.after.store
      by (out.SinkFault text) is h = absurd (six is)
      by o is h = form_quiet form o h.store (λ writes. ⊎_elim (λ e. zero (is ∙ e)) (⊎_elim (λ e. five (is ∙ e)) (λ e. six (is ∙ e))) (writes_code o writes))

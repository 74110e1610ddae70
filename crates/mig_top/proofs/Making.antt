-- What a command that makes something promises, from the causes of its outcomes and what it leaves.
use Rattle.mig_top.proofs.Common.{Call, CauseIn, Done, EndsAs, Extends, Files, FolderFailed, FolderFault, Form, FormCause, Found, InputRefusal, IsBegun, IsCutShort, IsListed, IsOrNotPut, IsSomeAnd, List}
use Rattle.mig_top.proofs.Common.{InputLists, Memory, Outcome, Refusal, SinkFault, Some, StoreFault, Unlisted, WorldEnds, arith, code, inl, input_code, inr, refusal_between, ℕ, ◌<◌, ◌∙◌, ◌≡◌, ◌≤◌, ◌⊎◌}
use Rattle.mig_top.proofs.EndsOf.{cause_at, ends_of, ends_so, put_by}
use Rattle.mig_top.specs.Making.{MakesWell}

-- the cause of each outcome where the files stand for an input: it is done, or this is wrong
abbrev pub Means : (InputRefusal → Type 0) → Outcome → Type 0
Means Wrong (Done text) = Unit {0}
Means Wrong (Found f) = Wrong f
Means Wrong _ = ⊥

-- how such a command is stopped, and what is wrong where it is
pub record IsMaker (k : Call) (form : Form) (files : Files) (Stands CannotMake : InputLists → Type 0) (Wrong : InputLists → InputRefusal → Type 0) (number : ℕ) : Type 0 where
  pub means : (input : InputLists) → Stands input → (o : Outcome) → FormCause files k.before.store form o → Means (Wrong input) o
  pub stopped : (f : InputRefusal) → input_code f ≡ number → FormCause files k.before.store form (Found f) → (input : InputLists) × Stands input × Wrong input f
  pub cannot : (input : InputLists) → Stands input → (f : InputRefusal) → Wrong input f → CannotMake input
  pub has_number : (input : InputLists) (f : InputRefusal) → Wrong input f → input_code f ≡ number
  pub undone : (input : InputLists) → Stands input → CannotMake input → (text : List ℕ) → WorldEnds k form (Done text) → ⊥
  pub uncut : (text : List ℕ) → IsCutShort k form text → ⊥
  pub unbegun : (before : List ℕ) → IsBegun k form before → ⊥

module _ {k : Call} {form : Form} {files : Files} {Stands CannotMake : InputLists → Type 0} {Wrong : InputLists → InputRefusal → Type 0} {number : ℕ} (is : k.before.folder.files ≡ Some files)
    (it : IsMaker k form files Stands CannotMake Wrong number) (high : 10 ≤ number) (low : number < 16) where
  told_cause : (input : InputLists) → Stands input → (o : Outcome) → CauseIn k.before form o → Means (Wrong input) o
  told_cause input held o h = it.means input held o (cause_at k files is form o h)

  cannot_by : (f : InputRefusal) → (input : InputLists) × Stands input × Wrong input f → (input : InputLists) × Stands input × CannotMake input
  cannot_by f (input, held, wrong) = (input, held, it.cannot input held f wrong)

  module _ {status : ℕ} where
    ends_by : (input : InputLists) (o : Outcome) → Means (Wrong input) o → status ≡ code o → (status ≡ 0) ⊎ (status ≡ 7) ⊎ (status ≡ number)
    ends_by input (Done text) m at = inl at
    ends_by input (Found f) m at = inr (inr (at ∙ it.has_number input f m))
    ends_by input _ m at = absurd m

    refused_by : (o : Outcome) → status ≡ code o → IsOrNotPut (WorldEnds k form) k.before.sink k.after.sink o → status ≡ number → (input : InputLists) × Stands input × CannotMake input
    refused_by (Found f) at h is_number = cannot_by f (it.stopped f (omega (arith, at, is_number)) (cause_at k files is form (Found f) h.cause))
    refused_by (Refusal r) at h is_number = absurd (omega (arith, at, is_number, high, (refusal_between r).1))
    refused_by o at h is_number = absurd (omega (arith, at, is_number, high, low))

    refuses_by : (input : InputLists) → Stands input → CannotMake input → (FolderFailed k → ⊥) → (o : Outcome) → status ≡ code o
        → IsOrNotPut (WorldEnds k form) k.before.sink k.after.sink o → (status ≡ 7) ⊎ (status ≡ number)
    refuses_by input held none fine (Done text) at h = absurd (it.undone input held none text h)
    refuses_by input held none fine (SinkFault text) at (rose, inl h) = absurd (it.undone input held none text h)
    refuses_by input held none fine (SinkFault text) at (rose, inr h) = absurd (it.uncut text h.cause)
    refuses_by input held none fine (Found f) at h = inr (at ∙ it.has_number input f (told_cause input held (Found f) h.cause))
    refuses_by input held none fine Memory at h = inl at
    refuses_by input held none fine FolderFault at h = absurd (fine h.cause.0)
    refuses_by input held none fine (StoreFault before) at h = absurd (it.unbegun before h.cause.1)
    refuses_by input held none fine Unlisted at h = absurd h.cause
    refuses_by input held none fine o at h = absurd (told_cause input held o h.cause)

    pub makes_well : (Made : Files → Type 0) → ((text : List ℕ) → WorldEnds k form (Done text) → Extends text k.before.sink k.after.sink → IsSomeAnd k.after.folder.files Made)
        → {words : List (List ℕ)} → EndsAs k words status → IsListed words form → MakesWell k Stands CannotMake number Made status
    makes_well Made made ends l =
        let e = ends_of ends form l in
        record {
          ends = λ input held fine quiet. elim (ends_so ends files is form l fine quiet) [
            | inl so ↦ ends_by input so.0 (it.means input held so.0 so.1) so.2
            | inr (inl seven) ↦ inr (inl seven)
            | inr (inr five) ↦ absurd (it.unbegun five.1 five.2.1)
          ];
          refused = refused_by e.outcome e.is e.so;
          refuses = λ input held none fine. refuses_by input held none fine e.outcome e.is e.so;
          made = λ zero. let (text, h, put) = put_by e zero in made text h put;
        }

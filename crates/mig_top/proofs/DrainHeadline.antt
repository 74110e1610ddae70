-- What `drain` promises, from the causes of its outcomes and what it leaves.
use Rattle.mig_top.proofs.Common.{Call, CannotDrain, Done, Drain, DrainsWell, EndsAs, Files, Form, FormCause, Found, HasDrained, HoldsLayout, InputRefusal, IsDiskNamed, IsDrainSaved, IsListed, IsNoDisk, IsOutcomeOf}
use Rattle.mig_top.proofs.Common.{InputLists, IsSomeAnd, LacksSlots, List, NoDisk, NoRoom, Outcome, Refused, Some, Step, and_then, arith, finds, finds_disk, fits_others, input_code}
use Rattle.mig_top.proofs.Common.{free_elsewhere, inl, inr, layout_in, present, refl, subst, ℕ, ◌<◌, ◌≡◌, ◌⊎◌}
use Rattle.mig_top.proofs.EndsOf.{cause_at, told_at}
use Rattle.mig_top.proofs.Exactness.{disk_exact, layout_in_exact}
use Rattle.mig_top.proofs.Headline.{layout_stop, some_and_map}
use Rattle.mig_top.proofs.Making.{IsMaker, Means, makes_well}
use Rattle.mig_top.proofs.Steps.{follow}

-- what is wrong with the name of the disk, or with the slots of the others
abbrev IsWrongWith : List ℕ → InputLists → InputRefusal → Type 0
IsWrongWith name input f = IsNoDisk input name f ⊎ ((v : ℕ) × IsDiskNamed input name v × LacksSlots input v f)

-- says that the disk can't be emptied, and has this status
wrong_cannot : (name : List ℕ) (input : InputLists) (f : InputRefusal) → IsWrongWith name input f → CannotDrain name input
wrong_cannot name input (NoDisk word) (inl h) = inl h.1
wrong_cannot name input (NoRoom items free) (inr (v, named, h)) = inr (v, named, omega (arith, h.0, h.1, h.2))
wrong_cannot name input _ (inl h) = absurd h
wrong_cannot name input _ (inr (v, named, h)) = absurd h

wrong_code : (name : List ℕ) (input : InputLists) (f : InputRefusal) → IsWrongWith name input f → input_code f ≡ 14
wrong_code name input (NoDisk word) h = refl
wrong_code name input (NoRoom items free) h = refl
wrong_code name input _ (inl h) = absurd h
wrong_code name input _ (inr (v, named, h)) = absurd h

-- what is left of it once its layout is known
abbrev rest : List ℕ → InputLists → Step (List ℕ)
rest name input = and_then (finds_disk name input) (λ v. and_then (fits_others input v) (λ _. finds (λ text. Unit {0})))

means_rest : (name : List ℕ) (input : InputLists) (o : Outcome) → IsOutcomeOf (rest name input) o → Means (IsWrongWith name input) o
means_rest name input (Done text) h = tt
means_rest name input (Found f) (inl none) = inl none
means_rest name input (Found f) (inr (v, named, inl lacks)) = inr (v, named, lacks)
means_rest name input (Found f) (inr (v, named, inr none)) = absurd none.2
means_rest name input _ (inl none) = absurd none
means_rest name input _ (inr (v, named, inl none)) = absurd none
means_rest name input _ (inr (v, named, inr none)) = absurd none.2

module _ (k : Call) (disks now name next : List ℕ) (files : Files) (is : k.before.folder.files ≡ Some files) where
  abbrev form : Form
  form = Drain disks now name next

  at_rest : (input : InputLists) → HoldsLayout files disks now input → (o : Outcome) → FormCause files k.before.store form o → IsOutcomeOf (rest name input) o
  at_rest input held o h = follow (layout_in disks now files) (layout_in_exact disks now files) (rest name) input held o h

  -- where status 14 comes, the files stand for a layout
  stopped : (f : InputRefusal) → input_code f ≡ 14 → FormCause files k.before.store form (Found f) → (input : InputLists) × HoldsLayout files disks now input × IsWrongWith name input f
  stopped (Refused f n w) at h = absurd (omega (arith, at))
  stopped f at (inl (inl h)) = absurd (layout_stop files disks now (Found f) h)
  stopped f at (inl (inr (bodies, there, none))) = absurd none
  stopped f at (inr (input, held, h)) = (input, held, means_rest name input (Found f) h)

  -- what was done can be done
  undone : (input : InputLists) → HoldsLayout files disks now input → CannotDrain name input → (text : List ℕ) → IsOutcomeOf (rest name input) (Done text) → ⊥
  undone input held (inl none) text (v, named, fits) = none v named
  undone input held (inr (u, at, few)) text (v, named, fits) =
      let same : u ≡ v = (disk_exact disks now files name input held).one_found u v at named in
      let here : free_elsewhere input v < present input v = subst (λ (d : ℕ). free_elsewhere input d < present input d) same few in
      omega (arith, here, fits.1)

  maker : IsMaker k form files (HoldsLayout files disks now) (CannotDrain name) (IsWrongWith name) 14
  maker = record {
    means = λ input held o h. means_rest name input o (at_rest input held o h);
    stopped = stopped;
    cannot = λ input held. wrong_cannot name input;
    has_number = wrong_code name;
    undone = λ input held none text h. undone input held none text (at_rest input held (Done text) (cause_at k files is form (Done text) h.cause));
    uncut = λ text h. h;
    unbegun = λ before h. h;
  }

  pub drains_well : {words : List (List ℕ)} {status : ℕ} → EndsAs k words status → IsListed words form → DrainsWell k files disks now name next status
  drains_well ends l = makes_well is maker (omega arith) (omega arith) (HasDrained k disks now name next files) (λ text h put.
      some_and_map (IsDrainSaved disks now name next text files) (HasDrained k disks now name next files) k.after.folder.files (λ new saved. (text, saved, put))
      (told_at (λ old. IsSomeAnd k.after.folder.files (IsDrainSaved disks now name next text old)) k.before.folder.files files is h.leaves)) ends l

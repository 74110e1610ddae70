-- From what is judged of an input, a plan and a certificate to what is said of the numbers that spell them.
use Rattle.mig_numbers.proofs.Common.{AreRightNumbers, AreRowsSound, AreSound, AreSpelled, Blame, Bool, Cert, CertHolds, DiskNumbers, FirstBlame}
use Rattle.mig_numbers.proofs.Common.{Found, HasNoFault, InputLists, IsBlamed, IsFoundSound, ItemNumbers, Judged, List, Needs, Once, PlanFits, Runs}
use Rattle.mig_numbers.proofs.Common.{Shift, ShiftNumbers, blame_by, bound_value, cert_by, input_of, length, plan_by, right, subst, sym, ℕ, ◌≡◌}
use Rattle.mig_numbers.proofs.Named.{alike_by, first_blame, no_fault}
use Rattle.mig_numbers.proofs.SortedRows.{plan_fits}

module _ {split : Bool} {disks : List DiskNumbers} {items : List ItemNumbers} (rows : List ShiftNumbers) {set : List ℕ} {found : Found}
    {input : InputLists} {plan : List (List Shift)} {cert : Cert} (sound : AreSound split disks items) (found_sound : IsFoundSound input set found)
    (is_input : input ≡ input_of split disks items) (is_plan : plan ≡ plan_by items rows found.rounds) (is_cert : cert ≡ cert_by found set)
    (rows_sound : AreRowsSound disks items found.rounds rows (length rows)) where
  pub fits : PlanFits input plan
  fits = subst (λ (i : InputLists). PlanFits i plan) (sym is_input) (subst (PlanFits (input_of split disks items)) (sym is_plan) (plan_fits split disks items rows found.rounds found_sound.few sound rows_sound))

  -- what holds of these holds of those that the numbers spell
  spelled_by : (P : InputLists → List (List Shift) → Cert → Type 0) → P input plan cert → P (input_of split disks items) (plan_by items rows found.rounds) (cert_by found set)
  spelled_by P h =
      subst (λ (c : Cert). P (input_of split disks items) (plan_by items rows found.rounds) c) is_cert
      (subst (λ (p : List (List Shift)). P (input_of split disks items) p cert) is_plan (subst (λ (i : InputLists). P i plan cert) is_input h))

  spelled : AreSpelled split disks items rows set found
  spelled = record { sound = sound; found_sound = subst (λ (i : InputLists). IsFoundSound i set found) is_input found_sound; rows_sound = rows_sound }

  pub is_right : (judged : Judged) → Runs input plan → Once input plan → CertHolds input plan cert → Needs input (bound_value cert.bound) → judged ≡ right found → AreRightNumbers split disks items rows set found judged
  is_right judged runs once holds needs says =
      let none = spelled_by HasNoFault (record { runs = runs; once = once; holds = holds; needs = needs }) in
      record { spelled = spelled; faultless = λ named s. no_fault (input_of split disks items) named (alike_by split disks items named s) (plan_by items rows found.rounds) (cert_by found set) none; says = says }

  pub is_blamed : (judged : Judged) (blame : Blame) → FirstBlame input plan cert blame → judged ≡ blame_by blame → IsBlamed split disks items rows set found judged
  is_blamed judged blame first says =
      let here = spelled_by (λ i p c. FirstBlame i p c blame) first in
      record { spelled = spelled; blame = blame; first = λ named s. first_blame (input_of split disks items) named (alike_by split disks items named s) (plan_by items rows found.rounds) (cert_by found set) blame here; says = says }

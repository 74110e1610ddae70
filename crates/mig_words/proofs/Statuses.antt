-- Which statuses outcomes have.
use Rattle.mig_words.proofs.Common.{List, arith, refl, subst, sym, ℕ, ◌∙◌, ◌≡◌, ◌≢◌}
use Rattle.mig_words.specs.Outcomes.{Done, Found, Outcome, Refusal, SinkFault, code, input_code, spelling_code, store_code}
use Rattle.mig_words.specs.declared.endings.InputRefusal.{InputRefusal}
use Rattle.mig_words.specs.declared.endings.InputRefusal.TheVariants as finding
use Rattle.mig_words.specs.declared.endings.StoreRefusal.{StoreRefusal}
use Rattle.mig_words.specs.declared.endings.StoreRefusal.TheVariants as refusal
use Rattle.mig_words.specs.declared.endings.TextFile.{TextFile}
use Rattle.mig_words.specs.declared.endings.TextFile.TheVariants as text_file
use Rattle.std.proofs.Common.{inl, inr, ⊎_elim, ◌≤◌, ◌⊎◌}

-- a text that is no spelling has one of two
spelling_is : (f : TextFile) → (spelling_code f ≡ 10) ⊎ (spelling_code f ≡ 15)
spelling_is text_file.Plan = inl refl
spelling_is text_file.Cert = inl refl
spelling_is text_file.Script = inr refl

-- and no other
pub not_spelled : (f : TextFile) {status n : ℕ} → status ≡ spelling_code f → status ≡ n → n ≢ 10 → n ≢ 15 → ⊥
not_spelled f at is ten fifteen = ⊎_elim (λ e. ten (sym is ∙ at ∙ e)) (λ e. fifteen (sym is ∙ at ∙ e)) (spelling_is f)

pub finding_apart : (f : InputRefusal) → (input_code f ≢ 0) × (input_code f ≢ 6) × (input_code f ≤ 15)
finding_apart (finding.Blamed b name) = (λ e. cc, λ e. cc, omega arith)
finding_apart (finding.NotSpelled f line) =
    (λ e. not_spelled f refl e (λ e. cc) (λ e. cc), λ e. not_spelled f refl e (λ e. cc) (λ e. cc), ⊎_elim (λ e. omega (arith, e)) (λ e. omega (arith, e)) (spelling_is f))
finding_apart _ = (λ e. cc, λ e. cc, omega arith)

pub refusal_between : (r : StoreRefusal) → (8 ≤ store_code r) × (store_code r ≤ 9)
refusal_between (refusal.NotThere item) = (omega arith, omega arith)
refusal_between _ = (omega arith, omega arith)

-- none is more than this
pub code_most : (o : Outcome) → code o ≤ 16
code_most (Found f) = let most = (finding_apart f).2 in omega (arith, most)
code_most (Refusal r) = let most = (refusal_between r).1 in omega (arith, most)
code_most _ = omega arith

-- the outcomes with status 0, and with 6
pub zero_done : (o : Outcome) → code o ≡ 0 → (text : List ℕ) × (o ≡ Done text)
zero_done (Done text) e = (text, refl)
zero_done (Found f) e = absurd ((finding_apart f).0 e)
zero_done (Refusal r) e = absurd (omega (arith, e, (refusal_between r).0))
zero_done _ e = absurd cc

pub six_unput : (o : Outcome) → code o ≡ 6 → (text : List ℕ) × (o ≡ SinkFault text)
six_unput (SinkFault text) e = (text, refl)
six_unput (Found f) e = absurd ((finding_apart f).1 e)
six_unput (Refusal r) e = absurd (omega (arith, e, (refusal_between r).0))
six_unput _ e = absurd cc

-- an outcome of a command that isn't done, and whose text wasn't cut off, has neither
abbrev pub IsNotDone : Outcome → Type 0
IsNotDone (Done text) = ⊥
IsNotDone (SinkFault text) = ⊥
IsNotDone _ = Unit {0}

pub not_done : (o : Outcome) → IsNotDone o → {status : ℕ} → status ≡ code o → (status ≡ 0) ⊎ (status ≡ 6) → ⊥
not_done o not at = ⊎_elim (λ zero. let d = zero_done o (sym at ∙ zero) in subst IsNotDone d.1 not) (λ six. let c = six_unput o (sym at ∙ six) in subst IsNotDone c.1 not)

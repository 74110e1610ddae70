-- How bytes are written, some at a time.
use Rattle.mig_files.proofs.Common.{FilesState, HasBytes, IsTrue, IsWithin, IsWriteStep, List, Notes, Place, ap, arith, cases_lt, inl, inr, length, places, rules, slice_index, slice_range, sym}
use Rattle.mig_files.proofs.Common.{ℕ, ◌+◌, ◌-◌, ◌<◌, ◌∙◌, ◌≡◌, ◌≤◌}
use Rattle.mig_calls.proofs.FilesSteps.{change_within}
use Rattle.mig_files.proofs.FilesSteps.{told_before}

-- the bytes behind those that were written
abbrev pub rest : List ℕ → ℕ → List ℕ
rest bytes done = slice_range bytes done (length bytes)

rest_len : (bytes : List ℕ) (done : ℕ) → done ≤ length bytes → done + length (rest bytes done) ≡ length bytes
rest_len bytes done le = search (rules, places)

-- a write of them is one of all
pub rest_step : (bytes : List ℕ) (done : ℕ) {t : Notes} {file : Place} {at : ℕ} {a b : FilesState} → done ≤ length bytes → IsWriteStep t file (at + done) (length (rest bytes done)) a b
    → IsWriteStep t file at (length bytes) a b
rest_step bytes done {t} {file} {at} {a} {b} le step = record {
  tracked = step.tracked;
  change = change_within wide step.change;
  later = step.later;
  more = step.more;
}
  where
    W : Place → ℕ → Type 0
    W = IsWithin file (at + done) (length (rest bytes done))

    wide : (place : Place) (i : ℕ) → W place i → IsWithin file at (length bytes) place i
    wide place i is = record { in_file = is.in_file; from = omega (arith, is.from); below = omega (arith, is.below, rest_len bytes done le) }

-- those before stay
pub rest_still : (at : ℕ) (bytes : List ℕ) (done : ℕ) {t : Notes} {file : Place} {m : ℕ} {a b : FilesState} → IsWriteStep t file (at + done) m a b
    → (IsTrue (a.told file) → HasBytes (a.reads file) at done bytes) → IsTrue (b.told file) → HasBytes (b.reads file) at done bytes
rest_still at bytes done {t} {file} step early told i lt =
    early (told_before step.change file told) i lt ∙ sym (step.change.bytes file (at + i) (λ is. absurd (omega (arith, is.from, lt))))

-- and those that were written now stand behind them
pub rest_written : (at : ℕ) (bytes : List ℕ) (done got : ℕ) {t : Notes} {file : Place} {m : ℕ} {a b : FilesState} → IsWriteStep t file (at + done) m a b
    → (IsTrue (a.told file) → HasBytes (a.reads file) at done bytes) → got ≤ length (rest bytes done) → done ≤ length bytes
    → (IsTrue (b.told file) → HasBytes (b.reads file) (at + done) got (rest bytes done)) → IsTrue (b.told file) → HasBytes (b.reads file) at (done + got) bytes
rest_written at bytes done got {t} {file} {m} {a} {b} step early few le late told i lt = elim (cases_lt i done) [
  | inl before ↦ rest_still at bytes done step early told i before
  | inr behind ↦
      let here : done + (i - done) ≡ i = omega arith in
      let inside : i - done < got = omega arith in
      let read : slice_index (rest bytes done) (i - done) ≡ slice_index bytes (done + (i - done)) = search (rules, places) in
      let there : at + done + (i - done) ≡ at + i = omega arith in
      ap (slice_index bytes) (sym here) ∙ sym read ∙ late told (i - done) inside ∙ ap (b.reads file) there
]

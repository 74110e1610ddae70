-- What a change of files keeps.
use Rattle.mig_files.proofs.Common.{Bool, FilesChange, FilesLook, FilesState, HasBytes, IsTrue, List, Place, ap, arith, inl, refl, sym, ℕ, ◌+◌, ◌∙◌}

-- nothing happened
pub no_change : {P Q : Place → ℕ → Type 0} {s : FilesState} → FilesChange P Q s s
no_change = record {
  told = refl;
  bytes = λ place i not. refl;
  crash = λ files left. (files, left, λ place i not. refl);
  later = omega arith;
  refused = omega arith;
  since = λ t files le left. inl left;
  keeps = λ t files le left. left;
  images = λ left. left;
}

-- a file that is told goes on being told
pub told_before : {P Q : Place → ℕ → Type 0} {a b : FilesState} → FilesChange P Q a b → (place : Place) → IsTrue (b.told place) → IsTrue (a.told place)
told_before change place is = ap (λ (told : Place → Bool). told place) (sym change.told) ∙ is

pub told_after : {P Q : Place → ℕ → Type 0} {a b : FilesState} → FilesChange P Q a b → (place : Place) → IsTrue (a.told place) → IsTrue (b.told place)
told_after change place is = ap (λ (told : Place → Bool). told place) change.told ∙ is

-- bytes that were read are the file's bytes still
pub bytes_after : {a b : FilesState} → FilesLook a b → (place : Place) (at n : ℕ) (bytes : List ℕ) → HasBytes (a.reads place) at n bytes → HasBytes (b.reads place) at n bytes
bytes_after look place at n bytes has i lt = has i lt ∙ sym (look.bytes place (at + i) (λ none. none))

pub bytes_before : {a b : FilesState} → FilesLook a b → (place : Place) (at n : ℕ) (bytes : List ℕ) → HasBytes (b.reads place) at n bytes → HasBytes (a.reads place) at n bytes
bytes_before look place at n bytes has i lt = has i lt ∙ look.bytes place (at + i) (λ none. none)

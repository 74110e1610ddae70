-- One change of files after another.
use Rattle.mig_calls.proofs.Common.{Bool, Err, FilesChange, FilesLook, FilesState, IsLeftFilesBut, IsWithin, Ok, OnErr, OnOk, Place, PlaceBytes}
use Rattle.mig_calls.proofs.Common.{Result, TouchesFile, arith, inl, inr, ℕ, ◌∙◌, ◌≡◌, ◌≤◌, ◌⊎◌}

module _ {P Q : Place → ℕ → Type 0} {a b c : FilesState} (first : FilesChange P Q a b) (second : FilesChange P Q b c) where
  back_two : (files : PlaceBytes) → IsLeftFilesBut Q b files → IsLeftFilesBut Q a files
  back_two files left =
      let before = first.crash left.0 left.1 in
      (before.0, before.1, λ place i out. left.2 place i out ∙ before.2 place i out)

  since_two : (t : ℕ) (files : PlaceBytes) → t ≤ a.moment → b.left_since t files ⊎ IsLeftFilesBut Q b files → a.left_since t files ⊎ IsLeftFilesBut Q a files
  since_two t files le (inl left) = first.since t files le left
  since_two t files le (inr left) = inr (back_two files left)

  pub change_then : FilesChange P Q a c
  change_then = record {
    told = second.told ∙ first.told;
    bytes = λ place i out. second.bytes place i out ∙ first.bytes place i out;
    crash = λ files left. back_two files (second.crash files left);
    later = omega (arith, first.later, second.later);
    refused = omega (arith, first.refused, second.refused);
    since = λ t files le left. since_two t files le (second.since t files (omega (arith, first.later)) left);
    keeps = λ t files le left. second.keeps t files (omega (arith, first.later)) (first.keeps t files le left);
    images = λ was. second.images (first.images was);
  }

-- a change within these bytes is one within more
pub change_within : {P Q : Place → ℕ → Type 0} {a b : FilesState} → ((place : Place) (i : ℕ) → P place i → Q place i) → FilesChange P P a b → FilesChange Q Q a b
change_within {P} {Q} {a} {b} within change = record {
  told = change.told;
  bytes = λ place i out. change.bytes place i (λ is. out (within place i is));
  crash = λ files left. more files (change.crash files left);
  later = change.later;
  refused = change.refused;
  since = λ t files le left. elim (change.since t files le left) [
    | inl was ↦ inl was
    | inr now ↦ inr (more files now)
  ];
  keeps = change.keeps;
  images = change.images;
}
  where
    more : (files : PlaceBytes) → IsLeftFilesBut P a files → IsLeftFilesBut Q a files
    more files left = (left.0, left.1, λ place i out. left.2 place i (λ is. out (within place i is)))

pub look_change : {P : Place → ℕ → Type 0} {a b : FilesState} → FilesLook a b → FilesChange P P a b
look_change = change_within (λ place i none. absurd none)

pub touches_then : {place : Place} {a b c : FilesState} → TouchesFile place a b → TouchesFile place b c → TouchesFile place a c
touches_then first second = record { others = λ other not. second.others other not ∙ first.others other not }

pub either : {T E A B C : Type 0} (r : Result T E) → OnOk r A → OnErr r B → (A → C) → (B → C) → C
either (Ok x) a b f g = f a
either (Err e) a b f g = g b

pub at_place : {f g : Place → Bool} → f ≡ g → (place : Place) → f place ≡ g place
at_place same place j = same j place

pub touches_of : (place : Place) {a b : FilesState} → b.flushed ≡ a.flushed → TouchesFile place a b
touches_of place flushed = record { others = λ other out. at_place flushed other }

pub within_more : (file : Place) (at n m : ℕ) → n ≤ m → (place : Place) (i : ℕ) → IsWithin file at n place i → IsWithin file at m place i
within_more file at n m few place i is = record { in_file = is.in_file; from = is.from; below = omega (arith, few, is.below) }

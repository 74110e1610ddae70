-- What is loaded of a file says as much as the whole: bytes that are alike are read alike.
use Rattle.std.specs.Prelude.{List, length, take, ℕ, ◌+◌, ◌<◌, ◌↔◌, ◌≡◌, ◌⊎◌}
use Rattle.mig_top.specs.Common.{InputLists, MAX_FILE_BYTES, Outcome, Reader, ThreeFiles}
use Rattle.mig_top.specs.Loads.{LayoutBodies, reads_cert, reads_input, reads_layout, reads_plan}
use Rattle.mig_top.specs.Steps.{Step}

-- the same bytes, or both more than a file may have
abbrev pub Alike : List ℕ → List ℕ → Type 0
Alike a b = (a ≡ b) ⊎ ((MAX_FILE_BYTES < length a) × (MAX_FILE_BYTES < length b))

-- a step that passes and stops as another does
pub record IsSame {A : Type 0} (one two : Step A) : Type 0 where
  pub passes : (a : A) → one.Passes a ↔ two.Passes a
  pub stops : (o : Outcome) → one.Stops o ↔ two.Stops o

-- a file begins alike, and so inputs, layouts, plans and certificates are read from its beginning as from the whole
pub record AreReadAlike : Type 0 where
  pub begins : (whole : List ℕ) → Alike whole (take (MAX_FILE_BYTES + 1) whole)
  pub inputs : (reader : Reader) (a b : ThreeFiles) → Alike a.disks b.disks → Alike a.now b.now → Alike a.next b.next → IsSame (reads_input reader a) (reads_input reader b)
  pub layouts : (a b : LayoutBodies) → Alike a.disks b.disks → Alike a.now b.now → IsSame (reads_layout a) (reads_layout b)
  pub plans : (a b : List ℕ) (input : InputLists) → Alike a b → IsSame (reads_plan a input) (reads_plan b input)
  pub certs : (a b : List ℕ) (input : InputLists) → Alike a b → IsSame (reads_cert a input) (reads_cert b input)

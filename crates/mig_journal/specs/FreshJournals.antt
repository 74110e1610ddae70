-- What a journal holds once it is armed, and while it is.
use Rattle.std.specs.Prelude.{◌≡◌, ◌≤◌, IsTrue, ℕ, List, [], ◌∷◌, IfSome}
use Rattle.mig_base.specs.declared.cells.Cell.TheVariants.{Head, Mark}
use Rattle.mig_base.specs.Images.{Image, SameBut}
use Rattle.mig_base.specs.Journals.{is_armed}
use Rattle.mig_base.specs.JobCells.{IsJournal}
use Rattle.mig_base.specs.Stores.{State}

-- each of the marks 1 to so many is 0, where it is told
abbrev pub AreUnmarked : ℕ → Image → Type 0
AreUnmarked rounds image = (n : ℕ) → 1 ≤ n → n ≤ rounds → IfSome (image (Mark n)) (λ bytes. bytes ≡ 0 ∷ [])

-- the head is the digest, where it is told, and the marks are 0
pub record IsFresh (rounds : ℕ) (digest : List ℕ) (image : Image) : Type 0 where
  pub head : IfSome (image Head) (λ bytes. bytes ≡ digest)
  pub marks : AreUnmarked rounds image

-- the image differs in the journal alone from one that a crash may leave, and where its gate is 1 its journal is fresh
pub record IsArming (rounds : ℕ) (digest : List ℕ) (old : State) (image : Image) : Type 0 where
  pub before : Image
  pub left : old.may_leave before
  pub others : SameBut (IsJournal rounds) before image
  pub fresh : IsTrue (is_armed image) → IsFresh rounds digest image

-- What a command promises that makes something for what its files stand for, or says that nothing can be made.
use Rattle.std.specs.Prelude.{ℕ, ◌≡◌, ◌⊎◌}
use Rattle.mig_top.specs.Common.{Files, InputLists, IsSomeAnd}
use Rattle.mig_top.specs.Calls.{Call, FolderFailed, SinkFailed}

-- Where the files stand for an input and neither folder nor sink fails, the status is 0, 7 or this number. The number comes exactly where nothing can be made
-- for it, and yields to want of memory alone; and with 0 the files are as after what was made.
pub record MakesWell (k : Call) (Stands CannotMake : InputLists → Type 0) (number : ℕ) (Made : Files → Type 0) (status : ℕ) : Type 0 where
  pub ends : (input : InputLists) → Stands input → (FolderFailed k → ⊥) → (SinkFailed k → ⊥) → (status ≡ 0) ⊎ (status ≡ 7) ⊎ (status ≡ number)
  pub refused : status ≡ number → (input : InputLists) × Stands input × CannotMake input
  pub refuses : (input : InputLists) → Stands input → CannotMake input → (FolderFailed k → ⊥) → (status ≡ 7) ⊎ (status ≡ number)
  pub made : status ≡ 0 → IsSomeAnd k.after.folder.files Made

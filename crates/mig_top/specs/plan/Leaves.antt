-- What `plan` leaves in a folder.
use Rattle.std.specs.Prelude.{List, Some, ℕ, ◌≡◌, ◌≢◌, ◌⊎◌}
use Rattle.mig_top.specs.Common.{Done, Files, FolderState, InputLists, Names, OthersStay, Outcome, file}
use Rattle.mig_top.specs.Calls.{RelatesFiles, Untouched}
use Rattle.mig_top.specs.Loads.{FilesStand}
use Rattle.mig_top.specs.plan.Texts.{AreTextsOf}
use Rattle.mig_words.specs.Outcomes.{FolderFault}

-- no file but these two changed
abbrev pub OthersKeep : List ℕ → List ℕ → Files → Files → Type 0
OthersKeep plan cert old new = (other : List ℕ) → other ≢ plan → other ≢ cert → file new other ≡ file old other

-- the plan's file holds the text of a plan for the input of the three files, whose certificate has this text; no other file changed, but the certificate's perhaps
pub record IsPlanSaved (names : Names) (cert text : List ℕ) (old new : Files) : Type 0 where
  pub input : InputLists
  pub stands : FilesStand old names input
  pub plan_text : List ℕ
  pub texts : AreTextsOf input (record { plan = plan_text; cert = text })
  pub saved : file new names.plan ≡ Some plan_text
  pub others : OthersKeep names.plan cert old new

-- and the certificate's file holds this text
abbrev pub AreSaved : Names → List ℕ → List ℕ → Files → Files → Type 0
AreSaved names cert text old new = IsPlanSaved names cert text old new × (file new cert ≡ Some text)

-- Where the folder failed, no file changed but that of the plan perhaps, or the plan is saved and only that of the certificate may have changed besides.
abbrev pub PlanLeaves : FolderState → FolderState → Names → List ℕ → Outcome → Type 0
PlanLeaves old new names cert (Done text) = RelatesFiles old new (AreSaved names cert text)
PlanLeaves old new names cert FolderFault = RelatesFiles old new (OthersStay names.plan) ⊎ RelatesFiles old new (λ f g. (text : List ℕ) × IsPlanSaved names cert text f g)
PlanLeaves old new names cert _ = Untouched old new

-- What the files of `live` stand for: a task, and the orders of a session that carries it out step by step.
use Rattle.std.specs.Prelude.{List, ℕ}
use Rattle.mig_top.specs.Common.{Files, Names, ScriptText, roomy}
use Rattle.mig_top.specs.Loads.{HoldsFirst, IsTaskOf, loads, loads_plan}
use Rattle.mig_top.specs.Steps.{Step, and_then}
pub use Rattle.mig_commands.specs.Reads.{IsNoScript, Scripted, reads_script, reads_scripted}

-- in a folder: the script is loaded last
abbrev pub scripted_in : Names → List ℕ → Files → Step Scripted
scripted_in names script files =
    and_then (loads_plan names files) (λ bodies.
    and_then (loads script files) (λ last.
    reads_scripted bodies last))

-- Plainly: four files stand for the task, and the fifth begins with bytes that spell the orders
pub record AreScripted (files : Files) (names : Names) (script : List ℕ) (read : Scripted) : Type 0 where
  pub task : IsTaskOf files (roomy names) read.task
  pub bytes : List ℕ
  pub there : HoldsFirst files script bytes
  pub spelled : ScriptText read.task.input read.orders bytes

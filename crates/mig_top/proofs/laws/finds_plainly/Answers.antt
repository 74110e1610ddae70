use Rattle.mig_top.proofs.Plainly.{found_input, found_task, input_found, loads_there, task_found, there_loads}
use Rattle.mig_top.proofs.laws.finds_plainly.Goals as goal

pub returns-clause-files : goal.returns-clause-files
returns-clause-files c = λ files names bodies. (there_loads files names bodies, loads_there files names bodies)

pub returns-clause-inputs : goal.returns-clause-inputs
returns-clause-inputs c = λ reader files names input. (input_found reader files names input, found_input reader files names input)

pub returns-clause-tasks : goal.returns-clause-tasks
returns-clause-tasks c = λ files names task. (task_found files names task, found_task files names task)

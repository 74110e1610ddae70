-- What a read command stands for.
use Rattle.mig_words.specs.declared.words.Command.{Command}
use Rattle.mig_words.specs.declared.words.Command.TheVariants as command
use Rattle.mig_words.specs.declared.words.PlanFiles.{PlanFiles}
use Rattle.mig_words.specs.declared.words.TaskFiles.{TaskFiles}
use Rattle.mig_words.specs.Words.{Form, Names, TaskNames, Plan, Check, PlanTight, After, Fill, Audit, Rehearse, Move, Resume, Drill, Halt, Live, Drain}

-- the names that words are
abbrev pub names_in : PlanFiles → Names
names_in files = record { disks = files.disks.now; now = files.now.now; next = files.next.now; plan = files.plan.now }

abbrev pub task_names : TaskFiles → TaskNames
task_names task = record { reader = task.reader; files = names_in task.files }

-- the form of a command that was read
abbrev pub form_of : Command → Form
form_of (command.Plan files cert) = Plan (names_in files) cert.now
form_of (command.Check files cert) = Check (names_in files) cert.now
form_of (command.PlanTight files) = PlanTight (names_in files)
form_of (command.After task) = After (task_names task)
form_of (command.Fill disks now) = Fill disks.now now.now
form_of (command.Audit disks now) = Audit disks.now now.now
form_of (command.Rehearse case) = Rehearse case.disks.now case.per_pair.now case.limit.now
form_of (command.Move task) = Move (task_names task)
form_of (command.Resume task) = Resume (task_names task)
form_of (command.Drill files) = Drill (names_in files)
form_of (command.Halt task layout) = Halt (task_names task) layout.now
form_of (command.Live files script) = Live (names_in files) script.now
form_of (command.Drain disks now disk next) = Drain disks.now now.now disk next.now

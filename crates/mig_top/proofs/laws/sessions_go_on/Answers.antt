use Rattle.mig_top.proofs.Following.{halted, resumed, served}
use Rattle.mig_top.proofs.laws.sessions_go_on.Goals as goal

pub returns-clause-resumed : goal.returns-clause-resumed
returns-clause-resumed g c = λ read contents session status may serves. resumed _ may serves status

pub returns-clause-halted : goal.returns-clause-halted
returns-clause-halted g c = λ read contents session status files layout may serves. halted _ may serves files layout status

pub returns-clause-served : goal.returns-clause-served
returns-clause-served g c = λ read other contents session status may serves same. served _ may serves other same status

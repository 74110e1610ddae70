use Rattle.mig_commands.proofs.Common.{IsScriptError, subst}
use Rattle.mig_commands.proofs.live.read_script_text.Goals as goal

pub returns-in-Err-Line-clause-takes : goal.returns-in-Err-Line-clause-takes
returns-in-Err-Line-clause-takes c = record { passes = tt; stops = subst (IsScriptError c.args.input.now c.args.bytes.now) c.in-Err-Line.field-0-is c.in-Err-Line.ensures.line }

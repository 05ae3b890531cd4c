use Rattle.clap.specs.Words.{app_of}
use Rattle.rt1553_tool_args.proofs.AskLaws.{asked_of}
use Rattle.rt1553_tool_args.proofs.args.read_tool_args.Goals as goal

pub returns-in-Ok : goal.returns-in-Ok
returns-in-Ok g c = asked_of c.in-Ok.matches c.tool_command_of.result (app_of c.in_ok-program.field-0) _ c.in-Ok.ensures.matches c.tool_command_of.ensures

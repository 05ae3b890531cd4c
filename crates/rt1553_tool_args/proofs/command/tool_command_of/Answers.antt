use Rattle.std.proofs.Common.{ap, sym, ◌∙◌, option_map}
use Rattle.clap.specs.Matches.{found_of}
use Rattle.clap.specs.Walk.{rows_of}
use Rattle.rt1553_tool_args.proofs.AskLaws.{asked}
use Rattle.rt1553_tool_args.proofs.command.tool_command_of.Goals as goal

pub returns-in-Some : goal.returns-in-Some
returns-in-Some c =
    asked c.args.matches.now c.command_of.result _ (found_of c.in-Some.given.now)
    (sym (ap (option_map (λ p. p.0.now)) c.in-Some.is) ∙ c.subcommand.ensures.name)
    (sym (ap (option_map (λ p. rows_of (found_of p.1.now))) c.in-Some.is) ∙ c.subcommand.ensures.rows)
    c.command_of.ensures.name c.command_of.ensures.asks

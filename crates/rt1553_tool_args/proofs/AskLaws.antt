-- What a command asks for, of the subcommand that clap met.
use Rattle.std.proofs.Common.{◌≡◌, ◌∙◌, ap, sym, List, Some, option_map, Result, Ok, Err, IfOk}
use Rattle.clap.specs.Words.{App, HasMatchesOf, Text, subcommand_name_of, subcommand_rows_of}
use Rattle.clap.specs.Walk.{rows_of}
use Rattle.clap.specs.declared.parser.matches.Found.{Found}
use Rattle.clap.specs.declared.parser.matches.ArgMatches.{ArgMatches}
use Rattle.rt1553_tool_args.specs.declared.args.NoCommand.{NoCommand}
use Rattle.rt1553_tool_args.specs.declared.command.ToolCommand.{ToolCommand}
use Rattle.rt1553_tool_args.specs.Commands.{Asks, IsAskedBy, command_name}

pub asked : (m : ArgMatches) (r : Result ToolCommand NoCommand) (name : Text) (f : Found) → Some name ≡ subcommand_name_of m
    → Some (rows_of f) ≡ option_map (λ p. p.1) (subcommand_rows_of m) → IfOk r (λ command. command_name command ≡ name) → IfOk r (Asks f) → IfOk r (IsAskedBy m)
asked m (Ok command) name f is rows named asks = record {
  found = f;
  name = sym is ∙ ap Some (sym named);
  rows = sym rows;
  asks = asks;
}
asked m (Err fault) name f is rows named asks = tt

-- the same, of what clap made of these words
pub asked_of : (m : ArgMatches) (r : Result ToolCommand NoCommand) (app : App) (words : List Text) → HasMatchesOf app words m → IfOk r (IsAskedBy m)
    → IfOk r (λ command. (app : App) × (m : ArgMatches) × HasMatchesOf app words m × IsAskedBy m command)
asked_of m (Ok command) app words made asks = (app, m, made, asks)
asked_of m (Err fault) app words made asks = tt

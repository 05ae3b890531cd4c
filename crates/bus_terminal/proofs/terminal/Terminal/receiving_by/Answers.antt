use Rattle.std.proofs.Common.{ap, sym, ◌∙◌}
use Rattle.bus_word.specs.Cell.{is_allowed}
use Rattle.terminal_rules.proofs.CellLaw.{is_allowed-cell}
use Rattle.bus_terminal.proofs.terminal.Terminal.receiving_by.Goals as goal

pub unless_wrapped-requires : goal.unless_wrapped-requires
unless_wrapped-requires g c =
    sym (ap is_allowed (rw c.in-Some-OwnReceive.is at c.in-Some-OwnReceive.field-0-is)) ∙ is_allowed-cell c.args.decoded.command _ (sym c.args.decoded.of_command ∙ c.in-Some-OwnReceive.is)

pub unless_wrapped-requires-in-Some-BroadReceive : goal.unless_wrapped-requires-in-Some-BroadReceive
unless_wrapped-requires-in-Some-BroadReceive g c =
    sym (ap is_allowed (rw c.in-Some-BroadReceive.is at c.in-Some-BroadReceive.field-0-is)) ∙ is_allowed-cell c.args.decoded.command _ (sym c.args.decoded.of_command ∙ c.in-Some-BroadReceive.is)

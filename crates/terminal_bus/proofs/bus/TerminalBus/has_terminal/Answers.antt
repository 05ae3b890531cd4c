use Rattle.std.proofs.Common.{ap, ◌∙◌}
use Rattle.terminal_rules.specs.LookBack.{some}
use Rattle.terminal_bus.specs.inner.Seats.{is_addressed}
use Rattle.terminal_bus.proofs.Places.{some_addressed}
use Rattle.terminal_bus.proofs.bus.TerminalBus.has_terminal.Goals as goal

pub returns : goal.returns
returns g c members s =
    c.has_address.ensures ∙ ap (some (is_addressed c.args.address)) c.as_slice.ensures.value ∙ some_addressed g.L.Legality.is_legal members c.args.address c.args.self.now.seats.items s

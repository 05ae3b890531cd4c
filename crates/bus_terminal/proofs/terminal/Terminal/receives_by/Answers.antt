use Rattle.std.proofs.Common.{◌∙◌}
use Rattle.bus_terminal.proofs.WholeLaw.{receives_if}
use Rattle.bus_terminal.proofs.terminal.Terminal.receives_by.Goals as goal

pub returns-then-starts_alone : goal.returns-then-starts_alone
returns-then-starts_alone g c =
    receives_if g.L.Legality.is_legal c.args.bus c.of-decoded.result.command c.args.self.now (c.starts_alone.ensures c.if-starts_alone.true) c.args.bits (c.of-decoded.ensures ∙ c.of.ensures) c.if-not-self.true
    c.receiving_by.result c.receiving_by.ensures

use Rattle.std.proofs.Common.{◌∙◌}
use Rattle.bus_terminal.proofs.WholeLaw.{message_stands}
use Rattle.bus_terminal.proofs.terminal.Terminal.take_message.Goals as goal

pub returns-then-starts_alone : goal.returns-then-starts_alone
returns-then-starts_alone g c P h it ds e count s =
    message_stands g.L.Legality.is_legal c.args.bus c.of-decoded.result c.args.bits c.args.self.now c.start_alone.new.self c.settle.new.self (c.starts_alone.ensures c.if-starts_alone.true)
    (c.of-decoded.ensures ∙ c.of.ensures) c.start_alone.ensures.starts P h s it ds c.in-Some.cell c.in-Some.is (c.settle.ensures.in_progress ∙ c.start_alone.ensures.in_progress) c.settle.ensures.settles e count

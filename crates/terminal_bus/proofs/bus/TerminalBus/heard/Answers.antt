use Rattle.terminal_bus.proofs.CameLaw.{heard_law}
use Rattle.terminal_bus.proofs.bus.TerminalBus.heard.Goals as goal

pub returns : goal.returns
returns g c members m stands kept at =
    heard_law g.L.Legality.is_legal members c.args.bus c.args.self.now.seats.items c.as_slice-seats.result.now stands kept c.as_slice-seats.ensures.value c.args.place m at
    _ c.sent_by.ensures _ c.heard_unless.ensures

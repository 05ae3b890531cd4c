use Rattle.bus_terminal.proofs.terminal.Terminal.take_apart.Goals as goal

pub returns : goal.returns
returns g c P h it ds e count s = c.take_received.ensures P _ it ds e count (c.take_valid.ensures.takes P h s)

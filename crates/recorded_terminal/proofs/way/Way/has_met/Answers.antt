use Rattle.recorded_terminal.proofs.WayLaws.{met}
use Rattle.recorded_terminal.proofs.way.Way.has_met.Goals as goal

pub returns : goal.returns
returns g c e P h k at bt =
    met P h k c.registers-own.result.now c.registers-others.result.now (c.is_idle.ensures c.if-not-is_idle.false P h at) (c.is_idle-2.ensures c.if-not-is_idle-2.false P k bt)
    (c.registers-own.ensures P h at.follows) (c.registers-others.ensures P k bt.follows) (c.are_alike.ensures e)

use Rattle.std.proofs.Common.{◌-◌, length, arith, ◌∙◌, sym}
use Rattle.bus_profile.proofs.Parts.{trim_end-space, trim_end-same}
use Rattle.bus_profile.proofs.ranges.trim_end.Goals as goal

pub returns-then-last-ne32 : goal.returns-then-last-ne32
returns-then-last-ne32 c = sym (trim_end-same c.loop-rest.rest.now (length c.loop-rest.rest.now - 1) (omega arith) c.if-last-ne32.true) ∙ c.loop-rest.invariant

pub loop-rest-preserved : goal.loop-rest-preserved
loop-rest-preserved c = trim_end-space c.loop-rest.rest.now (length c.loop-rest.rest.now - 1) (omega arith) c.if-last-ne32.false ∙ c.loop-rest.invariant

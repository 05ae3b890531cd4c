use Rattle.std.proofs.Common.{◌≤◌, length, take, arith}
use Rattle.std.proofs.lemmas.Grind.{common_steps}
use Rattle.bus_script.proofs.RunLaws.{filled}
use Rattle.bus_script.proofs.run.fill.Goals as goal

pub returns-in-Ok-clause-ok : goal.returns-in-Ok-clause-ok
returns-in-Ok-clause-ok g c =
    let out = c.read.new.out in
    let n : c.in-Ok.count ≤ length out = c.in-Ok.ensures.count in (
      take c.in-Ok.count out,
      grind (arith, common_steps),
      filled c.args.buffered c.in-Ok.count c.args.buffer.now out (omega arith) n,
      c.in-Ok.ensures.bytes.0,
      λ none. c.in-Ok.ensures.bytes.1 none (omega arith),
    )

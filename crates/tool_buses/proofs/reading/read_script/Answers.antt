use Rattle.std.proofs.Common.{◌≡◌, length, arith}
use Rattle.script_terminals.specs.BusReading.{is_on_bus}
use Rattle.script_terminals.specs.Playing.{reading_of}
use Rattle.script_terminals.proofs.PlayLaws.{none_left}
use Rattle.tool_buses.proofs.BusLefts.{reads_line, reads_fault, reads_all}
use Rattle.tool_buses.proofs.reading.read_script.Goals as goal

pub loop-rest-preserved : goal.loop-rest-preserved
loop-rest-preserved c = (
  omega (arith, c.loop-rest.invariant.0, c.first_line.ensures.shorter),
  λ members stands.
      reads_line (is_on_bus members) (reading_of members c.args.script.now) c.loop-rest.said.items _ c.loop-rest.line c.loop-rest.rest.now c.first_line.result.0.now c.first_line.result.1.now c.in-Ok.event
      c.first_line.ensures.lines (c.in-Ok.ensures members stands) c.in_ok-push_event-in-Ok.ensures (c.loop-rest.invariant.1 members stands),
)

pub returns-in-Err : goal.returns-in-Err
returns-in-Err c members stands =
    reads_fault (is_on_bus members) (reading_of members c.args.script.now) c.loop-rest.said.items c.loop-rest.line c.loop-rest.rest.now c.first_line.result.0.now c.first_line.result.1.now c.in-Err.fault
    c.first_line.ensures.lines (c.in-Err.ensures members stands) (c.loop-rest.invariant.1 members stands)

pub returns : goal.returns
returns c members stands =
    let empty : length c.loop-rest.rest.now ≡ 0 = none_left _ c.is_empty.result c.is_empty.ensures c.loop-rest-test.false in
    reads_all (is_on_bus members) (reading_of members c.args.script.now) c.loop-rest.said.items c.loop-rest.line c.loop-rest.rest.now empty (c.loop-rest.invariant.1 members stands)

use Rattle.std.proofs.Common.{◌∙◌, refl, sym, arith}
use Rattle.rt1553.specs.declared.fault.EngineFault.TheVariants.{Script}
use Rattle.rt1553_page.specs.Listed.{script_rows}
use Rattle.rt1553_page.proofs.page_messages.Goals as goal

pub returns-then-listed-clause-no_room : goal.returns-then-listed-clause-no_room
returns-then-listed-clause-no_room c = λ no_room.
    let e = c.list_rows-ended.ensures in
    let size = e.size in
    let over = e.held.2.over c.if-listed.true in (
      (script_rows e.held.0 c.args.script.now, record { value = c.in-Ok.normal; description = e.held.0; of = c.in-Ok.ensures.ok; same = e.held.1; gives = refl }, omega (arith, size, over)),
      refl,
      refl,
    )

pub returns-in-Some-clause-refused : goal.returns-in-Some-clause-refused
returns-in-Some-clause-refused c = λ not_done has_room.
    let e = c.list_rows-ended.ensures in (
      refl,
      record {
        fault = Script c.in-Some.why;
        not_loaded = tt;
        stopped = (
          record { value = c.in-Ok.normal; description = e.held.0; of = c.in-Ok.ensures.ok; same = e.held.1; gives = e.held.2.whole c.if-listed.false },
          sym e.fault ∙ c.in-Some.is,
        );
        tells = c.tell_fault-in-Some.ensures.told;
      },
    )

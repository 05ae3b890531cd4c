use Rattle.std.proofs.Common.{◌≡◌, ◌+◌, ◌-◌, ◌∙◌, sym, arith, take, refl, length-set}
use Rattle.std.proofs.lemmas.List.{take_more_set, take_all}
use Rattle.line_format.specs.Reading.{read}
use Rattle.line_format.specs.Views.{spot}
use Rattle.bus_canon.proofs.Steps.{with_none}
use Rattle.rt1553_live.specs.Text.{held_lines}
use Rattle.rt1553_live.proofs.HeldLaws.{held_more, held_err, held_end}
use Rattle.rt1553_live.proofs.held_lines.held_lines.Goals as goal

pub loop-index-init : goal.loop-index-init
loop-index-init c = record { left = with_none (read (held_lines 1 30) (spot c.args.lines)); whole = refl }

pub returns-in-Err : goal.returns-in-Err
returns-in-Err c =
    sym c.loop-index.invariant.left
    ∙ held_err (c.loop-index.index + 1) (30 - c.loop-index.index) (take c.loop-index.index c.loop-index.found) (spot c.loop-index.rest) c.in-Err.wrong.line (omega arith) c.in-Err.ensures

pub loop-index-preserved : goal.loop-index-preserved
loop-index-preserved c =
    let at = c.loop-index.index in
    let back : 30 - (at + 1) ≡ 30 - at - 1 = omega arith in
    record {
      left =
          rw (take_more_set c.loop-index.found at c.in-Ok.read.0 (omega (arith, c.loop-index.invariant.whole)), back)
          (sym (held_more (at + 1) (30 - at) (take at c.loop-index.found) (spot c.loop-index.rest) (spot c.in-Ok.read.1) c.in-Ok.read.0 (omega arith) c.in-Ok.ensures)
          ∙ c.loop-index.invariant.left);
      whole = rw length-set c.loop-index.invariant.whole;
    }

pub returns : goal.returns
returns c =
    let at_end : c.loop-index.index ≡ 30 = omega arith in
    let none : 30 - c.loop-index.index ≡ 0 = omega arith in
    let all : take c.loop-index.index c.loop-index.found ≡ c.loop-index.found = take_all c.loop-index.index c.loop-index.found (omega (arith, c.loop-index.invariant.whole)) in
    sym (rw (none, all) at c.loop-index.invariant.left) ∙ held_end (c.loop-index.index + 1) c.loop-index.found (spot c.loop-index.rest)

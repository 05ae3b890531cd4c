use Rattle.std.proofs.Common.{◌∙◌, sym, ap, arith}
use Rattle.script_lines.specs.Text.{lines_of}
use Rattle.rt1553_verify.specs.Heading.{named}
use Rattle.rt1553_verify.proofs.HeadingLaws.{named-here, named-next, named-ends, named-nowhere}
use Rattle.rt1553_verify.proofs.heading.named.Goals as goal

pub returns-in-Some : goal.returns-in-Some
returns-in-Some c =
    sym (c.loop-rest.invariant ∙ ap (named c.args.key.now) c.first_line.ensures.lines
    ∙ named-here c.args.key.now c.first_line.result.0.now (lines_of c.first_line.result.1.now) c.in-Some.name.now (sym c.in-Some.ensures.value))

pub returns-in-None : goal.returns-in-None
returns-in-None c =
    sym (c.loop-rest.invariant ∙ ap (named c.args.key.now) c.first_line.ensures.lines
    ∙ named-ends c.args.key.now c.first_line.result.0.now (lines_of c.first_line.result.1.now) (sym c.in_default.ensures.value) (sym c.in-None.ensures.value))

pub loop-rest-preserved : goal.loop-rest-preserved
loop-rest-preserved c =
    c.loop-rest.invariant ∙ ap (named c.args.key.now) c.first_line.ensures.lines
    ∙ named-next c.args.key.now c.first_line.result.0.now _ (lines_of c.first_line.result.1.now) (sym c.in_default.ensures.value) (sym c.in-Some-after.ensures.value)

pub returns : goal.returns
returns c = sym (c.loop-rest.invariant ∙ named-nowhere c.args.key.now c.loop-rest.rest.now (grind arith))

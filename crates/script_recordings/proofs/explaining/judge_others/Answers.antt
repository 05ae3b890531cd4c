use Rattle.std.proofs.Common.{◌∙◌, sym}
use Rattle.std.proofs.lemmas.Result.{err_from_is_err_and}
use Rattle.bus_legal.specs.Parts.{description_in}
use Rattle.rt1553_verify.specs.Reader.{left_in, turns_left}
use Rattle.script_recordings.proofs.PartLaws.{others_none, others_more, others_refused, others_begun, smaller_by}
use Rattle.script_recordings.proofs.explaining.judge_others.Goals as goal

pub parts-init : goal.parts-init
parts-init g c = others_none (description_in c.args.normal.now) (left_in g.B.Read.remaining c.args.reader.now.script) c.args.reader.now.silence c.unjudged-told.result c.unjudged-told.ensures

pub parts-preserved : goal.parts-preserved
parts-preserved g c =
    others_more (description_in c.args.normal.now) (left_in g.B.Read.remaining c.args.reader.now.script) c.args.reader.now.silence (left_in g.B.Read.remaining c.parts.reader.script)
    (left_in g.B.Read.remaining c.judge_later.new.reader.script) c.parts.reader.silence c.judge_later.new.reader.silence c.parts.told c.in_ok-part.part c.in_ok-told.told c.parts.parts
    (sym c.is_some.ensures ∙ c.parts-test.true) c.parts.invariant c.in_ok-part.ensures.judged c.in_ok-told.ensures

pub parts-smaller : goal.parts-smaller
parts-smaller g c =
    smaller_by c.parts.reader.silence c.judge_later.new.reader.silence (turns_left c.parts.reader.script) (turns_left c.judge_later.new.reader.script) (sym c.is_some.ensures ∙ c.parts-test.true)
    c.in_ok-part.ensures.fewer

pub returns-in_err-part-clause-refused : goal.returns-in_err-part-clause-refused
returns-in_err-part-clause-refused g c =
    let D = description_in c.args.normal.now in
    let all = left_in g.B.Read.remaining c.args.reader.now.script in
    let left = left_in g.B.Read.remaining c.parts.reader.script in
    let some = sym c.is_some.ensures ∙ c.parts-test.true in
    let r = c.from_residual in
    let p = err_from_is_err_and r.result r.ensures.1 in
    rw (p.1, p.2) (
      others_begun D all c.args.reader.now.silence left c.parts.reader.silence c.parts.told c.parts.parts some c.parts.invariant,
      others_refused D all c.args.reader.now.silence left c.parts.reader.silence c.parts.told c.parts.parts _ some c.parts.invariant c.in_err-part.ensures.refused,
    )

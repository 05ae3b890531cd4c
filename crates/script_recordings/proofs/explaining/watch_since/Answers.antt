use Rattle.std.proofs.lemmas.Result.{err_from_is_err_and}
use Rattle.bus_legal.specs.Description.{Description}
use Rattle.bus_legal.specs.Parts.{description_in}
use Rattle.rt1553.proofs.EngineLaws.{AnswersAlike}
use Rattle.rt1553_verify.specs.Reader.{left_in}
use Rattle.script_recordings.specs.Seen.{AreNoRecording}
use Rattle.script_recordings.proofs.ReadLaws.{of_script}
use Rattle.script_recordings.proofs.SinceLaws.{normal_alike, never_told}
use Rattle.script_recordings.proofs.PartLaws.{rest_refused, judged_since}
use Rattle.script_recordings.proofs.explaining.watch_since.Goals as goal

pub returns-clause-judged : goal.returns-clause-judged
returns-clause-judged g c =
    judged_since (description_in c.args.normal.now) (g.B.Read.remaining c.args.input) (left_in g.B.Read.remaining c.new-reader.result.script) (left_in g.B.Read.remaining c.judge_later.new.reader.script)
    c.judge_later.new.reader.silence c.in_ok-first.first c.in_ok-others.others c.in_ok-told.told c.in_ok-others.silences c.new-reader.ensures.reads
    c.in_ok-first.ensures.judged c.in_ok-others.ensures.judged c.in_ok-told.ensures

pub returns-clause-never : goal.returns-clause-never
returns-clause-never g c P reached =
    let v = c.args.normal.now in
    let D : Description = description_in v in
    let alike : AnswersAlike D P = normal_alike v P c.in_ok-first.ensures.normal reached in
    never_told D P alike (g.B.Read.remaining c.args.input) c.in_ok-told.told.after c.in_ok-told.told.first c.in_ok-told.told.warning c.in_ok-told.told.answers c.in_ok-others.silences c.in_ok-told.told.stretches (returns-clause-judged g c)

pub returns-in_err-others-clause-refused : goal.returns-in_err-others-clause-refused
returns-in_err-others-clause-refused g c =
    let all = left_in g.B.Read.remaining c.new-reader.result.script in
    let r = c.from_residual-in_err-others in
    let p = err_from_is_err_and r.result r.ensures.1 in
    rw (p.1, p.2) (of_script (g.B.Read.remaining c.args.input) all (λ said. AreNoRecording said _) c.new-reader.ensures.reads
    (rest_refused all (left_in g.B.Read.remaining c.judge_later.new.reader.script) c.judge_later.new.reader.silence _ _ c.in_ok-first.ensures.judged
    c.in_err-others.ensures.refused.0 c.in_err-others.ensures.refused.1))

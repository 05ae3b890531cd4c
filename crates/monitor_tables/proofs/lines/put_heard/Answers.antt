use Rattle.std.proofs.Common.{subst, ◌∙◌}
use Rattle.std.proofs.lemmas.Result.{on_ok_weaker}
use Rattle.std.specs.Io.KnownBytes.{Appends}
use Rattle.monitor_tables.specs.Recording.{HeardAt}
use Rattle.monitor_tables.proofs.PutLaws.{puts-one}
use Rattle.monitor_tables.proofs.lines.put_heard.Goals as goal

pub returns-clause-puts : goal.returns-clause-puts
returns-clause-puts g c =
    let n : HeardAt = record { time = c.args.time.now; heard = c.args.heard } in
    on_ok_weaker c.write_all.result
    (λ wrote. puts-one c.args.sink.now c.write_all.new.writer n (record { time = c.requires; words = c.has_words.ensures })
    (subst (Appends (g.W.Sink.written c.args.sink.now) (g.W.Sink.written c.write_all.new.writer)) (c.as_bytes.ensures.value ∙ c.as_str.ensures.value ∙ c.heard_lines-lines.ensures) wrote))
    c.write_all.ensures.ok

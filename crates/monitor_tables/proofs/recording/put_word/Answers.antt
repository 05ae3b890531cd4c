use Rattle.std.proofs.lemmas.Result.{on_ok_weaker}
use Rattle.monitor_tables.proofs.RowLaws.{row-puts}
use Rattle.monitor_tables.proofs.recording.put_word.Goals as goal

pub returns-clause-puts : goal.returns-clause-puts
returns-clause-puts g c =
    on_ok_weaker c.put_heard.result
    (λ puts. (
      row-puts c.args.listening.now c.args.row.now c.args.next c.silence_before-silence.result c.hear-heard.result c.as_str.result.now
          c.silence_before-silence.ensures c.hear-heard.ensures.heard c.as_str.ensures.value c.in_ok-put_silence.ensures.puts puts,
      c.hear-heard.ensures.known,
    ))
    c.put_heard.ensures.puts

use Rattle.std.proofs.Common.{◌∙◌}
use Rattle.std.proofs.lemmas.Result.{on_ok_weaker}
use Rattle.monitor_tables.proofs.RowLaws.{message-puts}
use Rattle.monitor_tables.proofs.recording.put_message_row.Goals as goal

pub returns-clause-puts : goal.returns-clause-puts
returns-clause-puts g c =
    on_ok_weaker c.put_message.result
    (λ puts. (
      message-puts c.args.times.now c.args.message.now.row c.silence_between-silence.result c.late_gap-late.result c.as_str.result.now c.as_slice.result.now
          c.silence_between-silence.ensures c.late_gap-late.ensures c.as_str.ensures.value (c.as_slice.ensures.value ∙ c.requires.heard) c.in_ok-put_silence.ensures.puts puts,
      c.take.ensures,
    ))
    c.put_message.ensures.puts

use Rattle.std.proofs.lemmas.Result.{on_ok_weaker}
use Rattle.monitor_tables.proofs.RowLaws.{silence-puts}
use Rattle.monitor_tables.proofs.recording.put_silence.Goals as goal

pub returns-clause-puts : goal.returns-clause-puts
returns-clause-puts g c =
    on_ok_weaker c.put_some-9.result
    (λ puts. silence-puts c.args.silence.now c.in_ok-put_some.ensures.puts c.in_ok-put_some-2.ensures.puts c.in_ok-put_some-3.ensures.puts c.in_ok-put_some-4.ensures.puts
    c.in_ok-put_some-5.ensures.puts c.in_ok-put_some-6.ensures.puts c.in_ok-put_some-7.ensures.puts c.in_ok-put_some-8.ensures.puts puts)
    c.put_some-9.ensures.puts

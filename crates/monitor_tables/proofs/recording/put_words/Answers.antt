use Rattle.monitor_tables.proofs.TableLaws.{words-whole, words-part}
use Rattle.monitor_tables.proofs.recording.put_words.Goals as goal

pub returns-in_ok-put_silence-in-None-clause-puts : goal.returns-in_ok-put_silence-in-None-clause-puts
returns-in_ok-put_silence-in-None-clause-puts g c =
    words-whole c.in_ok-put.put c.in-None.is c.new-hearing.ensures c.in_ok-put.ensures.puts c.in_ok-put_held.ensures.puts c.last_silence.ensures c.in_ok-put_silence-in-None.ensures.puts

pub returns-in-Some-clause-puts : goal.returns-in-Some-clause-puts
returns-in-Some-clause-puts g c = words-part c.in_ok-put.put _ c.in-Some.is c.new-hearing.ensures c.in_ok-put.ensures.puts c.in_ok-put_held.ensures.puts.0

pub put_held-requires : goal.put_held-requires
put_held-requires g c = c.in_ok-put.ensures.puts.2.timed

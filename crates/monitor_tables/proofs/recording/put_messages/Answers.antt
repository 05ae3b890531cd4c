use Rattle.monitor_tables.proofs.TableLaws.{messages-all, messages-part}
use Rattle.monitor_tables.proofs.recording.put_messages.Goals as goal

pub returns-in_ok-put_silence-in-None-clause-puts : goal.returns-in_ok-put_silence-in-None-clause-puts
returns-in_ok-put_silence-in-None-clause-puts g c = messages-all c.in_ok-put.put c.in-None.is c.new-times.ensures c.in_ok-put.ensures.puts c.silence_behind.ensures c.in_ok-put_silence-in-None.ensures.puts

pub returns-in-Some-clause-puts : goal.returns-in-Some-clause-puts
returns-in-Some-clause-puts g c = messages-part c.in_ok-put.put _ c.in-Some.is c.new-times.ensures c.in_ok-put.ensures.puts

use Rattle.std.proofs.Common.{drop, take, ap}
use Rattle.byte_streams.proofs.SinkLaws.{buffered-passed, drop-none}
use Rattle.byte_streams.proofs.wrapped.FromWriteSink.write.Goals as goal

pub returns-then-bytes-gt-CAPACITY-clause-bytes : goal.returns-then-bytes-gt-CAPACITY-clause-bytes
returns-then-bytes-gt-CAPACITY-clause-bytes g c =
    buffered-passed _ _ _ (drop c.drain.new.self.taken (take c.drain.new.self.len c.drain.new.self.buffer)) c.args.bytes.now c.write.result
    c.drain.ensures.bytes (drop-none c.drain.new.self.taken (take c.drain.new.self.len c.drain.new.self.buffer) (ap (λ n. take n c.drain.new.self.buffer) c.in_ok-drain.ensures.empty)) c.write.ensures.bytes

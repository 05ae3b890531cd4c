use Rattle.std.proofs.Common.{take, refl}
use Rattle.byte_streams.proofs.SinkLaws.{buffered-taken}
use Rattle.byte_streams.proofs.wrapped.FromWrite.drain.Goals as goal

pub returns-then-self-2-clause-bytes : goal.returns-then-self-2-clause-bytes
returns-then-self-2-clause-bytes g c =
    buffered-taken _ _ (take c.args.self.now.len c.args.self.now.buffer) (take c.args.self.now.len c.args.self.now.buffer) c.args.self.now.taken c.write_front.result refl c.write_front.ensures.bytes

use Rattle.std.proofs.Common.{take, drop, take-append-drop}
use Rattle.byte_streams.proofs.writing.write_all.Goals as goal

pub returns-then-write_front-bytes-clause-err : goal.returns-then-write_front-bytes-clause-err
returns-then-write_front-bytes-clause-err g c = (
  take c.write_front.result c.args.bytes.now,
  drop c.write_front.result c.args.bytes.now,
  take-append-drop c.write_front.result c.args.bytes.now,
  c.write_front.ensures.bytes,
)

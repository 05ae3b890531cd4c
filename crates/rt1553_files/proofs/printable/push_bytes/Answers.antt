use Rattle.std.proofs.Common.{string_bytes}
use Rattle.std.specs.List.{flat_map}
use Rattle.std.specs.Char.Escape.{escape_ascii}
use Rattle.rt1553_files.proofs.ShownLaws.{written_more, byte_step}
use Rattle.rt1553_files.proofs.printable.push_bytes.Goals as goal

pub loop-byte-preserved : goal.loop-byte-preserved
loop-byte-preserved c =
    let x = c.in-Some.byte in
    let done = c.loop-byte.yielded in
    let was = c.loop-byte.invariant in
    let written = written_more (string_bytes c.args.text.now) (string_bytes c.loop-byte.text) (string_bytes c.push.new.self) done
    c.from.result x was.written c.from.ensures c.in_ok-push.ensures.bytes in
    record {
      written = written;
      shows = byte_step (flat_map escape_ascii c.args.bytes.now) done _ _ _ _ _ x was.shows c.in-Some.ensures.steps;
    }

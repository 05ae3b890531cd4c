use Rattle.std.proofs.Common.{arith}
use Rattle.std.proofs.lemmas.Grind.{common_steps}
use Rattle.std.proofs.lemmas.Bool.Decides.{nat_tests}
use Rattle.byte_streams.proofs.SinkLaws.{Appends-more}
use Rattle.byte_streams.proofs.writing.write_front.Goals as goal

pub loop-at-preserved : goal.loop-at-preserved
loop-at-preserved g c = record {
  within = grind (arith, common_steps);
  bytes = Appends-more _ _ _ c.args.bytes.now c.loop-at.at c.in-Ok.count c.loop-at.invariant.bytes c.in-Ok.ensures.bytes;
  failed = grind (arith, nat_tests, common_steps);
}

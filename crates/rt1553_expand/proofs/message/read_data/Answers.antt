use Rattle.std.proofs.Common.{arith}
use Rattle.rt1553_expand.proofs.DataLaws.{data-more, data-missing}
use Rattle.rt1553_expand.proofs.message.read_data.Goals as goal

pub returns-in_default-clause-refused : goal.returns-in_default-clause-refused
returns-in_default-clause-refused c =
    data-missing c.args.count _ c.args.text.now c.loop.words.items c.loop.rest.now (omega (arith, c.loop-test.true)) c.in_default.ensures.value c.loop.invariant.left

pub loop-preserved : goal.loop-preserved
loop-preserved c = record {
  left = data-more c.args.count c.args.count c.loop.counter c.in-Some.word c.args.text.now c.loop.words.items c.push.new.self.items c.loop.rest.now c.in-Some.others.now c.loop-test.true c.in-Some.ensures.value
      c.push.ensures.items c.loop.invariant.left;
  few = omega (arith, c.push.ensures.len, c.loop.invariant.few);
}

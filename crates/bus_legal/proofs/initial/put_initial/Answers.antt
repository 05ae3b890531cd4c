use Rattle.std.proofs.Common.{◌-◌, length-set, ◌∙◌}
use Rattle.bus_legal.proofs.Words.{AreWords-set}
use Rattle.bus_legal.proofs.InitialSteps.{word-put}
use Rattle.bus_legal.proofs.initial.put_initial.Goals as goal

pub loop-entry-preserved : goal.loop-entry-preserved
loop-entry-preserved c =
    let entry = c.entry-item.result in
    let at = c.loop-entry.entry-index in
    let table = c.loop-entry.table in
    let block = c.put_words.new.block in
    let before = c.loop-entry.invariant in
    record {
      words = λ s i l k.
          word-put c.args.entries.now at entry table c.from.result block _ s i c.loop-entry-test.true c.entry-item.is c.from.ensures before.whole l
          (c.put_words.ensures.words i k) (before.words s i l k);
      blocks = λ are. AreWords-set table (c.from.result - 1) block (before.blocks are) c.put_words.ensures.block;
      whole = length-set table _ _ ∙ before.whole;
    }

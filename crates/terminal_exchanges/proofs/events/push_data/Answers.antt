use Rattle.std.proofs.Common.{◌++◌, [], ◌∷◌, ◌+◌, ap, refl, ◌∙◌, arith}
use Rattle.terminal_exchanges.specs.Exchanges.{data_event}
use Rattle.terminal_exchanges.proofs.EventLaws.{words-more}
use Rattle.terminal_exchanges.proofs.events.push_data.Goals as goal

pub loop-zero-preserved : goal.loop-zero-preserved
loop-zero-preserved c = record {
  items =
      c.push_valid_word-in-loop-zero.ensures.items
      ∙ (ap (λ events. events ++ data_event 0 ∷ []) c.loop-zero.invariant.items
      ∙ words-more c.args.script.now.items c.in-Some.word c.loop-zero._zero (c.loop-zero._zero + 1) refl);
  long = omega arith;
}

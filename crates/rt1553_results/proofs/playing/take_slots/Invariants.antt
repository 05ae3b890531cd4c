use Rattle.std.proofs.Common.{◌≡◌, ◌≤◌, ◌-◌, List, [], ◌++◌}
use Rattle.arrayvec.specs.ArrayVec.{array_vec_len}
use Rattle.bus_legal.specs.Description.{Description}
use Rattle.terminal_rules.specs.declared.event.Event.{Event}
use Rattle.terminal_rules.specs.Out.{outs_from}
use Rattle.terminal_exchanges.specs.Exchanges.{slots_then}
use Rattle.terminal_exchanges.specs.ExchangeLaws.{after_slots}
use Rattle.bus_terminal.specs.Stands.{StandsAt}
use Rattle.rt1553_results.specs.Rows.{words_sent}
use Rattle.rt1553_results.proofs.playing.take_slots.Given as goal

abbrev pub invariant-loop-i : goal.invariant-loop-i
invariant-loop-i g l = record {
  room : array_vec_len l.reply ≤ l.i;
  sent :
      (P : Description) (h : List Event) → StandsAt g.L.Legality.is_legal P h l.initial.terminal
      → (k : List Event) × StandsAt g.L.Legality.is_legal P k l.terminal
      × (after_slots (l.slots - l.i) k ≡ after_slots l.slots h)
      × (l.reply.items ++ words_sent (outs_from P k (slots_then (l.slots - l.i) [])) ≡ words_sent (outs_from P h (slots_then l.slots [])));
}

use Rattle.std.proofs.Common.{◌≡◌, ◌-◌, List, replicate}
use Rattle.bus_legal.specs.Description.{Description}
use Rattle.terminal_rules.specs.declared.event.Event.{Event}
use Rattle.terminal_exchanges.specs.ExchangeLaws.{after_words}
use Rattle.bus_terminal.specs.Stands.{StandsAt}
use Rattle.rt1553_results.proofs.playing.take_zeros.Given as goal

abbrev pub invariant-loop-i : goal.invariant-loop-i
invariant-loop-i g l = (P : Description) (h : List Event) → StandsAt g.L.Legality.is_legal P h l.initial.terminal
    → (k : List Event) × StandsAt g.L.Legality.is_legal P k l.terminal × (after_words (replicate (l.count - l.i) 0) k ≡ after_words (replicate l.count 0) h)

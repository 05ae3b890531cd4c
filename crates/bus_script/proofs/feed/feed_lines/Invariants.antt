use Rattle.std.proofs.Common.{List, ◌-◌}
use Rattle.terminal_rules.specs.declared.event.Event.{Event}
use Rattle.bus_script.specs.inner.Fed.{Fed}
use Rattle.bus_script.proofs.feed.feed_lines.Given as goal

abbrev pub invariant-lines : goal.invariant-lines
invariant-lines g l = (es : List Event) × Fed g.L.Legality.is_legal g.W.Sink.written (l.fn.terminal, l.fn.writer) (l.terminal, l.writer) l.fn.counts l.now l.chunk l.at es

abbrev pub decreases-lines : goal.decreases-lines
decreases-lines g l = 1048577 - l.now.lines
